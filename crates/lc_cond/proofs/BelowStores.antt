-- Variables below a count: columns after stores, and terms in order.
use Rattle.std.proofs.Common.{ℕ, zero, suc, ◌+◌, ◌≤◌, Bool, true, false, ◌==◌, if◌then◌else◌, List, [], ◌∷◌, map, take, IsTrue, refl, arith}
use Rattle.std.proofs.lemmas.Bool.{and_from}
use Rattle.std.proofs.lemmas.Bool.Decides.{nat_tests}
use Rattle.lc_term.specs.Lists.{Every}
use Rattle.lc_term.specs.Syntax.{Term, Variable, Column, Base, Store}
use Rattle.lc_term.specs.Updates.{Update, assigned}
use Rattle.lc_term.specs.Said.{put, puts, said, after, variables_from, reads}
use Rattle.lc_kernel.specs.Below.{term_below, column_below}
use Rattle.lc_cond.proofs.Below.{ColumnsBelow, TermsBelow, told_term-below}
use Rattle.lc_cond.proofs.Elements.{Every-mapped, Every-assigned}
use Rattle.lc_term.proofs.Lists.{Every-take}

-- ---- stores

abbrev pub UpdateBelow : ℕ → Update → Type 0
UpdateBelow n u = IsTrue (term_below n u.index) × IsTrue (term_below n u.value)

one_of : (n : ℕ) (b : Bool) (x y : Column) → IsTrue (column_below n x) → IsTrue (column_below n y) → IsTrue (column_below n (if b then x else y))
one_of n true x y h g = h
one_of n false x y h g = g

pub put-below : (n : ℕ) (σ : ℕ → Column) (u : Update) → ColumnsBelow n σ → UpdateBelow n u → ColumnsBelow n (put σ u)
put-below n σ u s h c = one_of n (u.column == c) (Store (σ c) u.index u.value) (σ c) (and_from _ _ (and_from _ _ (s c) h.0) h.1) (s c)

pub puts-below : (n : ℕ) (σ : ℕ → Column) (us : List Update) → ColumnsBelow n σ → Every (UpdateBelow n) us → ColumnsBelow n (puts σ us)
puts-below n σ [] s h = s
puts-below n σ (u ∷ us) s h = puts-below n (put σ u) us (put-below n σ u s h.0) h.1

pub said-below : (n : ℕ) (σ : ℕ → Column) (τ : List Term) → ColumnsBelow n σ → TermsBelow n τ → (u : Update) → UpdateBelow n (said σ τ u)
said-below n σ τ s h u = (told_term-below n σ τ s h u.index, told_term-below n σ τ s h u.value)

pub after-below : (n : ℕ) (σ : ℕ → Column) (τ : List Term) (us : List Update) → ColumnsBelow n σ → TermsBelow n τ → ColumnsBelow n (after σ τ us)
after-below n σ τ us s h = puts-below n σ (map (said σ τ) us) s (Every-mapped (UpdateBelow n) (said σ τ) us (said-below n σ τ s h))

pub base-below : (n : ℕ) → ColumnsBelow n Base
base-below n c = refl

-- ---- terms in order

pub variable-below : (n k : ℕ) → suc k ≤ n → IsTrue (term_below n (Variable k))
variable-below n k h = grind (arith, nat_tests)

pub variables_from-below : (n k count : ℕ) → k + count ≤ n → TermsBelow n (variables_from k count)
variables_from-below n k zero h = tt
variables_from-below n k (suc count) h = (variable-below n k (omega arith), variables_from-below n (suc k) count (omega arith))

pub reads-below : (n : ℕ) (σ : ℕ → Column) (cs : List ℕ) (t : Term) → ColumnsBelow n σ → IsTrue (term_below n t) → TermsBelow n (reads σ cs t)
reads-below n σ [] t s h = tt
reads-below n σ (c ∷ cs) t s h = (and_from _ _ (s c) h, reads-below n σ cs t s h)

pub take-below : (n k : ℕ) (ts : List Term) → TermsBelow n ts → TermsBelow n (take k ts)
take-below n k ts h = Every-take (λ t. IsTrue (term_below n t)) k ts h

pub assigned-below : (n : ℕ) (ts : List Term) (rs : List ℕ) (us : List Term) → TermsBelow n ts → TermsBelow n us → TermsBelow n (assigned ts rs us)
assigned-below n ts rs us h g = Every-assigned (λ t. IsTrue (term_below n t)) ts rs us h g
