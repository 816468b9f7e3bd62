-- Variables below a count: what a replacement leaves.
use Rattle.std.proofs.Common.{ℕ, zero, suc, ◌≤◌, true, List, [], ◌∷◌, IsTrue, refl}
use Rattle.lc_term.specs.Lists.{Every}
use Rattle.lc_term.specs.Syntax.{Term, Variable, Column, Formula}
use Rattle.lc_term.specs.Places.{Test}
use Rattle.lc_term.specs.Replacement.{replace_term, replace, replacing}
use Rattle.lc_term.specs.Said.{term_at, told}
use Rattle.lc_term.proofs.Closed.{Passes, every_term_passes, every_formula_passes}
use Rattle.lc_kernel.specs.Below.{below, term_below, column_below, formula_below}
use Rattle.lc_kernel.proofs.InUse.{Keeps, term_below-replace, below-replace, nat_lt-more}

-- each column expression, each term, each formula has variables below n alone
abbrev pub ColumnsBelow : ℕ → (ℕ → Column) → Type 0
ColumnsBelow n σ = (c : ℕ) → IsTrue (column_below n (σ c))

abbrev pub TermsBelow : ℕ → List Term → Type 0
TermsBelow n ts = Every (λ t. IsTrue (term_below n t)) ts

abbrev pub FormulasBelow : ℕ → List Formula → Type 0
FormulasBelow n fs = Every (λ f. IsTrue (formula_below n f)) fs

-- ---- a test that everything passes

abbrev pub anything : Test
anything = record { columns = λ c. true; variables = λ k. true; bounds = λ k. true }

everything : Passes anything
everything = record { columns = λ c. refl; variables = λ k. refl; bounds = λ k. refl }

-- ---- columns, and all variables: whatever stood there, variables below n are left

pub term_at-below : (n : ℕ) (ts : List Term) → TermsBelow n ts → (k : ℕ) → IsTrue (term_below n (term_at ts k))
term_at-below n [] h k = refl
term_at-below n (t ∷ ts) h zero = h.0
term_at-below n (t ∷ ts) h (suc k) = term_at-below n ts h.1 k

Keeps-telling : (n : ℕ) (σ : ℕ → Column) (τ : List Term) → ColumnsBelow n σ → TermsBelow n τ → Keeps anything n (replacing σ (term_at τ))
Keeps-telling n σ τ s h = record { columns = s; variables = λ k any. term_at-below n τ h k; bounds = λ k. refl }

pub told-below : (n : ℕ) (σ : ℕ → Column) (τ : List Term) → ColumnsBelow n σ → TermsBelow n τ → (f : Formula) → IsTrue (formula_below n (told σ τ f))
told-below n σ τ s h f = below-replace anything n 0 0 (replacing σ (term_at τ)) (Keeps-telling n σ τ s h) f (every_formula_passes (λ k. anything) (λ k. everything) 0 f)

pub told_term-below : (n : ℕ) (σ : ℕ → Column) (τ : List Term) → ColumnsBelow n σ → TermsBelow n τ → (t : Term) → IsTrue (term_below n (replace_term (replacing σ (term_at τ)) t))
told_term-below n σ τ s h t = term_below-replace anything n (replacing σ (term_at τ)) (Keeps-telling n σ τ s h) t (every_term_passes anything everything t)

-- ---- columns alone: variables stay

pub replaced-below : (m n : ℕ) (σ : ℕ → Column) → m ≤ n → ColumnsBelow n σ → (f : Formula) → IsTrue (formula_below m f) → IsTrue (formula_below n (replace (replacing σ Variable) f))
replaced-below m n σ le s f h =
    below-replace (below m) n 0 0 (replacing σ Variable) (record { columns = s; variables = λ k small. nat_lt-more m n k le small; bounds = λ k. refl }) f h
