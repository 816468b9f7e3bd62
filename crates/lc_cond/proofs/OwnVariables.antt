-- Variables that stand for themselves: in a formula that uses no others they are as if none were put in.
use Rattle.std.proofs.Common.{◌≡◌, ℕ, zero, suc, ◌+◌, ◌<◌, ◌&&◌, Bool, true, List, [], ◌∷◌, map, IsTrue, refl, ap, ap₂, ◌∙◌, arith, zero-add}
use Rattle.std.specs.Prelude.{nat_lt}
use Rattle.std.proofs.lemmas.Bool.{and_parts}
use Rattle.std.proofs.lemmas.Bool.Decides.{nat_tests}
use Rattle.lc_term.specs.Lists.{Every}
use Rattle.lc_term.specs.Places.{term_passes, column_passes, passes, all_pass}
use Rattle.lc_term.specs.Replacement.{Replacement, replacing, raising, under, replace_term, replace_column, replace, replace_all}
use Rattle.lc_term.specs.Said.{term_at, told, variables_from}
use Rattle.lc_term.specs.Syntax.{Term, Number, Variable, Bound, Add, Subtract, Multiply, Read, Column, Base, Store, Affine}
use Rattle.lc_term.specs.Syntax.{Formula, Le, Eq, Not, And, Or, Implies, Forall, Exists, Formulas, none, more}
use Rattle.lc_outline.specs.Resolved.{variables_below, IsBelow}

module _ (n : ℕ) where
  -- the same is put in, but for variables that are not below n
  record AreAlike (r q : Replacement) : Type 0 where
    columns : (c : ℕ) → r.columns c ≡ q.columns c
    variables : (k : ℕ) → IsTrue (nat_lt k n) → r.variables k ≡ q.variables k
    bounds : (k : ℕ) → r.bounds k ≡ q.bounds k

  bounds_alike : (r q : Replacement) → AreAlike r q → (k : ℕ) → (under r).bounds k ≡ (under q).bounds k
  bounds_alike r q a zero = refl
  bounds_alike r q a (suc k) = ap (replace_term raising) (a.bounds k)

  under_alike : (r q : Replacement) → AreAlike r q → AreAlike (under r) (under q)
  under_alike r q a = record {
    columns = λ c. ap (replace_column raising) (a.columns c);
    variables = λ k h. ap (replace_term raising) (a.variables k h);
    bounds = bounds_alike r q a;
  }

  mutual
    term_alike : (r q : Replacement) → AreAlike r q → (t : Term) → IsTrue (term_passes (variables_below n) t) → replace_term r t ≡ replace_term q t
    term_alike r q a (Number m) h = refl
    term_alike r q a (Variable k) h = a.variables k h
    term_alike r q a (Bound k) h = a.bounds k
    term_alike r q a (Add t u) h = let p = and_parts (term_passes (variables_below n) t) (term_passes (variables_below n) u) h in ap₂ Add (term_alike r q a t p.0) (term_alike r q a u p.1)
    term_alike r q a (Subtract t u) h = let p = and_parts (term_passes (variables_below n) t) (term_passes (variables_below n) u) h in ap₂ Subtract (term_alike r q a t p.0) (term_alike r q a u p.1)
    term_alike r q a (Multiply m t) h = ap (Multiply m) (term_alike r q a t h)
    term_alike r q a (Read c t) h = let p = and_parts (column_passes (variables_below n) c) (term_passes (variables_below n) t) h in ap₂ Read (column_alike r q a c p.0) (term_alike r q a t p.1)

    column_alike : (r q : Replacement) → AreAlike r q → (c : Column) → IsTrue (column_passes (variables_below n) c) → replace_column r c ≡ replace_column q c
    column_alike r q a (Base c) h = a.columns c
    column_alike r q a (Store c t v) h =
        let p = and_parts (column_passes (variables_below n) c && term_passes (variables_below n) t) (term_passes (variables_below n) v) h in
        let s = and_parts (column_passes (variables_below n) c) (term_passes (variables_below n) t) p.0 in
        λ i. Store (column_alike r q a c s.0 i) (term_alike r q a t s.1 i) (term_alike r q a v p.1 i)
    column_alike r q a (Affine m k) h = refl

  mutual
    formula_alike : (r q : Replacement) → AreAlike r q → (m : ℕ) (f : Formula) → IsTrue (passes (λ d. variables_below n) m f) → replace r f ≡ replace q f
    formula_alike r q a m (Le t u) h = let p = and_parts (term_passes (variables_below n) t) (term_passes (variables_below n) u) h in ap₂ Le (term_alike r q a t p.0) (term_alike r q a u p.1)
    formula_alike r q a m (Eq t u) h = let p = and_parts (term_passes (variables_below n) t) (term_passes (variables_below n) u) h in ap₂ Eq (term_alike r q a t p.0) (term_alike r q a u p.1)
    formula_alike r q a m (Not f) h = ap Not (formula_alike r q a m f h)
    formula_alike r q a m (And fs) h = ap And (formulas_alike r q a m fs h)
    formula_alike r q a m (Or fs) h = ap Or (formulas_alike r q a m fs h)
    formula_alike r q a m (Implies f g) h =
        let p = and_parts (passes (λ d. variables_below n) m f) (passes (λ d. variables_below n) m g) h in ap₂ Implies (formula_alike r q a m f p.0) (formula_alike r q a m g p.1)
    formula_alike r q a m (Forall f) h = ap Forall (formula_alike (under r) (under q) (under_alike r q a) (suc m) f h)
    formula_alike r q a m (Exists f) h = ap Exists (formula_alike (under r) (under q) (under_alike r q a) (suc m) f h)

    formulas_alike : (r q : Replacement) → AreAlike r q → (m : ℕ) (fs : Formulas) → IsTrue (all_pass (λ d. variables_below n) m fs) → replace_all r fs ≡ replace_all q fs
    formulas_alike r q a m none h = refl
    formulas_alike r q a m (more f fs) h =
        let p = and_parts (passes (λ d. variables_below n) m f) (all_pass (λ d. variables_below n) m fs) h in ap₂ more (formula_alike r q a m f p.0) (formulas_alike r q a m fs p.1)

-- a variable of the n from m on
variable_at : (m n k : ℕ) → k < n → term_at (variables_from m n) k ≡ Variable (m + k)
variable_at m zero k h = absurd (omega arith)
variable_at m (suc n) zero h = ap Variable (omega arith)
variable_at m (suc n) (suc k) h = variable_at (suc m) n k (omega arith) ∙ ap Variable (omega arith)

below : (k n : ℕ) → IsTrue (nat_lt k n) → k < n
below k n h = grind (arith, nat_tests)

own_alike : (n : ℕ) (σ : ℕ → Column) → AreAlike n (replacing σ (term_at (variables_from 0 n))) (replacing σ Variable)
own_alike n σ = record {
  columns = λ c. refl;
  variables = λ k h. variable_at 0 n k (below k n h) ∙ ap Variable (zero-add k);
  bounds = λ k. refl;
}

-- columns are put in, and each variable for itself
pub told_own : (n : ℕ) (σ : ℕ → Column) (fs : List Formula) → Every (IsBelow n) fs → map (told σ (variables_from 0 n)) fs ≡ map (replace (replacing σ Variable)) fs
told_own n σ [] h = refl
told_own n σ (f ∷ fs) h = ap₂ ◌∷◌ (formula_alike n _ _ (own_alike n σ) 0 f h.0) (told_own n σ fs h.1)
