-- A term without bound variables is the same below quantifiers, and may be put in anywhere.
use Rattle.std.proofs.Common.{◌≡◌, ℕ, suc, Bool, true, false, ◌&&◌, ◌||◌, refl, ap, ap₂}
use Rattle.std.specs.Prelude.{IsTrue, not, ◌==◌}
use Rattle.std.proofs.lemmas.Bool.{and_parts, and_from, false≢true}
use Rattle.lc_term.specs.Syntax.{Term, Number, Variable, Bound, Add, Subtract, Multiply, Read, Column, Base, Store, Affine}
use Rattle.lc_term.specs.Syntax.{Formula, Le, Eq, Not, And, Or, Implies, Forall, Exists, Formulas, none, more}
use Rattle.lc_term.specs.Places.{Test, term_passes, column_passes, passes, all_pass, no_bounds, is_closed, shift_fits, put_fits, open_fits}
use Rattle.lc_term.specs.Replacement.{replace_column}
use Rattle.lc_term.specs.Substitution.{shifting, shifted_term}

mutual
  pub shifted_closed : (a c : ℕ) (t : Term) → IsTrue (is_closed t) → shifted_term a c t ≡ t
  shifted_closed a c (Number n) h = refl
  shifted_closed a c (Variable k) h = refl
  shifted_closed a c (Bound k) h = absurd (false≢true h)
  shifted_closed a c (Add t u) h = let p = and_parts (is_closed t) (is_closed u) h in ap₂ Add (shifted_closed a c t p.0) (shifted_closed a c u p.1)
  shifted_closed a c (Subtract t u) h = let p = and_parts (is_closed t) (is_closed u) h in ap₂ Subtract (shifted_closed a c t p.0) (shifted_closed a c u p.1)
  shifted_closed a c (Multiply n t) h = ap (Multiply n) (shifted_closed a c t h)
  shifted_closed a c (Read s t) h =
      let p = and_parts (column_passes no_bounds s) (is_closed t) h in ap₂ Read (shifted_closed_column a c s p.0) (shifted_closed a c t p.1)

  pub shifted_closed_column : (a c : ℕ) (s : Column) → IsTrue (column_passes no_bounds s) → replace_column (shifting a c) s ≡ s
  shifted_closed_column a c (Base k) h = refl
  shifted_closed_column a c (Store s t v) h =
      let p = and_parts (column_passes no_bounds s && is_closed t) (is_closed v) h in
      let q = and_parts (column_passes no_bounds s) (is_closed t) p.0 in
      λ i. Store (shifted_closed_column a c s q.0 i) (shifted_closed a c t q.1 i) (shifted_closed a c v p.1 i)
  shifted_closed_column a c (Affine m n) h = refl

mutual
  pub closed_fits : (a c n : ℕ) (t : Term) → IsTrue (is_closed t) → IsTrue (term_passes (shift_fits a c n) t)
  closed_fits a c n (Number m) h = refl
  closed_fits a c n (Variable k) h = refl
  closed_fits a c n (Bound k) h = absurd (false≢true h)
  closed_fits a c n (Add t u) h = let p = and_parts (is_closed t) (is_closed u) h in and_from _ _ (closed_fits a c n t p.0) (closed_fits a c n u p.1)
  closed_fits a c n (Subtract t u) h = let p = and_parts (is_closed t) (is_closed u) h in and_from _ _ (closed_fits a c n t p.0) (closed_fits a c n u p.1)
  closed_fits a c n (Multiply m t) h = closed_fits a c n t h
  closed_fits a c n (Read s t) h =
      let p = and_parts (column_passes no_bounds s) (is_closed t) h in and_from _ _ (closed_column_fits a c n s p.0) (closed_fits a c n t p.1)

  closed_column_fits : (a c n : ℕ) (s : Column) → IsTrue (column_passes no_bounds s) → IsTrue (column_passes (shift_fits a c n) s)
  closed_column_fits a c n (Base k) h = refl
  closed_column_fits a c n (Store s t v) h =
      let p = and_parts (column_passes no_bounds s && is_closed t) (is_closed v) h in
      let q = and_parts (column_passes no_bounds s) (is_closed t) p.0 in
      and_from _ _ (and_from _ _ (closed_column_fits a c n s q.0) (closed_fits a c n t q.1)) (closed_fits a c n v p.1)
  closed_column_fits a c n (Affine k m) h = refl

-- a test that everything passes
pub record Passes (p : Test) : Type 0 where
  pub columns : (k : ℕ) → IsTrue (p.columns k)
  pub variables : (k : ℕ) → IsTrue (p.variables k)
  pub bounds : (k : ℕ) → IsTrue (p.bounds k)

mutual
  pub every_term_passes : (p : Test) → Passes p → (t : Term) → IsTrue (term_passes p t)
  every_term_passes p h (Number n) = refl
  every_term_passes p h (Variable k) = h.variables k
  every_term_passes p h (Bound k) = h.bounds k
  every_term_passes p h (Add t u) = and_from _ _ (every_term_passes p h t) (every_term_passes p h u)
  every_term_passes p h (Subtract t u) = and_from _ _ (every_term_passes p h t) (every_term_passes p h u)
  every_term_passes p h (Multiply n t) = every_term_passes p h t
  every_term_passes p h (Read c t) = and_from _ _ (every_column_passes p h c) (every_term_passes p h t)

  every_column_passes : (p : Test) → Passes p → (c : Column) → IsTrue (column_passes p c)
  every_column_passes p h (Base k) = h.columns k
  every_column_passes p h (Store c t v) = and_from _ _ (and_from _ _ (every_column_passes p h c) (every_term_passes p h t)) (every_term_passes p h v)
  every_column_passes p h (Affine m n) = refl

mutual
  pub every_formula_passes : (p : ℕ → Test) → ((n : ℕ) → Passes (p n)) → (n : ℕ) (f : Formula) → IsTrue (passes p n f)
  every_formula_passes p h n (Le t u) = and_from _ _ (every_term_passes (p n) (h n) t) (every_term_passes (p n) (h n) u)
  every_formula_passes p h n (Eq t u) = and_from _ _ (every_term_passes (p n) (h n) t) (every_term_passes (p n) (h n) u)
  every_formula_passes p h n (Not f) = every_formula_passes p h n f
  every_formula_passes p h n (And fs) = all_formulas_pass p h n fs
  every_formula_passes p h n (Or fs) = all_formulas_pass p h n fs
  every_formula_passes p h n (Implies f g) = and_from _ _ (every_formula_passes p h n f) (every_formula_passes p h n g)
  every_formula_passes p h n (Forall f) = every_formula_passes p h (suc n) f
  every_formula_passes p h n (Exists f) = every_formula_passes p h (suc n) f

  all_formulas_pass : (p : ℕ → Test) → ((n : ℕ) → Passes (p n)) → (n : ℕ) (fs : Formulas) → IsTrue (all_pass p n fs)
  all_formulas_pass p h n none = refl
  all_formulas_pass p h n (more f fs) = and_from _ _ (every_formula_passes p h n f) (all_formulas_pass p h n fs)

or_true : (a b : Bool) → IsTrue b → IsTrue (a || b)
or_true true b h = refl
or_true false b h = h

pub closed_put_fits : (v : ℕ) (u : Term) → IsTrue (is_closed u) → (f : Formula) → IsTrue (passes (put_fits v u) 0 f)
closed_put_fits v u h f =
    every_formula_passes (put_fits v u)
    (λ n. record { columns = λ k. refl; variables = λ k. or_true (not (k == v)) (term_passes (shift_fits n 0 0) u) (closed_fits n 0 0 u h); bounds = λ k. refl }) 0 f

pub closed_open_fits : (u : Term) → IsTrue (is_closed u) → (f : Formula) → IsTrue (passes (open_fits u) 0 f)
closed_open_fits u h f =
    every_formula_passes (open_fits u)
    (λ n. record { columns = λ k. refl; variables = λ k. refl; bounds = λ k. or_true (not (k == n)) (term_passes (shift_fits n 0 0) u) (closed_fits n 0 0 u h) }) 0 f
