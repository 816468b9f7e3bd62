-- Whether two trees are the same, as a test.
use Rattle.std.specs.Prelude.{Bool, true, false, ◌&&◌, ◌==◌}
use Rattle.std.specs.Ordering.{int_eq}
use Rattle.lc_term.specs.Syntax.{Term, Number, Variable, Bound, Add, Subtract, Multiply, Read, Column, Base, Store, Affine}
use Rattle.lc_term.specs.Syntax.{Formula, Le, Eq, Not, And, Or, Implies, Forall, Exists, Formulas, none, more}

abbrev mutual
  -- whether two terms are the same
  pub term_eq : Term → Term → Bool
  term_eq (Number n) (Number m) = int_eq n m
  term_eq (Variable k) (Variable m) = k == m
  term_eq (Bound k) (Bound m) = k == m
  term_eq (Add t u) (Add t' u') = term_eq t t' && term_eq u u'
  term_eq (Subtract t u) (Subtract t' u') = term_eq t t' && term_eq u u'
  term_eq (Multiply n t) (Multiply n' t') = int_eq n n' && term_eq t t'
  term_eq (Read c i) (Read c' i') = column_eq c c' && term_eq i i'
  term_eq _ _ = false

  -- whether two columns are the same
  pub column_eq : Column → Column → Bool
  column_eq (Base c) (Base c') = c == c'
  column_eq (Store c i v) (Store c' i' v') = column_eq c c' && term_eq i i' && term_eq v v'
  column_eq (Affine a b) (Affine a' b') = int_eq a a' && int_eq b b'
  column_eq _ _ = false

abbrev mutual
  -- whether two formulas are the same
  pub formula_eq : Formula → Formula → Bool
  formula_eq (Le t u) (Le t' u') = term_eq t t' && term_eq u u'
  formula_eq (Eq t u) (Eq t' u') = term_eq t t' && term_eq u u'
  formula_eq (Not f) (Not f') = formula_eq f f'
  formula_eq (And fs) (And fs') = formulas_eq fs fs'
  formula_eq (Or fs) (Or fs') = formulas_eq fs fs'
  formula_eq (Implies f g) (Implies f' g') = formula_eq f f' && formula_eq g g'
  formula_eq (Forall f) (Forall f') = formula_eq f f'
  formula_eq (Exists f) (Exists f') = formula_eq f f'
  formula_eq _ _ = false

  -- whether two lists of parts are the same
  pub formulas_eq : Formulas → Formulas → Bool
  formulas_eq none none = true
  formulas_eq (more f fs) (more f' fs') = formula_eq f f' && formulas_eq fs fs'
  formulas_eq _ _ = false
