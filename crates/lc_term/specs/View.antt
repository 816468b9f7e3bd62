-- The plain trees that the values of the code stand for.
use Rattle.std.specs.Prelude.{List, map}
use Rattle.lc_term.specs.Syntax as S
use Rattle.lc_term.specs.declared.term.Term.{Term}
use Rattle.lc_term.specs.declared.term.Term.TheVariants.{Number, Variable, Bound, Add', Subtract', Multiply', Read'}
use Rattle.lc_term.specs.declared.term.ColExpr.{ColExpr}
use Rattle.lc_term.specs.declared.term.ColExpr.TheVariants.{Base, Store', Affine}
use Rattle.lc_term.specs.declared.formula.Formula.{Formula, fold-Formula}
use Rattle.lc_term.specs.declared.formula.Formula.TheOpen.{Formula-F}

abbrev mutual
  -- the tree of a term
  pub term_of : Term → S.Term
  term_of (Number n) = S.Number n
  term_of (Variable k) = S.Variable k
  term_of (Bound k) = S.Bound k
  term_of (Add' p t q u) = S.Add (term_of t) (term_of u)
  term_of (Subtract' p t q u) = S.Subtract (term_of t) (term_of u)
  term_of (Multiply' n p t) = S.Multiply n (term_of t)
  term_of (Read' p c q i) = S.Read (column_of c) (term_of i)

  -- the tree of a column expression
  pub column_of : ColExpr → S.Column
  column_of (Base c) = S.Base c.0
  column_of (Store' p c q i r v) = S.Store (column_of c) (term_of i) (term_of v)
  column_of (Affine a b) = S.Affine a b

-- one level of a formula, the formulas inside being seen as their trees already
abbrev pub formula_step : Formula-F S.Formula → S.Formula
formula_step (Formula-F.Le t u) = S.Le (term_of t) (term_of u)
formula_step (Formula-F.Eq t u) = S.Eq (term_of t) (term_of u)
formula_step (Formula-F.Not f) = S.Not f.value
formula_step (Formula-F.And fs) = S.And (S.formulas fs.items)
formula_step (Formula-F.Or fs) = S.Or (S.formulas fs.items)
formula_step (Formula-F.Implies f g) = S.Implies f.value g.value
formula_step (Formula-F.Forall f) = S.Forall f.value
formula_step (Formula-F.Exists f) = S.Exists f.value

-- the tree of a formula
abbrev pub formula_of : Formula → S.Formula
formula_of = fold-Formula S.Formula formula_step

-- the trees of a list of formulas
abbrev pub formulas_of : List Formula → List S.Formula
formulas_of fs = map formula_of fs
