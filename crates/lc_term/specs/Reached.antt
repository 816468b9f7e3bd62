-- The numbers that are reached when a term or a formula without quantifiers is computed, parts from the left.
-- Each definition says that each number that is reached fits 64 bits.
use Rattle.std.specs.Prelude.{ℤ, ◌+ℤ◌, ◌-ℤ◌, ◌*ℤ◌, FitsSigned, IsTrue, IsFalse, MatchBool, List, [], ◌∷◌}
use Rattle.std.specs.Int.{w64}
use Rattle.std.specs.Ordering.{int_eq}
use Rattle.lc_term.specs.Syntax.{Term, Number, Variable, Bound, Add, Subtract, Multiply, Read, Column, Base, Store, Affine}
use Rattle.lc_term.specs.Syntax.{Formula, Le, Eq, Not, And, Or, Implies, Forall, Exists, Formulas, none, more}
use Rattle.lc_term.specs.Meaning.{State, Env, outside, affine, value}
use Rattle.lc_term.specs.Truth.{truth}

abbrev mutual
  -- in a term: the numbers of its parts, then its own
  pub TermFits : State → Env → Term → Type 0
  TermFits s e (Number n) = Unit {0}
  TermFits s e (Variable k) = Unit {0}
  TermFits s e (Bound k) = Unit {0}
  TermFits s e (Add t u) = TermFits s e t × TermFits s e u × FitsSigned w64 (value s e outside t +ℤ value s e outside u)
  TermFits s e (Subtract t u) = TermFits s e t × TermFits s e u × FitsSigned w64 (value s e outside t -ℤ value s e outside u)
  TermFits s e (Multiply n t) = TermFits s e t × FitsSigned w64 (n *ℤ value s e outside t)
  TermFits s e (Read c i) = TermFits s e i × CellFits s e c (value s e outside i)

  -- in cell j of a column expression, from the outside: the stored index, and the stored value only if the index is j;
  -- else the cell of the column that is stored to
  pub CellFits : State → Env → Column → ℤ → Type 0
  CellFits s e (Base c) j = FitsSigned w64 (s c j)
  CellFits s e (Store c i v) j = TermFits s e i × MatchBool (int_eq (value s e outside i) j) (TermFits s e v) (CellFits s e c j)
  CellFits s e (Affine m n) j = FitsSigned w64 (affine m n j)

-- in terms, from the left
abbrev pub TermsFit : State → Env → List Term → Type 0
TermsFit s e [] = Unit {0}
TermsFit s e (t ∷ ts) = TermFits s e t × TermsFit s e ts

abbrev mutual
  -- in a formula: its parts from the left, until the answer is decided
  pub FormulaFits : State → Env → Formula → Type 0
  FormulaFits s e (Le t u) = TermFits s e t × TermFits s e u
  FormulaFits s e (Eq t u) = TermFits s e t × TermFits s e u
  FormulaFits s e (Not f) = FormulaFits s e f
  FormulaFits s e (And fs) = AndFits s e fs
  FormulaFits s e (Or fs) = OrFits s e fs
  FormulaFits s e (Implies f g) = FormulaFits s e f × (IsTrue (truth s e outside f) → FormulaFits s e g)
  FormulaFits s e (Forall f) = Unit {0}
  FormulaFits s e (Exists f) = Unit {0}

  -- a part of a conjunction; those after it count only if it is true
  pub AndFits : State → Env → Formulas → Type 0
  AndFits s e none = Unit {0}
  AndFits s e (more f fs) = FormulaFits s e f × (IsTrue (truth s e outside f) → AndFits s e fs)

  -- a part of a disjunction; those after it count only if it is false
  pub OrFits : State → Env → Formulas → Type 0
  OrFits s e none = Unit {0}
  OrFits s e (more f fs) = FormulaFits s e f × (IsFalse (truth s e outside f) → OrFits s e fs)
