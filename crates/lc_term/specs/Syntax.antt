-- Terms, column expressions and formulas as plain trees.
use Rattle.std.specs.Prelude.{ℕ, ℤ, List, [], ◌∷◌}

mutual
  -- a whole number, as a function of columns and variables. A free variable has a number, a bound one
  -- is counted from the innermost quantifier around it, starting at 0
  pub data Term : Type 0 where
    Number : ℤ → Term
    Variable : ℕ → Term
    Bound : ℕ → Term
    Add : Term → Term → Term
    Subtract : Term → Term → Term
    Multiply : ℤ → Term → Term
    Read : Column → Term → Term

  -- a whole number in each cell: a column by its number, a column with a value stored at an index,
  -- or a * i + b in cell i
  pub data Column : Type 0 where
    Base : ℕ → Column
    Store : Column → Term → Term → Column
    Affine : ℤ → ℤ → Column

mutual
  -- a statement on columns and variables
  pub data Formula : Type 0 where
    Le : Term → Term → Formula
    Eq : Term → Term → Formula
    Not : Formula → Formula
    And : Formulas → Formula
    Or : Formulas → Formula
    Implies : Formula → Formula → Formula
    Forall : Formula → Formula
    Exists : Formula → Formula

  -- the parts of a conjunction or a disjunction
  pub data Formulas : Type 0 where
    none : Formulas
    more : Formula → Formulas → Formulas

-- a list of formulas, as parts
abbrev pub formulas : List Formula → Formulas
formulas [] = none
formulas (f ∷ fs) = more f (formulas fs)

-- parts, as a list of formulas
abbrev pub parts : Formulas → List Formula
parts none = []
parts (more f fs) = f ∷ parts fs
