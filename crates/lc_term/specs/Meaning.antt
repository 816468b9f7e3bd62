-- What terms, column expressions and formulas mean. Numbers are whole numbers without bound.
-- `or` and `exists` are read negatively: not none, and not for each not. So each meaning is stable under double negation.
use Rattle.std.specs.Prelude.{◌≡◌, ℕ, zero, suc, ℤ, pos, ◌+ℤ◌, ◌-ℤ◌, ◌*ℤ◌, ◌≤ℤ◌, if◌then◌else◌, List, [], ◌∷◌}
use Rattle.std.specs.Ordering.{int_eq}
use Rattle.lc_term.specs.Syntax.{Term, Number, Variable, Bound, Add, Subtract, Multiply, Read, Column, Base, Store, Affine}
use Rattle.lc_term.specs.Syntax.{Formula, Le, Eq, Not, And, Or, Implies, Forall, Exists, Formulas, none, more}

-- the number in each cell of each column
abbrev pub State : Type 0
State = ℕ → ℤ → ℤ

-- the number of each variable
abbrev pub Env : Type 0
Env = ℕ → ℤ

-- the bound variables below one more quantifier, whose own variable is x
abbrev pub push : ℤ → Env → Env
push x b zero = x
push x b (suc k) = b k

-- the bound variables outside every quantifier: there are none, and 0 stands for them
abbrev pub outside : Env
outside k = pos 0

-- a column's cells with v at i
abbrev pub stored : (ℤ → ℤ) → ℤ → ℤ → ℤ → ℤ
stored cells i v j = if int_eq i j then v else cells j

-- the column with m * j + n in cell j
abbrev pub affine : ℤ → ℤ → ℤ → ℤ
affine m n j = m *ℤ j +ℤ n

abbrev mutual
  -- the number of a term in a state, where the free variables are e and the bound ones b
  pub value : State → Env → Env → Term → ℤ
  value s e b (Number n) = n
  value s e b (Variable k) = e k
  value s e b (Bound k) = b k
  value s e b (Add t u) = value s e b t +ℤ value s e b u
  value s e b (Subtract t u) = value s e b t -ℤ value s e b u
  value s e b (Multiply n t) = n *ℤ value s e b t
  value s e b (Read c i) = column s e b c (value s e b i)

  -- the number in each cell of a column expression
  pub column : State → Env → Env → Column → ℤ → ℤ
  column s e b (Base c) = s c
  column s e b (Store c i v) = stored (column s e b c) (value s e b i) (value s e b v)
  column s e b (Affine m n) = affine m n

abbrev mutual
  -- what a formula says
  pub Holds : State → Env → Env → Formula → Type 0
  Holds s e b (Le t u) = value s e b t ≤ℤ value s e b u
  Holds s e b (Eq t u) = value s e b t ≡ value s e b u
  Holds s e b (Not f) = Holds s e b f → ⊥
  Holds s e b (And fs) = AllHold s e b fs
  Holds s e b (Or fs) = NoneHolds s e b fs → ⊥
  Holds s e b (Implies f g) = Holds s e b f → Holds s e b g
  Holds s e b (Forall f) = (x : ℤ) → Holds s e (push x b) f
  Holds s e b (Exists f) = ((x : ℤ) → Holds s e (push x b) f → ⊥) → ⊥

  -- each part holds
  pub AllHold : State → Env → Env → Formulas → Type 0
  AllHold s e b none = Unit {0}
  AllHold s e b (more f fs) = Holds s e b f × AllHold s e b fs

  -- no part holds
  pub NoneHolds : State → Env → Env → Formulas → Type 0
  NoneHolds s e b none = Unit {0}
  NoneHolds s e b (more f fs) = (Holds s e b f → ⊥) × NoneHolds s e b fs

-- each formula of a list holds
abbrev pub EachHolds : State → Env → List Formula → Type 0
EachHolds s e [] = Unit {0}
EachHolds s e (f ∷ fs) = Holds s e outside f × EachHolds s e fs

-- the hypotheses imply the goal, in every state and for all numbers of the variables
pub record Valid (hypotheses : List Formula) (goal : Formula) : Type 0 where
  pub holds : (s : State) (e : Env) → EachHolds s e hypotheses → Holds s e outside goal
