-- Columns, free variables and bound variables, all replaced at once.
use Rattle.std.specs.Prelude.{ℕ, zero, suc}
use Rattle.lc_term.specs.Syntax.{Term, Number, Variable, Bound, Add, Subtract, Multiply, Read, Column, Base, Store, Affine}
use Rattle.lc_term.specs.Syntax.{Formula, Le, Eq, Not, And, Or, Implies, Forall, Exists, Formulas, none, more}
use Rattle.lc_term.specs.Meaning.{State, Env, value, column}

-- what is put in for each column, each free variable and each bound variable
pub record Replacement : Type 0 where
  pub columns : ℕ → Column
  pub variables : ℕ → Term
  pub bounds : ℕ → Term

abbrev mutual
  -- a term after a replacement
  pub replace_term : Replacement → Term → Term
  replace_term r (Number n) = Number n
  replace_term r (Variable k) = r.variables k
  replace_term r (Bound k) = r.bounds k
  replace_term r (Add t u) = Add (replace_term r t) (replace_term r u)
  replace_term r (Subtract t u) = Subtract (replace_term r t) (replace_term r u)
  replace_term r (Multiply n t) = Multiply n (replace_term r t)
  replace_term r (Read c i) = Read (replace_column r c) (replace_term r i)

  -- a column expression after a replacement
  pub replace_column : Replacement → Column → Column
  replace_column r (Base c) = r.columns c
  replace_column r (Store c i v) = Store (replace_column r c) (replace_term r i) (replace_term r v)
  replace_column r (Affine a b) = Affine a b

-- what keeps a term's meaning below one more quantifier: each bound variable points one quantifier further
abbrev pub raising : Replacement
raising = record { columns = Base; variables = Variable; bounds = λ k. Bound (suc k) }

-- the quantifier's own variable stays, and what is put in for the others is raised
abbrev pub under_bounds : (ℕ → Term) → ℕ → Term
under_bounds bounds zero = Bound 0
under_bounds bounds (suc k) = replace_term raising (bounds k)

-- the same replacement below one more quantifier: what is put in is raised, so that nothing is captured
abbrev pub under : Replacement → Replacement
under r = record {
  columns = λ c. replace_column raising (r.columns c);
  variables = λ k. replace_term raising (r.variables k);
  bounds = under_bounds r.bounds;
}

abbrev mutual
  -- a formula after a replacement
  pub replace : Replacement → Formula → Formula
  replace r (Le t u) = Le (replace_term r t) (replace_term r u)
  replace r (Eq t u) = Eq (replace_term r t) (replace_term r u)
  replace r (Not f) = Not (replace r f)
  replace r (And fs) = And (replace_all r fs)
  replace r (Or fs) = Or (replace_all r fs)
  replace r (Implies f g) = Implies (replace r f) (replace r g)
  replace r (Forall f) = Forall (replace (under r) f)
  replace r (Exists f) = Exists (replace (under r) f)

  -- each part after a replacement
  pub replace_all : Replacement → Formulas → Formulas
  replace_all r none = none
  replace_all r (more f fs) = more (replace r f) (replace_all r fs)

-- the cells that a replacement puts in for each column
abbrev pub columns_by : State → Env → Env → Replacement → State
columns_by s e b r = λ c. column s e b (r.columns c)

-- the number that it puts in for each free variable
abbrev pub variables_by : State → Env → Env → Replacement → Env
variables_by s e b r = λ k. value s e b (r.variables k)

-- the number that it puts in for each bound variable
abbrev pub bounds_by : State → Env → Env → Replacement → Env
bounds_by s e b r = λ k. value s e b (r.bounds k)

-- columns and free variables alone are replaced
abbrev pub replacing : (ℕ → Column) → (ℕ → Term) → Replacement
replacing columns variables = record { columns = columns; variables = variables; bounds = Bound }

-- the same replacement below n more quantifiers
abbrev pub under_many : ℕ → Replacement → Replacement
under_many zero r = r
under_many (suc n) r = under (under_many n r)
