-- Tests of the columns and variables that occur in a term or a formula.
use Rattle.std.specs.Prelude.{ℕ, suc, ◌+◌, ◌^◌, ◌==◌, Bool, true, false, not, ◌&&◌, ◌||◌, nat_lt}
use Rattle.lc_term.specs.Syntax.{Term, Number, Variable, Bound, Add, Subtract, Multiply, Read, Column, Base, Store, Affine}
use Rattle.lc_term.specs.Syntax.{Formula, Le, Eq, Not, And, Or, Implies, Forall, Exists, Formulas, none, more}

-- a test of a column's number, of a free variable's and of a bound variable's
pub record Test : Type 0 where
  pub columns : ℕ → Bool
  pub variables : ℕ → Bool
  pub bounds : ℕ → Bool

abbrev mutual
  -- each column and variable in a term passes
  pub term_passes : Test → Term → Bool
  term_passes p (Number n) = true
  term_passes p (Variable k) = p.variables k
  term_passes p (Bound k) = p.bounds k
  term_passes p (Add t u) = term_passes p t && term_passes p u
  term_passes p (Subtract t u) = term_passes p t && term_passes p u
  term_passes p (Multiply n t) = term_passes p t
  term_passes p (Read c i) = column_passes p c && term_passes p i

  -- each column and variable in a column expression passes
  pub column_passes : Test → Column → Bool
  column_passes p (Base c) = p.columns c
  column_passes p (Store c i v) = column_passes p c && term_passes p i && term_passes p v
  column_passes p (Affine a b) = true

abbrev mutual
  -- each column and variable in a formula passes, the test being given the number of quantifiers around its place; around the
  -- formula itself there are n
  pub passes : (ℕ → Test) → ℕ → Formula → Bool
  passes p n (Le t u) = term_passes (p n) t && term_passes (p n) u
  passes p n (Eq t u) = term_passes (p n) t && term_passes (p n) u
  passes p n (Not f) = passes p n f
  passes p n (And fs) = all_pass p n fs
  passes p n (Or fs) = all_pass p n fs
  passes p n (Implies f g) = passes p n f && passes p n g
  passes p n (Forall f) = passes p (suc n) f
  passes p n (Exists f) = passes p (suc n) f

  -- each part passes
  pub all_pass : (ℕ → Test) → ℕ → Formulas → Bool
  all_pass p n none = true
  all_pass p n (more f fs) = passes p n f && all_pass p n fs

-- a bound variable does not pass
abbrev pub no_bounds : Test
no_bounds = record { columns = λ c. true; variables = λ k. true; bounds = λ k. false }

-- no bound variable occurs in the term
abbrev pub is_closed : Term → Bool
is_closed t = term_passes no_bounds t

-- columns and free variables are below these counts, and there is no bound variable
abbrev pub known : ℕ → ℕ → Test
known columns variables = record { columns = λ c. nat_lt c columns; variables = λ k. nat_lt k variables; bounds = λ k. false }

-- a formula's columns and free variables are below these counts, and no bound variable occurs in it
abbrev pub is_known : ℕ → ℕ → Formula → Bool
is_known columns variables f = passes (λ n. known columns variables) 0 f

-- each part is known in this sense
abbrev pub are_known : ℕ → ℕ → Formulas → Bool
are_known columns variables fs = all_pass (λ n. known columns variables) 0 fs

-- below n quantifiers, a bound variable that points beyond them and the cutoff has a number that is below 2 ^ 32 with `added` added
abbrev pub shift_fits : ℕ → ℕ → ℕ → Test
shift_fits added cutoff n = record { columns = λ c. true; variables = λ k. true; bounds = λ k. nat_lt k (cutoff + n) || nat_lt (k + added) (2 ^ 32) }

-- at the free variable v, u can be shifted by the n quantifiers around that place
abbrev pub put_fits : ℕ → Term → ℕ → Test
put_fits v u n = record { columns = λ c. true; variables = λ k. not (k == v) || term_passes (shift_fits n 0 0) u; bounds = λ k. true }

-- at the variable of the quantifier around the formula, u can be shifted by the n quantifiers around that place
abbrev pub open_fits : Term → ℕ → Test
open_fits u n = record { columns = λ c. true; variables = λ k. true; bounds = λ k. not (k == n) || term_passes (shift_fits n 0 0) u }
