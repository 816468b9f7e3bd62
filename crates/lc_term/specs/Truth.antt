-- A formula without quantifiers is true or false.
use Rattle.std.specs.Prelude.{Bool, true, false, not, ◌&&◌, ◌||◌, int_le}
use Rattle.std.specs.Ordering.{int_eq}
use Rattle.lc_term.specs.Syntax.{Formula, Le, Eq, Not, And, Or, Implies, Forall, Exists, Formulas, none, more}
use Rattle.lc_term.specs.Meaning.{State, Env, value}

abbrev mutual
  -- no quantifier occurs in the formula
  pub is_ground : Formula → Bool
  is_ground (Le t u) = true
  is_ground (Eq t u) = true
  is_ground (Not f) = is_ground f
  is_ground (And fs) = are_ground fs
  is_ground (Or fs) = are_ground fs
  is_ground (Implies f g) = is_ground f && is_ground g
  is_ground (Forall f) = false
  is_ground (Exists f) = false

  -- no quantifier occurs in any part
  pub are_ground : Formulas → Bool
  are_ground none = true
  are_ground (more f fs) = is_ground f && are_ground fs

abbrev mutual
  -- whether a formula without quantifiers holds; of a quantifier it says nothing
  pub truth : State → Env → Env → Formula → Bool
  truth s e b (Le t u) = int_le (value s e b t) (value s e b u)
  truth s e b (Eq t u) = int_eq (value s e b t) (value s e b u)
  truth s e b (Not f) = not (truth s e b f)
  truth s e b (And fs) = all_true s e b fs
  truth s e b (Or fs) = some_true s e b fs
  truth s e b (Implies f g) = not (truth s e b f) || truth s e b g
  truth s e b (Forall f) = false
  truth s e b (Exists f) = false

  -- whether each part holds
  pub all_true : State → Env → Env → Formulas → Bool
  all_true s e b none = true
  all_true s e b (more f fs) = truth s e b f && all_true s e b fs

  -- whether some part holds
  pub some_true : State → Env → Env → Formulas → Bool
  some_true s e b none = false
  some_true s e b (more f fs) = truth s e b f || some_true s e b fs
