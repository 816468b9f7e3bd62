-- What it is that a goal fails in a state.
use Rattle.std.specs.Prelude.{ℤ, List, IsTrue}
use Rattle.lc_term.specs.Lists.{Every}
use Rattle.lc_term.specs.Meaning.{Holds, Valid, outside}
use Rattle.lc_term.specs.Places.{is_known}
use Rattle.lc_term.specs.Reached.{FormulaFits}
use Rattle.lc_term.specs.State.{state_of, env_of, column_count, variable_count}
use Rattle.lc_term.specs.Syntax.{Formula}
use Rattle.lc_term.specs.Truth.{is_ground}
use Rattle.lc_term.specs.declared.state.State.{State}
use Rattle.lc_term.specs.declared.state.Env.{Env}
use Rattle.lc_proof_state.specs.Instance.{instance_at}

-- the formula is evaluated there: it has no quantifier, its columns and variables are there, and each number that is reached fits 64 bits
pub record IsEvaluated (state : State) (env : Env) (f : Formula) : Type 0 where
  pub no_quantifier : IsTrue (is_ground f)
  pub in_range : IsTrue (is_known (column_count state) (variable_count env) f)
  pub fits : FormulaFits (state_of state) (env_of env) f

-- it is evaluated there, and holds
pub record IsSeen (state : State) (env : Env) (f : Formula) : Type 0 where
  pub evaluated : IsEvaluated state env f
  pub holds : Holds (state_of state) (env_of env) outside f

-- it is evaluated there, and does not hold
pub record IsRefuted (state : State) (env : Env) (f : Formula) : Type 0 where
  pub evaluated : IsEvaluated state env f
  pub fails : Holds (state_of state) (env_of env) outside f → ⊥

-- it is evaluated there and holds, if it has no quantifier
abbrev pub IsSeenIfGround : State → Env → Formula → Type 0
IsSeenIfGround state env f = IsTrue (is_ground f) → IsSeen state env f

-- each hypothesis is evaluated there and holds; the goal is evaluated and does not hold
pub record Fails (state : State) (env : Env) (hypotheses : List Formula) (goal : Formula) : Type 0 where
  pub given : Every (IsSeen state env) hypotheses
  pub refuted : IsRefuted state env goal

-- the same, but that of hypotheses with quantifiers nothing is said
pub record FailsButForQuantifiers (state : State) (env : Env) (hypotheses : List Formula) (goal : Formula) : Type 0 where
  pub given : Every (IsSeenIfGround state env) hypotheses
  pub refuted : IsRefuted state env goal

-- what fails in a state, at some numbers for the variables of its `forall`s, does not follow
abbrev pub FailingIsNotValid : Type 0
FailingIsNotValid =
    (state : State) (env : Env) (hypotheses : List Formula) (goal : Formula) (numbers : List ℤ) →
    Fails state env hypotheses (instance_at numbers goal) → Valid hypotheses goal → ⊥
