-- What is reported about a goal.
use Rattle.std.specs.Prelude.{◌≡◌, ◌↔◌, ℕ, List}
use Rattle.lc_term.specs.State.{state_of}
use Rattle.lc_term.specs.Syntax.{Formula}
use Rattle.lc_term.specs.UpdateView.{writes_view}
use Rattle.lc_proof_state.specs.declared.failing.Failing.TheVariants as F
use Rattle.lc_proof_state.specs.declared.telling.Told.{Told}
use Rattle.lc_proof_state.specs.Failing.{Fails, FailsButForQuantifiers}
use Rattle.lc_proof_state.specs.Instance.{instance_at}
use Rattle.lc_proof_state.specs.Situation.{IsOf}

-- the report is that the goal fails exactly if it fails in the reported state at the reported numbers, and that it fails but for
-- quantifiers only if it does so; the state has the reported cells
pub record IsTold (columns : ℕ) (hypotheses : List Formula) (goal : Formula) (told : Told) : Type 0 where
  pub fails : told.failing ≡ F.Fails ↔ Fails told.situation.state told.situation.env hypotheses (instance_at told.numbers.items goal)
  pub but : told.failing ≡ F.FailsButForQuantifiers →
      FailsButForQuantifiers told.situation.state told.situation.env hypotheses (instance_at told.numbers.items goal)
  pub state : IsOf told.situation.content columns (state_of told.situation.state) (writes_view told.situation.cells.items)
