use Rattle.lc_reading.proofs.Fine.{of_fine}
use Rattle.std.specs.Prelude.{codes}
use Rattle.lc_rider_text.specs.Actions.{action_reading}
use Rattle.lc_action.specs.Action.{Action}
use Rattle.lc_outline_print.specs.Beside.{action_tree}
use Rattle.lc_text_laws.specs.ReadsBack.{HaveNoBinder}
use Rattle.lc_text_laws.proofs.Actions.{SameAction, action_again}
use Rattle.lc_text_laws.proofs.Kin.{AreBehind, Again}
use Rattle.lc_text_laws.proofs.laws.printed_actions_read_back.Goals as goal

pub returns : goal.returns
returns c = λ known columns i n t a are small unbound e.
    (of_fine (λ (a : Action). HaveNoBinder a.parameters → Again (AreBehind (codes "action") SameAction) (action_reading known i n) (action_tree columns a) t a) _ a (action_again known columns are i n t small) e unbound).reads
