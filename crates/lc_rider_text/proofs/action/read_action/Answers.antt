use Rattle.std.proofs.Common.{sym, subst}
use Rattle.std.specs.Prelude.{codes}
use Rattle.lc_sexp.specs.Shown.{rest_of, number_of, owner_of}
use Rattle.lc_action.specs.ActionView.{action_of}
use Rattle.lc_reading.proofs.Sections.{behind_reading-is}
use Rattle.lc_reading.specs.Readings.{mapped}
use Rattle.lc_reading.specs.Results.{IsReading}
use Rattle.lc_rider_text.specs.Actions.{the_action, action_parts_reading}
use Rattle.lc_rider_text.specs.KnownView.{known_view}
use Rattle.lc_rider_text.proofs.action.read_action.Goals as goal

pub returns : goal.returns
returns c =
    let read = action_parts_reading (known_view c.args.known) c.args.place in
    let l = c.in_ok-list.list in
    subst (λ r. IsReading action_of (mapped the_action r) c.made_action.result) (sym (behind_reading-is (codes "action") read c.args.part l c.in_ok-list.ensures))
    (c.made_action.ensures (read (owner_of l) (number_of l) (rest_of l)) c.read_action_parts.ensures)
