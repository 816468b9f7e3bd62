use Rattle.std.proofs.Common.{sym, subst}
use Rattle.lc_reading.proofs.Combined.{both_read}
use Rattle.lc_reading.specs.Parts.{tree_of, place_of}
use Rattle.lc_reading.specs.Results.{IsReading}
use Rattle.lc_text.specs.Terms.{pair}
use Rattle.lc_rider_text.proofs.Parts.{action_found}
use Rattle.lc_rider_text.specs.Actions.{parameters_reading}
use Rattle.lc_rider_text.specs.KnownView.{known_view}
use Rattle.lc_rider_text.specs.Seen.{heading_view, effect_view, action_parts}
use Rattle.lc_rider_text.proofs.action.read_action_parts.Goals as goal

pub returns : goal.returns
returns c =
    let u = c.in_ok-parameters.parameters in
    subst (λ r. IsReading action_parts r c.both.result)
    (sym (action_found (known_view c.args.known) c.args.place c.args.list c.next_part.new.list c.next_part-2.new.list c.next_part-3.new.list
    c.in_ok-name.name u c.in_ok-guard.guard c.in_ok-name.ensures c.in_ok-parameters.ensures c.in_ok-guard.ensures))
    (rw c.both.ensures
    (both_read heading_view effect_view pair _ _ _ _ (c.read_heading-heading.ensures (parameters_reading (place_of u) (tree_of u)) c.in_ok-others.ensures.read)
    (rw (c.in_ok-of_client.ensures, c.in_ok-others.ensures.names) at c.read_effect.ensures)))
