use Rattle.std.proofs.Common.{sym, ◌∙◌}
use Rattle.lc_reading.specs.TableView.{listed}
use Rattle.lc_spec_text.proofs.Placed.{not_placed, place_within_front}
use Rattle.lc_spec_text.proofs.arguments.stands_before.Goals as goal

pub returns-in-None : goal.returns-in-None
returns-in-None c = not_placed (listed c.args.names.now) c.args.text.now c.args.count (sym c.place_from.ensures ∙ c.in-None.is)

pub returns-in-Some : goal.returns-in-Some
returns-in-Some c = place_within_front (listed c.args.names.now) c.args.text.now c.args.count c.in-Some.first (sym c.place_from.ensures ∙ c.in-Some.is)
