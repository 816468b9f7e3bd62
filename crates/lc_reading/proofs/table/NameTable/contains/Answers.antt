use Rattle.std.proofs.Common.{ap, ◌∙◌}
use Rattle.std.specs.Prelude.{is_some}
use Rattle.lc_reading.specs.TableView.{listed}
use Rattle.lc_reading.proofs.Places.{has_place}
use Rattle.lc_reading.proofs.table.NameTable.contains.Goals as goal

pub returns : goal.returns
returns c = c.is_some.ensures ∙ ap is_some c.place.ensures ∙ has_place (listed c.args.self.now) c.args.name.now
