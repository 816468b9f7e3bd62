use Rattle.lc_reading.proofs.Fine.{of_fine}
use Rattle.lc_text_laws.proofs.Riders.{ons_stood}
use Rattle.lc_text_laws.proofs.Rows.{IsRow}
use Rattle.lc_outline_print.specs.Beside.{on_tree}
use Rattle.lc_text_laws.proofs.laws.edges_are_printed_as_they_stood.Goals as goal

pub returns : goal.returns
returns c = λ known names by object actions own edges m ts xs all e. of_fine (IsRow (on_tree object actions by) ts) _ xs (ons_stood known names by object actions all own edges m ts) e
