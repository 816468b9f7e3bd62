use Rattle.std.proofs.Common.{sym, subst}
use Rattle.lc_object.specs.View.{point_of}
use Rattle.lc_outline.specs.PartsView.{outline_of}
use Rattle.lc_reading.proofs.Combined.{both_read}
use Rattle.lc_reading.specs.Results.{IsReading}
use Rattle.lc_text.specs.Terms.{pair}
use Rattle.lc_outline_text.specs.Views.{outlined_of}
use Rattle.lc_outline_text.proofs.point.read_outlined.Goals as goal

pub returns : goal.returns
returns c = λ r h.
    subst (IsReading outlined_of _) (sym c.both.ensures) (both_read point_of outline_of pair r _ c.args.point c.read_outline-outline.result h (rw c.edges_of.ensures at c.read_outline-outline.ensures))
