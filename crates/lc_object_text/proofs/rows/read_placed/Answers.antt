use Rattle.std.proofs.Common.{◌+◌, ap, refl}
use Rattle.lc_sexp.specs.Shown.{number_of}
use Rattle.lc_reading.proofs.SoFar.{so_far_push, each_end}
use Rattle.lc_object_text.specs.Rows.{cons, placed_reading}
use Rattle.lc_object_text.proofs.PlacedRows.{placed_more}
use Rattle.lc_object_text.proofs.rows.read_placed.Goals as goal

pub returns-in_default : goal.returns-in_default
returns-in_default g c =
    each_end g.R.ReadsPlaced.meaning _ _ c.items.values (ap (placed_reading (g.R.ReadsPlaced.reading c.args.reader.now) c.items.place (number_of c.items.rest)) c.in_default.ensures.1) c.items.invariant

pub items-preserved : goal.items-preserved
items-preserved g c =
    let (at, next) = c.in-Ok.ensures in
    let left = placed_more (g.R.ReadsPlaced.reading c.args.reader.now) c.items.place (c.items.place + 1) c.items.rest c.next_part.new.list c.in-Ok.part at next refl in
    so_far_push g.R.ReadsPlaced.meaning cons _ _ _ c.items.values c.read-value.result c.pushed-values.result (rw left at c.items.invariant) c.read-value.ensures c.pushed-values.ensures
