use Rattle.std.proofs.Common.{◌+◌, sym, ap, ◌∙◌, refl}
use Rattle.lc_sexp.specs.Shown.{rest_of, number_of}
use Rattle.lc_reading.proofs.SoFar.{so_far_push, each_end}
use Rattle.lc_object_text.specs.Rows.{cons, lists_reading}
use Rattle.lc_object_text.proofs.PlacedRows.{lists_more, lists_stop}
use Rattle.lc_object_text.proofs.rows.read_lists.Goals as goal

pub returns-then-not-is_at_form : goal.returns-then-not-is_at_form
returns-then-not-is_at_form g c =
    let read = g.R.ReadsPlaced.reading c.args.reader.now in
    each_end g.R.ReadsPlaced.meaning _ _ c.lists.values (lists_stop c.args.word.now read c.lists.place (number_of c.lists.rest) (rest_of c.lists.rest) (sym c.is_at_form.ensures ∙ c.if-not-is_at_form.true)) c.lists.invariant

pub returns-in_default : goal.returns-in_default
returns-in_default g c =
    let read = g.R.ReadsPlaced.reading c.args.reader.now in
    each_end g.R.ReadsPlaced.meaning _ _ c.lists.values (ap (lists_reading c.args.word.now read c.lists.place (number_of c.lists.rest)) c.in_default.ensures.1) c.lists.invariant

pub lists-preserved : goal.lists-preserved
lists-preserved g c =
    let (at, next) = c.in-Ok.ensures in
    let test = sym c.is_at_form.ensures ∙ c.if-not-is_at_form.false in
    let left = lists_more c.args.word.now (g.R.ReadsPlaced.reading c.args.reader.now) c.lists.place (c.lists.place + 1) c.lists.rest c.next_part.new.list c.in-Ok.part test at next refl in
    so_far_push g.R.ReadsPlaced.meaning cons _ _ _ c.lists.values c.read-value.result c.pushed-values.result (rw left at c.lists.invariant) c.read-value.ensures c.pushed-values.ensures
