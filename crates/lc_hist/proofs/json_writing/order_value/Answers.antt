use Rattle.std.proofs.Common.{◌≡◌, Some, slice_get, length, ap, subst, refl, ◌∙◌, arith, add-one}
use Rattle.std.proofs.lemmas.List.{length-map}
use Rattle.std.proofs.lemmas.Option.{slice_get-map, slice_get_read}
use Rattle.std.specs.Prelude.{option_map}
use Rattle.lc_lemmas.proofs.Lists.{taken_all}
use Rattle.lc_seq.specs.SpecView.{operations_of}
use Rattle.lc_history.specs.View.{entry_view, entries_view}
use Rattle.lc_hist.specs.JsonKept.{Each, IsKeptEntry}
use Rattle.lc_hist.specs.JsonWritten.{entry_data}
use Rattle.lc_hist.proofs.JsonLists.{each-next, written_next}
use Rattle.lc_hist.proofs.json_writing.order_value.Goals as goal

pub loop-done-preserved : goal.loop-done-preserved
loop-done-preserved c =
    let i = c.loop-done.done-index in
    let order = entries_view c.args.order.now in
    let entry = entry_view c.done-item.result in
    let at : slice_get order i ≡ Some entry =
    slice_get-map entry_view c.args.order.now i ∙ ap (option_map entry_view) (slice_get_read c.args.order.now (length c.args.order.now) i c.done-item.result refl (omega arith) c.done-item.is) in
    record {
      written = rw (c.in_ok-push.ensures.items, add-one i) (written_next (entry_data (operations_of c.args.operations.now)) order i entry c.loop-done.values.items c.in_ok-entry_value.field-0 c.loop-done.invariant.written at c.in_ok-entry_value.ensures.value);
      kept = rw (add-one i) (each-next IsKeptEntry order i entry c.loop-done.invariant.kept at c.in_ok-entry_value.ensures.kept);
    }

pub returns-clause-kept : goal.returns-clause-kept
returns-clause-kept c =
    let order = entries_view c.args.order.now in
    let whole = taken_all order c.loop-done.done-index (omega (arith, length-map c.args.order.now entry_view)) in
    subst (Each IsKeptEntry) whole c.loop-done.invariant.kept
