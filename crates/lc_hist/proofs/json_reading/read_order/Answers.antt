use Rattle.std.proofs.Common.{◌≡◌, Some, None, [], ◌∷◌, ◌++◌, option_map, ap, sym, ◌∙◌, arith}
use Rattle.std.proofs.lemmas.List.{map-append, length-map}
use Rattle.lc_history.specs.View.{entry_view, entries_view}
use Rattle.lc_hist.specs.JsonItems.{data_at, values_at}
use Rattle.lc_hist.specs.JsonSeen.{all_of}
use Rattle.lc_hist.specs.JsonValues.{entry_in}
use Rattle.lc_hist.proofs.JsonAnswers.{refused_weaker, wrong_entry}
use Rattle.lc_hist.proofs.JsonLists.{all_in-push, one_read}
use Rattle.lc_hist.proofs.json_reading.read_order.Goals as goal

pub returns-in_default-2 : goal.returns-in_default-2
returns-in_default-2 c =
    let operations = all_of c.args.operations.now in
    let l = c.values in
    let ds = l.invariant.0 in
    let d = data_at c.in-Some.value in
    let all = values_at c.args.values in
    let here : ds ++ d ∷ values_at c.next.new.self ≡ all = ap (λ rest. ds ++ rest) (sym c.in-Some.ensures.value) ∙ l.invariant.2 in
    let none : entry_in operations d ≡ None = sym c.in_ok-done.ensures ∙ ap (option_map entry_view) c.in_default-2.is in
    let count = length-map l.order.items entry_view in
    refused_weaker _ _ c.wrong.result
    (λ item is. wrong_entry operations ds all (values_at c.next.new.self) c.args.before item d (entries_view l.order.items) here l.invariant.1 none (omega arith))
    c.wrong.ensures

pub values-preserved : goal.values-preserved
values-preserved c =
    let operations = all_of c.args.operations.now in
    let l = c.values in
    let ds = l.invariant.0 in
    let d = data_at c.in-Some.value in
    let entry = entry_view c.in-Some-2.done in
    let says : entry_in operations d ≡ Some entry = sym c.in_ok-done.ensures ∙ ap (option_map entry_view) c.in-Some-2.is in
    let pushed : entries_view c.push.new.self.items ≡ entries_view l.order.items ++ entry ∷ [] = ap entries_view c.in_ok-push.ensures.items ∙ map-append entry_view l.order.items (c.in-Some-2.done ∷ []) in (
      ds ++ d ∷ [],
      all_in-push (entry_in operations) ds d (entries_view l.order.items) entry l.invariant.1 says ∙ ap Some (sym pushed),
      one_read ds d (values_at c.next.new.self) (values_at l.values) (values_at c.args.values) c.in-Some.ensures.value l.invariant.2,
    )
