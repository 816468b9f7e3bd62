use Rattle.std.proofs.Common.{◌≡◌, ◌+◌, ap, subst, length, ◌∙◌, sym}
use Rattle.std.proofs.lemmas.List.{length-map}
use Rattle.std.proofs.lemmas.Result.{err_from_is_err_and}
use Rattle.lc_history.specs.Histories.{events_in}
use Rattle.lc_hist.specs.JsonHistories.{Parts, IsRefusedAt}
use Rattle.lc_hist.specs.JsonItems.{values_at}
use Rattle.lc_hist.specs.JsonSeen.{all_of, order_values, IsWrongInParts, IsWrongEntryItem}
use Rattle.lc_history.specs.View.{event_of}
use Rattle.lc_hist.proofs.JsonAnswers.{refused_weaker, count_of_events, wrong_in_order}
use Rattle.lc_hist.proofs.json_reading.read_lists.Goals as goal

pub returns-in_err-order-in-Some : goal.returns-in_err-order-in-Some
returns-in_err-order-in-Some c =
    let operations = all_of c.args.operations.now in
    let parts : Parts = record { events = values_at c.args.events; order = values_at c.in-Some.order } in
    let events = events_in c.in_ok-history.history in
    let before = 1 + length c.events.result.now in
    let fault = c.in_err-order-in-Some.field-0.0 in
    let count : length events ≡ length parts.events = count_of_events operations parts.events events c.in_ok-history.ensures in
    let same : before ≡ 1 + length parts.events = ap (λ n. 1 + n) (sym (length-map c.events.result.now event_of) ∙ ap (λ es. length es) c.events.ensures ∙ count) in
    let p = err_from_is_err_and c.from_residual-in_err-order-in-Some.result c.from_residual-in_err-order-in-Some.ensures.1 in
    rw (p.1, p.2)
    (subst (λ o. IsRefusedAt (IsWrongInParts operations (record { events = values_at c.args.events; order = order_values o })) fault) (sym c.in-Some.is)
    (refused_weaker (IsWrongEntryItem operations parts.order before) (IsWrongInParts operations parts) fault
    (λ item wrong. wrong_in_order operations parts events before c.in_ok-history.ensures same item wrong) c.in_err-order-in-Some.ensures))
