use Rattle.std.proofs.Common.{◌≡◌, ◌==◌, ℕ, Some, None, true, false, cond, option_map, ◌++◌, ◌∷◌, [], ap, sym, ◌∙◌, arith}
use Rattle.std.proofs.lemmas.List.{map-append, length-map}
use Rattle.lc_hist.specs.JsonItems.{data_at, values_at}
use Rattle.lc_hist.specs.JsonSeen.{all_of, number_of, open_of, may_follow}
use Rattle.lc_hist.specs.JsonValues.{event_in}
use Rattle.lc_history.specs.View.{event_of, events_of}
use Rattle.lc_history.specs.WellFormed.{client_of}
use Rattle.lc_hist.proofs.JsonAnswers.{refused_weaker, wrong_event, no_form, events_are_formed}
use Rattle.lc_hist.proofs.JsonEvents.{is_no_next, is_next, next_event, open_next, number_cond, may_follow_busy, within_limit}
use Rattle.lc_hist.proofs.JsonLists.{one_read}
use Rattle.lc_hist.proofs.json_reading.read_events.Goals as goal

pub returns-in_default-2 : goal.returns-in_default-2
returns-in_default-2 c =
    let operations = all_of c.args.operations.now in
    let l = c.values in
    let ds = l.invariant.0 in
    let d = data_at c.in-Some.value in
    let all = values_at c.args.values in
    let here : ds ++ d ∷ values_at c.next.new.self ≡ all = ap (λ rest. ds ++ rest) (sym c.in-Some.ensures.value) ∙ l.invariant.3 in
    let none : event_in operations d ≡ None = sym c.in_ok-event.ensures ∙ ap (option_map event_of) c.in_default-2.is in
    let count = length-map l.events.items event_of in
    refused_weaker _ _ c.wrong.result
    (λ item is. wrong_event operations ds all (values_at c.next.new.self) item d (events_of l.events.items) here l.invariant.1 (no_form operations (events_of l.events.items) d none) (omega arith))
    c.wrong.ensures

pub returns-then-not-may_follow : goal.returns-then-not-may_follow
returns-then-not-may_follow c =
    let operations = all_of c.args.operations.now in
    let l = c.values in
    let ds = l.invariant.0 in
    let d = data_at c.in-Some.value in
    let e = event_of c.in-Some-2.event in
    let table = λ (k : ℕ). number_of (open_of l.calls k) in
    let all = values_at c.args.values in
    let here : ds ++ d ∷ values_at c.next.new.self ≡ all = ap (λ rest. ds ++ rest) (sym c.in-Some.ensures.value) ∙ l.invariant.3 in
    let form : event_in operations d ≡ Some e = sym c.in_ok-event.ensures ∙ ap (option_map event_of) c.in-Some-2.is in
    let now : number_of c.of.result ≡ table (client_of e) = ap number_of c.of.ensures ∙ ap table c.client-client.ensures in
    let may : may_follow operations (table (client_of e)) e ≡ false = ap (λ o. may_follow operations o e) (sym now) ∙ sym c.may_follow.ensures ∙ c.if-not-may_follow.true in
    let count = length-map l.events.items event_of in
    refused_weaker _ _ c.wrong-then-not-may_follow.result
    (λ item is. wrong_event operations ds all (values_at c.next.new.self) item d (events_of l.events.items) here l.invariant.1
    (is_no_next operations (events_of l.events.items) table d e l.invariant.2 form may) (omega arith))
    c.wrong-then-not-may_follow.ensures

pub values-preserved : goal.values-preserved
values-preserved c =
    let operations = all_of c.args.operations.now in
    let l = c.values in
    let ds = l.invariant.0 in
    let d = data_at c.in-Some.value in
    let e = event_of c.in-Some-2.event in
    let events = events_of l.events.items in
    let table = λ (k : ℕ). number_of (open_of l.calls k) in
    let form : event_in operations d ≡ Some e = sym c.in_ok-event.ensures ∙ ap (option_map event_of) c.in-Some-2.is in
    let now : number_of c.of.result ≡ table (client_of e) = ap number_of c.of.ensures ∙ ap table c.client-client.ensures in
    let may : may_follow operations (table (client_of e)) e ≡ true = ap (λ o. may_follow operations o e) (sym now) ∙ sym c.may_follow.ensures ∙ c.if-not-may_follow.false in
    let pushed : events_of c.push.new.self.items ≡ events ++ e ∷ [] = ap events_of c.in_ok-push.ensures.items ∙ map-append event_of l.events.items (c.in-Some-2.event ∷ []) in
    let next = is_next operations events table d e l.invariant.2 form (within_limit operations d e form) may in (
      ds ++ d ∷ [],
      rw pushed (next_event operations [] ds events d e l.invariant.1 next),
      rw pushed (open_next events table (λ k. number_of (open_of c.set.new.self k)) e l.invariant.2 (may_follow_busy operations (table (client_of e)) e may)
          (λ k. ap number_of (c.in_ok-set.ensures k) ∙ number_cond (k == c.client-client.result) c.opened.result (open_of l.calls k)
          ∙ ap (λ z. cond (k == z) (number_of c.opened.result) (table k)) c.client-client.ensures ∙ ap (λ z. cond (k == client_of e) z (table k)) c.opened.ensures)),
      one_read ds d (values_at c.next.new.self) (values_at l.values) (values_at c.args.values) c.in-Some.ensures.value l.invariant.3,
    )

pub of_well_formed-requires : goal.of_well_formed-requires
of_well_formed-requires c = events_are_formed (all_of c.args.operations.now) c.values.invariant.0 (events_of c.values.events.items) c.values.invariant.1
