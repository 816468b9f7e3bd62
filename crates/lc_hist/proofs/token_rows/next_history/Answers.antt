use Rattle.std.proofs.Common.{◌≡◌, ◌==◌, ℕ, Some, true, cond, ◌++◌, ◌∷◌, [], ap, sym, subst, ◌∙◌, arith, rules}
use Rattle.std.proofs.lemmas.List.{map-append}
use Rattle.json.specs.Json.{after_end_array}
use Rattle.json.specs.Token.{Token}
use Rattle.lc_hist.specs.JsonHistories.{AreEvents}
use Rattle.lc_hist.specs.JsonSeen.{all_of, number_of, open_of, may_follow}
use Rattle.lc_hist.specs.JsonTokens.{Begins}
use Rattle.lc_history.specs.View.{event_of, events_of}
use Rattle.lc_history.specs.WellFormed.{client_of}
use Rattle.lc_hist.proofs.JsonAnswers.{events_are_formed}
use Rattle.lc_hist.proofs.JsonEvents.{AreOpen, is_next, next_event, open_next, number_cond, may_follow_busy, within_limit}
use Rattle.lc_hist.proofs.JsonTokens.{row_begins, row_next, row_ends, begins-shorter}
use Rattle.lc_hist.proofs.token_rows.next_history.Goals as goal

pub events-init : goal.events-init
events-init c =
    let events = events_of c.new-events.result.items in
    let are : AreEvents (all_of c.args.operations.now) [] events = sym (ap events_of c.new-events.ensures.items) in
    let calls : AreOpen events (λ k. number_of (open_of c.new-calls.result k)) = search rules in
    ([], are, calls, row_begins 3 c.begins_array.new.self)

pub events-preserved : goal.events-preserved
events-preserved c =
    let operations = all_of c.args.operations.now in
    let l = c.events in
    let ds = l.invariant.0 in
    let said = rw c.in-Some.is at c.in_ok-event.ensures in
    let d = said.0 in
    let rest = c.next_event.new.reader in
    let e = event_of c.in-Some.event in
    let events = events_of l.events.items in
    let table = λ (k : ℕ). number_of (open_of l.calls k) in
    let same : c.take_end_array.new.self ≡ l.reader = grind arith in
    let begins : Begins 3 l.reader d rest = subst (λ ts. Begins 3 ts d rest) same said.2 in
    let form = said.1 in
    let now : number_of c.of.result ≡ table (client_of e) = ap number_of c.of.ensures ∙ ap table c.client-client.ensures in
    let may : may_follow operations (table (client_of e)) e ≡ true = ap (λ o. may_follow operations o e) (sym now) ∙ sym c.may_follow.ensures ∙ c.if-not-may_follow.false in
    let pushed : events_of c.push.new.self.items ≡ events ++ e ∷ [] = ap events_of c.in_ok-push.ensures.items ∙ map-append event_of l.events.items (c.in-Some.event ∷ []) in
    let next = is_next operations events table d e l.invariant.2 form (within_limit operations d e form) may in (
      ds ++ d ∷ [],
      rw pushed (next_event operations [] ds events d e l.invariant.1 next),
      rw pushed (open_next events table (λ k. number_of (open_of c.set.new.self k)) e l.invariant.2 (may_follow_busy operations (table (client_of e)) e may)
          (λ k. ap number_of (c.in_ok-set.ensures k) ∙ number_cond (k == c.client-client.result) c.opened.result (open_of l.calls k)
          ∙ ap (λ z. cond (k == z) (number_of c.opened.result) (table k)) c.client-client.ensures ∙ ap (λ z. cond (k == client_of e) z (table k)) c.opened.ensures)),
      row_next 3 c.begins_array.new.self ds l.reader d rest l.invariant.3 begins,
    )

pub events-smaller : goal.events-smaller
events-smaller c =
    let said = rw c.in-Some.is at c.in_ok-event.ensures in
    let d = said.0 in
    let rest = c.next_event.new.reader in
    let same : c.take_end_array.new.self ≡ c.events.reader = grind arith in
    let begins : Begins 3 c.events.reader d rest = subst (λ ts. Begins 3 ts d rest) same said.2 in
    begins-shorter 3 c.events.reader d rest begins

pub of_well_formed-requires : goal.of_well_formed-requires
of_well_formed-requires c = events_are_formed (all_of c.args.operations.now) c.events.invariant.0 (events_of c.events.events.items) c.events.invariant.1

pub returns : goal.returns
returns c =
    let l = c.events in
    let rest = c.take_end_array.new.self in
    let opens : c.args.reader.now ≡ Token.begin_array ∷ c.begins_array.new.self = grind arith in
    let ends : after_end_array l.reader ≡ Some rest = grind arith in (
      l.invariant.0,
      subst (λ h. AreEvents (all_of c.args.operations.now) l.invariant.0 h) (sym c.of_well_formed.ensures) l.invariant.1,
      row_ends 3 c.args.reader.now c.begins_array.new.self l.invariant.0 l.reader rest opens l.invariant.3 ends,
    )
