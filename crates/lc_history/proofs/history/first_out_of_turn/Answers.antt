use Rattle.std.proofs.Common.{◌≡◌, ◌≤◌, ◌==◌, not, cond, take, arith, sym, ap, ◌∙◌}
use Rattle.std.proofs.lemmas.List.{length-map}
use Rattle.lc_history.specs.Limits.{client_limit}
use Rattle.lc_history.specs.InCall.{in_call}
use Rattle.lc_history.specs.View.{events_of, event_of}
use Rattle.lc_history.proofs.Turns.{busy_next, beq_false_not, beq_true_same, is_in_turn, is_out_of_turn, front_next, first_out_of_turn, event_at, well_formed}
use Rattle.lc_history.specs.WellFormed.{client_of, begins}
use Rattle.lc_history.proofs.history.first_out_of_turn.Goals as goal
use Rattle.lc_history.proofs.history.first_out_of_turn.Goals.{then-client-gt-CLIENT_LIMIT-via-then-client-gt-CLIENT_LIMIT, then-client-gt-CLIENT_LIMIT-via-else-client-gt-CLIENT_LIMIT+then-contains-begins}

pub returns-then-client-gt-CLIENT_LIMIT : goal.returns-then-client-gt-CLIENT_LIMIT
returns-then-client-gt-CLIENT_LIMIT c =
    let event = event_of c.index-events-place.result in
    let at = event_at c.args.events.now c.loop-place.place c.index-events-place.result (omega arith) c.index-events-place.is in
    let front = c.loop-place.invariant.in_turn in
    elim c.then-client-gt-CLIENT_LIMIT.branch [
      | then-client-gt-CLIENT_LIMIT-via-then-client-gt-CLIENT_LIMIT w ↦
          first_out_of_turn (events_of c.args.events.now) c.loop-place.place event front at
          (λ turn. omega (arith, turn.client, w.if-client-gt-CLIENT_LIMIT.true, c.client-client.ensures))
      | then-client-gt-CLIENT_LIMIT-via-else-client-gt-CLIENT_LIMIT+then-contains-begins w ↦
          first_out_of_turn (events_of c.args.events.now) c.loop-place.place event front at
          (λ turn. is_out_of_turn _ event (in_call c.loop-place.busy) c.loop-place.invariant.busy
          (ap (in_call c.loop-place.busy) (sym c.client-client.ensures) ∙ sym w.contains.ensures ∙ beq_true_same _ _ w.if-contains-begins.true ∙ c.begins-begins.ensures) turn)
    ]

pub loop-place-preserved : goal.loop-place-preserved
loop-place-preserved c =
    let event = event_of c.index-events-place.result in
    let history = events_of c.args.events.now in
    let place = c.loop-place.place in
    let at = event_at c.args.events.now place c.index-events-place.result (omega arith) c.index-events-place.is in
    let busy = in_call c.loop-place.busy in
    let is : busy (client_of event) ≡ not (begins event) =
    ap busy (sym c.client-client.ensures) ∙ sym c.contains.ensures ∙ beq_false_not _ _ c.if-contains-begins.false ∙ ap not c.begins-begins.ensures in
    let le : client_of event ≤ client_limit = omega (arith, c.client-client.ensures) in
    record {
      in_turn = front_next history place event c.loop-place.invariant.in_turn at (is_in_turn (take place history) event busy c.loop-place.invariant.busy le is);
      busy = busy_next history place event busy (in_call c.set.new.self) c.loop-place.invariant.busy at is
          (λ d. c.in_ok-set.ensures d ∙ ap (λ z. cond (d == z) c.begins-begins.result (busy d)) c.client-client.ensures
          ∙ ap (λ z. cond (d == client_of event) z (busy d)) c.begins-begins.ensures);
    }

pub returns : goal.returns
returns c = well_formed (events_of c.args.events.now) c.loop-place.place c.loop-place.invariant.in_turn
    (omega (arith, length-map c.args.events.now event_of))
