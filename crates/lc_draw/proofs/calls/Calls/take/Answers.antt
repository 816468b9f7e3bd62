use Rattle.std.proofs.Common.{◌++◌, ◌∷◌, [], ap, sym, subst, vec_len}
use Rattle.std.specs.Prelude.{Result, Ok, Err, OnOk}
use Rattle.lc_history.specs.History as H
use Rattle.lc_history.specs.View.{event_of}
use Rattle.lc_draw.specs.Counting.{IsUpTo}
use Rattle.lc_draw.proofs.Turning.{replied-up}
use Rattle.lc_draw.proofs.calls.Calls.take.Goals as goal

-- what follows where there is no fault
on_ok : {T E : Type 0} {P Q : Type 0} (r : Result T E) → OnOk r P → (P → Q) → OnOk r Q
on_ok (Ok x) h f = f h
on_ok (Err e) h f = tt

always : {T E : Type 0} {Q : Type 0} (r : Result T E) → Q → OnOk r Q
always (Ok x) h = h
always (Err e) h = tt

pub returns-in-Invoke : goal.returns-in-Invoke
returns-in-Invoke c =
    let new = c.begin.new.self in
    on_ok c.begin.result c.begin.ensures
    (λ more events up. subst (λ (e : H.Event). IsUpTo (events ++ e ∷ []) (vec_len new.calls) new.turns.entries new.numbers.entries) (sym (ap event_of c.in-Invoke.is)) (more events _ up))

pub returns-in-Respond : goal.returns-in-Respond
returns-in-Respond c =
    let self = c.args.self.now in
    let new = c.end.new.self in
    always c.end.result
    (λ events up. replied-up events (event_of c.args.event.now) _ _ (vec_len self.calls) (vec_len new.calls) self.turns.entries new.turns.entries self.numbers.entries new.numbers.entries (ap event_of c.in-Respond.is) c.end.ensures.calls
    c.end.ensures.turns c.end.ensures.numbers up)
