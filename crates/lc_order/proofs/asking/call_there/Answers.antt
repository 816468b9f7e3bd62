use Rattle.std.proofs.Common.{◌≡◌, ℕ, Some, MatchOption, IfSome, slice_get, ap, subst, sym, ◌∙◌}
use Rattle.lc_seq.specs.Sequential.{Call}
use Rattle.lc_history.specs.History.{Replied}
use Rattle.lc_history.specs.Tests.{IsCallOf}
use Rattle.lc_history.specs.View.{events_of}
use Rattle.lc_history.specs.declared.event.Event.TheVariants.{Invoke}
use Rattle.lc_history.proofs.Tables.{element_at}
use Rattle.lc_order.proofs.Places.{one_call, call_found, reply_found}
use Rattle.lc_order.proofs.asking.call_there.Goals as goal

pub returns-in_default-2 : goal.returns-in_default-2
returns-in_default-2 g c d k span =
    let o = g.S.SeqObject in
    let x = c.args.object.now in
    let h = events_of c.args.events.now in
    let op = c.in-Some-Invoke.op in
    let at : slice_get c.args.events.now c.args.span.called ≡ Some (Invoke c.in-Some-Invoke.field-0-0 op c.in-Some-Invoke.numbers) =
    element_at c.args.events.now c.args.span.called c.in-Some-Invoke.field-0.now c.in-Some-Invoke.ensures.lookup.3.0 c.in-Some-Invoke.ensures.lookup.1 ∙ ap Some c.in-Some-Invoke.field-0-is in
    let found = call_found c.args.events.now d k c.args.span.called c.in-Some-Invoke.field-0-0 op c.in-Some-Invoke.numbers at span.called in
    let call : Call = record { op = op.0; numbers = c.deref.result.now } in
    let its : IsCallOf h d k call = subst (λ ns. IsCallOf h d k (record { op = op.0; numbers = ns })) (sym c.deref.ensures.value) found in
    let none = subst (λ z. MatchOption z (o.HasCall x call → ⊥) (λ y. o.HasCall x call × (o.call_meant y ≡ call))) c.in_default-2.is c.in_ok-call.ensures in
    record { none = λ other is has. none (subst (o.HasCall x) (one_call h d k other call is its) has) }

pub returns-in-Some-2 : goal.returns-in-Some-2
returns-in-Some-2 g c d k span =
    let o = g.S.SeqObject in
    let x = c.args.object.now in
    let h = events_of c.args.events.now in
    let op = c.in-Some-Invoke.op in
    let at : slice_get c.args.events.now c.args.span.called ≡ Some (Invoke c.in-Some-Invoke.field-0-0 op c.in-Some-Invoke.numbers) =
    element_at c.args.events.now c.args.span.called c.in-Some-Invoke.field-0.now c.in-Some-Invoke.ensures.lookup.3.0 c.in-Some-Invoke.ensures.lookup.1 ∙ ap Some c.in-Some-Invoke.field-0-is in
    let found = call_found c.args.events.now d k c.args.span.called c.in-Some-Invoke.field-0-0 op c.in-Some-Invoke.numbers at span.called in
    let call : Call = record { op = op.0; numbers = c.deref.result.now } in
    let its : IsCallOf h d k call = subst (λ ns. IsCallOf h d k (record { op = op.0; numbers = ns })) (sym c.deref.ensures.value) found in
    let some = subst (λ z. MatchOption z (o.HasCall x call → ⊥) (λ y. o.HasCall x call × (o.call_meant y ≡ call))) c.in-Some.is c.in_ok-call.ensures in
    let back = subst (λ z. IfSome z (λ reply. (i : ℕ) × (c.args.span.returned ≡ Some i) × (e : ℕ) × (slice_get h i ≡ Some (Replied e reply.items)))) c.in-Some-2.is c.in_ok-reply.ensures in
    record {
      call = subst (IsCallOf h d k) (sym some.1) its;
      reply = λ returned. reply_found h d k back.0 back.2 c.in-Some-2.reply.items back.3 (span.returned back.0 back.1);
    }

pub returns-in-None : goal.returns-in-None
returns-in-None g c d k span =
    let o = g.S.SeqObject in
    let x = c.args.object.now in
    let h = events_of c.args.events.now in
    let op = c.in-Some-Invoke.op in
    let at : slice_get c.args.events.now c.args.span.called ≡ Some (Invoke c.in-Some-Invoke.field-0-0 op c.in-Some-Invoke.numbers) =
    element_at c.args.events.now c.args.span.called c.in-Some-Invoke.field-0.now c.in-Some-Invoke.ensures.lookup.3.0 c.in-Some-Invoke.ensures.lookup.1 ∙ ap Some c.in-Some-Invoke.field-0-is in
    let found = call_found c.args.events.now d k c.args.span.called c.in-Some-Invoke.field-0-0 op c.in-Some-Invoke.numbers at span.called in
    let call : Call = record { op = op.0; numbers = c.deref.result.now } in
    let its : IsCallOf h d k call = subst (λ ns. IsCallOf h d k (record { op = op.0; numbers = ns })) (sym c.deref.ensures.value) found in
    let some = subst (λ z. MatchOption z (o.HasCall x call → ⊥) (λ y. o.HasCall x call × (o.call_meant y ≡ call))) c.in-Some.is c.in_ok-call.ensures in
    record {
      call = subst (IsCallOf h d k) (sym some.1) its;
      reply = λ returned. absurd (cc returned);
    }
