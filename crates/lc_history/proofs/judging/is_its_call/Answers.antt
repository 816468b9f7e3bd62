use Rattle.std.proofs.Common.{◌≡◌, Some, ap}
use Rattle.lc_seq.specs.Sequential.{Call}
use Rattle.lc_history.specs.View.{event_of, events_of}
use Rattle.lc_history.specs.Checked.{call_at}
use Rattle.lc_history.proofs.Checks.{call_there, named_where}
use Rattle.lc_history.proofs.judging.is_its_call.Goals as goal

pub returns : goal.returns
returns g c =
    let o = g.S.SeqObject in
    let call : Call = record { op = c.in-Invoke.op.0; numbers = c.deref.result.now } in
    let there = call_there c.args.events.now c.args.span c.in-Some.span c.index-events-span.result _ _ c.in-Some.is c.requires c.index-events-span.is (ap event_of c.in-Invoke.is) in
    let it : call_at (events_of c.args.events.now) c.args.span ≡ Some call = rw c.deref.ensures.value there in
    named_where (events_of c.args.events.now) c.args.span call (o.call_meant c.args.call.now) c.is_call.result it c.is_call.ensures
