use Rattle.std.proofs.Common.{ap}
use Rattle.lc_history.specs.View.{event_of, events_of}
use Rattle.lc_history.proofs.Checks.{reply_given, replied_where}
use Rattle.lc_history.proofs.judging.has_its_reply.Goals as goal

pub returns : goal.returns
returns g c =
    let there = reply_given c.args.events.now c.args.span c.in-Some.span c.in-Some-returned.place c.index-events-place.result c.in-Respond.client c.in-Respond.numbers.items
    c.in-Some.is c.in-Some-returned.is c.requires c.index-events-place.is (ap event_of c.in-Respond.is) in
    let equal = rw (c.deref.ensures.value, c.deref-2.ensures.value, c.in_ok-given.ensures) at c.are_equal.ensures in
    replied_where (events_of c.args.events.now) c.args.span (g.S.SeqObject.numbers c.args.reply.now) c.in-Respond.numbers.items c.are_equal.result there equal
