use Rattle.std.proofs.Common.{◌≡◌, take, arith, ap, ◌∙◌}
use Rattle.std.proofs.lemmas.List.{length-map}
use Rattle.std.proofs.lemmas.Option.{slice_get_within}
use Rattle.lc_lemmas.proofs.Lists.{taken_all}
use Rattle.lc_history.specs.History.{count, is_of}
use Rattle.lc_history.specs.View.{entry_of, entries_in}
use Rattle.lc_history.proofs.Tables.{spans_next, seen_of_next, count-take-le, entry_at}
use Rattle.lc_history.proofs.spans.spans_of.Goals as goal

pub next_span-span-requires : goal.next_span-span-requires
next_span-span-requires g c d client at =
    let order = entries_in g.S.SeqObject.call_meant g.S.SeqObject.choice_meant g.S.SeqObject.numbers c.args.order.now in
    let few = count-take-le (is_of d) c.loop-done.done-index order in
    omega (arith, c.loop-done.invariant.seen d client at, few)

pub loop-done-preserved : goal.loop-done-preserved
loop-done-preserved g c =
    let call = g.S.SeqObject.call_meant in
    let choice = g.S.SeqObject.choice_meant in
    let numbers = g.S.SeqObject.numbers in
    let order = entries_in call choice numbers c.args.order.now in
    let at = entry_at call choice numbers c.args.order.now c.loop-done.done-index c.done-item.result (omega arith) c.done-item.is in
    let before = c.loop-done.invariant in
    record {
      spans = λ h are. rw c.in_ok-push.ensures.items (spans_next h order c.loop-done.done-index (entry_of call choice numbers c.done-item.result) c.loop-done.spans.items c.next_span-span.result
          before.size (before.spans h are) at (c.next_span-span.ensures.span h _ (before.clients h are) before.seen));
      size = omega (arith, c.in_ok-push.ensures.len, before.size);
      clients = λ h are. c.next_span-span.ensures.clients h (before.clients h are);
      seen = seen_of_next order c.loop-done.done-index (entry_of call choice numbers c.done-item.result) c.next_span-span.new.clients at (c.next_span-span.ensures.seen _ before.seen);
    }

pub returns-clause-spans : goal.returns-clause-spans
returns-clause-spans g c h are p e at =
    let order = entries_in g.S.SeqObject.call_meant g.S.SeqObject.choice_meant g.S.SeqObject.numbers c.args.order.now in
    let within = slice_get_within order p e at in
    let size = length-map c.args.order.now (entry_of g.S.SeqObject.call_meant g.S.SeqObject.choice_meant g.S.SeqObject.numbers) in
    c.loop-done.invariant.spans h are p e (omega (arith, within, size)) at

pub returns-clause-seen : goal.returns-clause-seen
returns-clause-seen g c d client at =
    let order = entries_in g.S.SeqObject.call_meant g.S.SeqObject.choice_meant g.S.SeqObject.numbers c.args.order.now in
    let size = length-map c.args.order.now (entry_of g.S.SeqObject.call_meant g.S.SeqObject.choice_meant g.S.SeqObject.numbers) in
    let whole : take c.loop-done.done-index order ≡ order = taken_all order c.loop-done.done-index (omega (arith, size)) in
    c.loop-done.invariant.seen d client at ∙ ap (count (is_of d)) whole
