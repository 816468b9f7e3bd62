use Rattle.std.proofs.Common.{◌≡◌, ◌<◌, None, Ok, false, length, get_or, arith, sym, subst}
use Rattle.std.proofs.lemmas.List.{length-map}
use Rattle.std.proofs.lemmas.Option.{slice_get-get_or}
use Rattle.lc_history.specs.Checked.{IsWithin, IsChecked}
use Rattle.lc_history.specs.Faults.{judge_fault}
use Rattle.lc_history.specs.Spans.{span_of}
use Rattle.lc_history.specs.Tests.{named}
use Rattle.lc_history.specs.View.{event_of, events_of, entry_of, entries_in}
use Rattle.lc_history.proofs.Tables.{entry_at}
use Rattle.lc_history.proofs.Replays.{checked_entry_passes, checked_entry_fails, failing_fits, checked_entry_faults, handed_on, within_history}
use Rattle.lc_history.proofs.judging.replay.Goals as goal

pub failure_of-requires-clause-within : goal.failure_of-requires-clause-within
failure_of-requires-clause-within g c =
    let o = g.S.SeqObject in
    let order = entries_in o.call_meant o.choice_meant o.numbers c.args.order.now in
    let h = events_of c.args.events.now in
    let p = c.loop-place.place in
    let e = entry_of o.call_meant o.choice_meant o.numbers c.index-order-place.result in
    let at = entry_at o.call_meant o.choice_meant o.numbers c.args.order.now p c.index-order-place.result (omega arith) c.index-order-place.is in
    let within : p < length c.args.spans.now = omega (arith, c.requires.places, length-map c.args.order.now (entry_of o.call_meant o.choice_meant o.numbers)) in
    let same : get_or c.args.spans.now p None ≡ span_of h e.client (named order p e) = cc (slice_get-get_or c.args.spans.now p None within, c.requires.found p e at) in
    let size : length h ≡ length c.args.events.now = length-map c.args.events.now event_of in
    subst (λ n. IsWithin n (get_or c.args.spans.now p None)) size (subst (λ z. IsWithin (length h) z) (sym same) (within_history h e.client (named order p e)))

pub returns-in_err-failure : goal.returns-in_err-failure
returns-in_err-failure g c =
    let o = g.S.SeqObject in
    let x = c.args.object.now in
    let order = entries_in o.call_meant o.choice_meant o.numbers c.args.order.now in
    let h = events_of c.args.events.now in
    let p = c.loop-place.place in
    let e = entry_of o.call_meant o.choice_meant o.numbers c.index-order-place.result in
    let at = entry_at o.call_meant o.choice_meant o.numbers c.args.order.now p c.index-order-place.result (omega arith) c.index-order-place.is in
    let within : p < length c.args.spans.now = omega (arith, c.requires.places, length-map c.args.order.now (entry_of o.call_meant o.choice_meant o.numbers)) in
    let is = slice_get-get_or c.args.spans.now p None within in
    let told = slice_get-get_or c.args.preceded.now p false (omega (arith, within, c.requires.flags)) in
    let cause = c.in_err-failure.field-0.0 in
    handed_on (o.step x) (o.Fits x) (o.start x) h order c.from_residual-in_err-failure.result (judge_fault cause) c.from_residual-in_err-failure.ensures.1
    (checked_entry_faults (o.step x) (o.Fits x) (o.start x) h order c.args.spans.now c.args.preceded.now p e (get_or c.args.spans.now p None) (get_or c.args.preceded.now p false)
    (o.meaning c.loop-place.state) (o.meaning c.failure_of.new.state) cause c.requires c.loop-place.invariant.passed c.loop-place.invariant.leads c.loop-place.invariant.fits at is told c.in_err-failure.ensures.checked)

pub returns-in-Some : goal.returns-in-Some
returns-in-Some g c =
    let o = g.S.SeqObject in
    let x = c.args.object.now in
    let order = entries_in o.call_meant o.choice_meant o.numbers c.args.order.now in
    let h = events_of c.args.events.now in
    let p = c.loop-place.place in
    let e = entry_of o.call_meant o.choice_meant o.numbers c.index-order-place.result in
    let at = entry_at o.call_meant o.choice_meant o.numbers c.args.order.now p c.index-order-place.result (omega arith) c.index-order-place.is in
    let within : p < length c.args.spans.now = omega (arith, c.requires.places, length-map c.args.order.now (entry_of o.call_meant o.choice_meant o.numbers)) in
    let is = slice_get-get_or c.args.spans.now p None within in
    let told = slice_get-get_or c.args.preceded.now p false (omega (arith, within, c.requires.flags)) in
    let checked = subst (λ f. IsChecked (o.step x) (o.Fits x) h (get_or c.args.spans.now p None) (get_or c.args.preceded.now p false) e (o.meaning c.loop-place.state) (o.meaning c.failure_of.new.state) (Ok f))
    c.in-Some.is c.in_ok-failure.ensures.checked in (
      checked_entry_fails (o.step x) (o.Fits x) (o.start x) h order c.args.spans.now c.args.preceded.now p e (get_or c.args.spans.now p None) (get_or c.args.preceded.now p false)
          (o.meaning c.loop-place.state) (o.meaning c.failure_of.new.state) c.in-Some.reason c.requires c.loop-place.invariant.passed c.loop-place.invariant.leads at is told checked,
      failing_fits (o.step x) (o.Fits x) (o.start x) h order p e (get_or c.args.spans.now p None) (get_or c.args.preceded.now p false)
          (o.meaning c.loop-place.state) (o.meaning c.failure_of.new.state) c.in-Some.reason c.loop-place.invariant.leads c.loop-place.invariant.fits at checked,
    )

pub loop-place-preserved : goal.loop-place-preserved
loop-place-preserved g c =
    let o = g.S.SeqObject in
    let x = c.args.object.now in
    let order = entries_in o.call_meant o.choice_meant o.numbers c.args.order.now in
    let h = events_of c.args.events.now in
    let p = c.loop-place.place in
    let e = entry_of o.call_meant o.choice_meant o.numbers c.index-order-place.result in
    let at = entry_at o.call_meant o.choice_meant o.numbers c.args.order.now p c.index-order-place.result (omega arith) c.index-order-place.is in
    let within : p < length c.args.spans.now = omega (arith, c.requires.places, length-map c.args.order.now (entry_of o.call_meant o.choice_meant o.numbers)) in
    let is = slice_get-get_or c.args.spans.now p None within in
    let told = slice_get-get_or c.args.preceded.now p false (omega (arith, within, c.requires.flags)) in
    let next = checked_entry_passes (o.step x) (o.Fits x) (o.start x) h order c.args.spans.now c.args.preceded.now p e (get_or c.args.spans.now p None) (get_or c.args.preceded.now p false)
    (o.meaning c.loop-place.state) (o.meaning c.failure_of.new.state) c.requires c.loop-place.invariant.passed c.loop-place.invariant.leads c.loop-place.invariant.fits at is told
    (subst (λ f. IsChecked (o.step x) (o.Fits x) h (get_or c.args.spans.now p None) (get_or c.args.preceded.now p false) e (o.meaning c.loop-place.state) (o.meaning c.failure_of.new.state) (Ok f))
    c.in_default.is c.in_ok-failure.ensures.checked) in
    record { state = c.in_ok-failure.ensures.state; leads = next.1; fits = next.2; passed = next.0 }
