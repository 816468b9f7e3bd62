use Rattle.std.proofs.Common.{◌≡◌, ◌≤◌, Err, All, length, drop, arith, sym, subst, ◌∙◌}
use Rattle.std.proofs.lemmas.List.{length-map}
use Rattle.lc_history.specs.Checked.{IsReplayed}
use Rattle.lc_history.specs.Histories.{events_in}
use Rattle.lc_history.specs.Judged.{PassesBefore, FitsAlong}
use Rattle.lc_history.specs.Spans.{AreClients}
use Rattle.lc_history.specs.View.{entry_of, entries_in, events_of}
use Rattle.lc_history.proofs.Replays.{judged_so, take_of_joined, all_pass, some_missing}
use Rattle.lc_history.proofs.judging.judge.Goals as goal

pub returns-in_err-replay : goal.returns-in_err-replay
returns-in_err-replay g c =
    let o = g.S.SeqObject in
    let x = c.args.object.now in
    let order = entries_in o.call_meant o.choice_meant o.numbers c.args.order.now in
    let h = events_in c.args.history.now in
    let same : events_of c.events-events.result.now ≡ h = c.events-events.ensures in
    judged_so (o.step x) (o.Fits x) (o.start x) h order c.from_residual-in_err-replay.result c.in_err-replay.field-0.0
    c.args.history.now.well_formed c.from_residual-in_err-replay.ensures.1
    (subst (λ z. IsReplayed (o.step x) (o.Fits x) (o.start x) z order (Err c.in_err-replay.field-0.0)) same c.in_err-replay.ensures)

pub returns-then-not-are_complete : goal.returns-then-not-are_complete
returns-then-not-are_complete g c =
    let o = g.S.SeqObject in
    let x = c.args.object.now in
    let order = entries_in o.call_meant o.choice_meant o.numbers c.args.order.now in
    let h = events_in c.args.history.now in
    let same : events_of c.events-events.result.now ≡ h = c.events-events.ensures in
    let known = subst (λ z. PassesBefore (o.step x) (o.start x) z order (length order) × FitsAlong (o.step x) (o.Fits x) (o.start x) order) same c.in_ok-replay.ensures in
    let made : AreClients (events_of c.events-events.result.now) c.deref_mut.result.now = rw c.deref_mut.ensures.value c.in_ok-clients.ensures.clients in
    let kept : AreClients h c.spans_of.new.clients = subst (λ z. AreClients z c.spans_of.new.clients) same (c.in_ok-spans.ensures.clients (events_of c.events-events.result.now) made) in
    let back : c.deref-4.result.now ≡ c.spans_of.new.clients = c.deref-4.ensures.value ∙ take_of_joined c.in_ok-clients.clients.len c.spans_of.new.clients (drop (length c.spans_of.new.clients) c.in_ok-clients.clients.items) (omega (arith, c.spans_of.auto.clients, c.deref_mut.ensures.len)) in
    some_missing (o.step x) (o.Fits x) (o.start x) h order c.spans_of.new.clients (length c.args.order.now) c.args.history.now.well_formed kept c.in_ok-spans.ensures.seen known
    (λ all. let yes = c.are_complete.ensures.1 (subst (λ z. All (λ client. length client.returns.items ≤ client.entries) z) (sym back) all) in let no = c.if-not-are_complete.true in cc (yes, no))
    (sym (length-map c.args.order.now (entry_of o.call_meant o.choice_meant o.numbers)))

pub returns : goal.returns
returns g c =
    let o = g.S.SeqObject in
    let x = c.args.object.now in
    let order = entries_in o.call_meant o.choice_meant o.numbers c.args.order.now in
    let h = events_in c.args.history.now in
    let same : events_of c.events-events.result.now ≡ h = c.events-events.ensures in
    let known = subst (λ z. PassesBefore (o.step x) (o.start x) z order (length order) × FitsAlong (o.step x) (o.Fits x) (o.start x) order) same c.in_ok-replay.ensures in
    let made : AreClients (events_of c.events-events.result.now) c.deref_mut.result.now = rw c.deref_mut.ensures.value c.in_ok-clients.ensures.clients in
    let kept : AreClients h c.spans_of.new.clients = subst (λ z. AreClients z c.spans_of.new.clients) same (c.in_ok-spans.ensures.clients (events_of c.events-events.result.now) made) in
    let back : c.deref-4.result.now ≡ c.spans_of.new.clients = c.deref-4.ensures.value ∙ take_of_joined c.in_ok-clients.clients.len c.spans_of.new.clients (drop (length c.spans_of.new.clients) c.in_ok-clients.clients.items) (omega (arith, c.spans_of.auto.clients, c.deref_mut.ensures.len)) in
    all_pass (o.step x) (o.Fits x) (o.start x) h order c.spans_of.new.clients c.args.history.now.well_formed kept c.in_ok-spans.ensures.seen known
    (subst (λ z. All (λ client. length client.returns.items ≤ client.entries) z) back (c.are_complete.ensures.0 c.if-not-are_complete.false))
