use Rattle.std.proofs.Common.{take}
use Rattle.lc_history.specs.Judged.{PassesBefore, FitsAlong, Leads}
use Rattle.lc_history.specs.View.{events_of, entries_in}
use Rattle.lc_history.proofs.judging.replay.Given as goal

abbrev pub invariant-loop-place : goal.invariant-loop-place
invariant-loop-place g l =
    let o = g.S.SeqObject in
    let order = entries_in o.call_meant o.choice_meant o.numbers l.order in
    record {
      state : o.HasState l.object l.state;
      leads : Leads (o.step l.object) (o.start l.object) (take l.place order) (o.meaning l.state);
      fits : FitsAlong (o.step l.object) (o.Fits l.object) (o.start l.object) (take l.place order);
      passed : PassesBefore (o.step l.object) (o.start l.object) (events_of l.events) order l.place;
    }
