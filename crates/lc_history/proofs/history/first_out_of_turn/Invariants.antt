use Rattle.lc_history.specs.InCall.{in_call}
use Rattle.lc_history.specs.View.{events_of}
use Rattle.std.proofs.Common.{take}
use Rattle.lc_history.proofs.Turns.{AreBusy, IsFront}
use Rattle.lc_history.proofs.history.first_out_of_turn.Given as goal

abbrev pub invariant-loop-place : goal.invariant-loop-place
invariant-loop-place l = record {
  in_turn : IsFront (events_of l.events) l.place;
  busy : AreBusy (take l.place (events_of l.events)) (in_call l.busy);
}
