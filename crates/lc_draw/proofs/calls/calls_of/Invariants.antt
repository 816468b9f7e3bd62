use Rattle.std.proofs.Common.{take, vec_len}
use Rattle.lc_history.specs.View.{events_of}
use Rattle.lc_draw.specs.Counting.{IsUpTo}
use Rattle.lc_draw.proofs.calls.calls_of.Given as goal

-- the calls are those of the events so far
abbrev pub invariant-loop-event : goal.invariant-loop-event
invariant-loop-event l = IsUpTo (events_of (take l.event-index l.events)) (vec_len l.calls.calls) l.calls.turns.entries l.calls.numbers.entries
