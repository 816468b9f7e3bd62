use Rattle.std.specs.Prelude.{All}
use Rattle.lc_crew.specs.Members.{HasMadeAll}
use Rattle.lc_crew.specs.Phases.{phases_to, IsToMake}
use Rattle.lc_crew.proofs.phase.joined.Given as goal

-- these clients have made their calls, and the remaining threads promise it
abbrev pub invariant-loop-thread : goal.invariant-loop-thread
invariant-loop-thread g l = record {
  made : All (HasMadeAll (phases_to l._plan l._phases)) l.after.items;
  left : All (IsToMake l._plan l._phases) l.thread-iterator.rest.items;
}
