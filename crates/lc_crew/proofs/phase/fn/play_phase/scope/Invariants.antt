use Rattle.std.proofs.Common.{◌+◌}
use Rattle.std.specs.Prelude.{All}
use Rattle.lc_crew.specs.Members.{HasMadeAll}
use Rattle.lc_crew.specs.Phases.{phases_to, IsToMake}
use Rattle.lc_crew.proofs.phase.fn.play_phase.scope.Given as goal

-- each thread promises what its client makes, and each remaining client has made its calls of the earlier phases
abbrev pub invariant-loop-member : goal.invariant-loop-member
invariant-loop-member g l = record {
  threads : All (IsToMake l.plan.now (l.number + 1)) l.threads.items;
  left : All (HasMadeAll (phases_to l.plan.now l.number)) l.member-iterator.rest.items;
}
