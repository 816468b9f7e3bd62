use Rattle.std.proofs.Common.{◌+◌}
use Rattle.std.specs.Prelude.{All}
use Rattle.lc_crew.specs.Members.{HasMadeAll}
use Rattle.lc_crew.specs.Phases.{phases_to}
use Rattle.lc_crew.proofs.phase.cast_of.Given as goal

-- who plays, and each remaining client, has made its calls of the earlier phases; who rests has made those of this phase too
abbrev pub invariant-loop-member : goal.invariant-loop-member
invariant-loop-member g l = record {
  playing : All (HasMadeAll (phases_to l.plan l.number)) l.playing.items;
  resting : All (HasMadeAll (phases_to l.plan (l.number + 1))) l.resting.items;
  left : All (HasMadeAll (phases_to l.plan l.number)) l.member-iterator.rest.items;
}
