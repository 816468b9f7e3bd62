use Rattle.std.proofs.Common.{◌+◌}
use Rattle.std.specs.Prelude.{All}
use Rattle.lc_crew.specs.Members.{HasMadeAll}
use Rattle.lc_crew.specs.Phases.{phases_to}
use Rattle.lc_crew.specs.Turns.{IsOnWay}
use Rattle.lc_crew.proofs.drawn.play_drawn.Given as goal

-- who goes on is on its way, and who has ended has made all
abbrev pub invariant-loop-turn : goal.invariant-loop-turn
invariant-loop-turn g l = record {
  going : All (IsOnWay (phases_to l.plan (l.number + 1))) l.going.items;
  ended : All (HasMadeAll (phases_to l.plan (l.number + 1))) l.ended.items;
}
