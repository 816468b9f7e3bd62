use Rattle.std.proofs.Common.{◌+◌}
use Rattle.std.specs.Prelude.{All}
use Rattle.lc_crew.specs.Members.{HasMadeAll}
use Rattle.lc_crew.specs.Phases.{phases_to}
use Rattle.lc_crew.specs.Turns.{IsOnWay}
use Rattle.lc_crew.proofs.drawn.players_of.Given as goal

-- who goes on is on its way, and who has ended has made all; who is left has made all before
abbrev pub invariant-loop-member : goal.invariant-loop-member
invariant-loop-member g l = record {
  going : All (IsOnWay (phases_to l.plan (l.number + 1))) l.going.items;
  ended : All (HasMadeAll (phases_to l.plan (l.number + 1))) l.ended.items;
  left : All (HasMadeAll (phases_to l.plan l.number)) l.member-iterator.rest.items;
}
