use Rattle.std.specs.Prelude.{All}
use Rattle.lc_crew.specs.Members.{HasMadeAll}
use Rattle.lc_crew.specs.Phases.{phases_to}
use Rattle.lc_crew.proofs.plan.run_drawn_with.Given as goal

-- all clients have made their calls of the first phases
abbrev pub invariant-loop-number : goal.invariant-loop-number
invariant-loop-number g l = All (HasMadeAll (phases_to l.plan l.number)) l.crew.items
