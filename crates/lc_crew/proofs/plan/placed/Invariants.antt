use Rattle.std.specs.Prelude.{All}
use Rattle.lc_plan.specs.View.{plan_of}
use Rattle.lc_crew.specs.Members.{HasMadeAll, HasMadeAllIf}
use Rattle.lc_crew.proofs.plan.placed.Given as goal

-- nobody is at a place yet
abbrev pub invariant-loop-client : goal.invariant-loop-client
invariant-loop-client g l = All (HasMadeAllIf (plan_of l.plan).phases) l.places.items

-- who is at a place has made its calls, and who is left too
abbrev pub invariant-loop-member : goal.invariant-loop-member
invariant-loop-member g l = record { made : All (HasMadeAllIf (plan_of l.plan).phases) l.places.items; left : All (HasMadeAll (plan_of l.plan).phases) l.member-iterator.rest.items }
