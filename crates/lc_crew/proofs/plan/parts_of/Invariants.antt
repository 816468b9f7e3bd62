use Rattle.std.specs.Prelude.{All}
use Rattle.lc_plan.specs.View.{plan_of}
use Rattle.lc_crew.specs.Members.{AreEndsOf, HasMadeAllIf}
use Rattle.lc_crew.specs.Ran.{AreNumberedFrom}
use Rattle.lc_crew.proofs.plan.parts_of.Given as goal

-- each seat has its client's end, by their numbers, and each remaining client has made its calls
abbrev pub invariant-loop-member : goal.invariant-loop-member
invariant-loop-member g l = record {
  ends : AreEndsOf (plan_of l.plan).phases l.seats.items l.ends.items;
  numbered : AreNumberedFrom 0 l.ends.items;
  left : All (HasMadeAllIf (plan_of l.plan).phases) l.member-iterator.rest.items;
}
