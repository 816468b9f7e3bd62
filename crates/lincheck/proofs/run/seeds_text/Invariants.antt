use Rattle.std.proofs.Common.{◌-◌, ◌≤◌}
use Rattle.std.specs.Arc.{arc_value}
use Rattle.lc_check.specs.VerdictView.{development_in}
use Rattle.lc_plan.specs.View.{plan_of}
use Rattle.lincheck.specs.Run.{TellsSeeds}
use Rattle.lincheck.proofs.run.seeds_text.Given as goal

-- the lines of the seeds so far
abbrev pub invariant-loop-seed : goal.invariant-loop-seed
invariant-loop-seed g l = record {
  from : l.first ≤ l.seed;
  within : l.seed - l.first ≤ l.end - l.first;
  tells : TellsSeeds (development_in (arc_value l.accepted)) (plan_of l.plan) (l.seed - l.first) l.first l.text.items;
}
