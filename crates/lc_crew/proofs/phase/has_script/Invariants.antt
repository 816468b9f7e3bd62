use Rattle.std.proofs.Common.{◌≡◌, drop, map}
use Rattle.lc_plan.specs.View.{script_of}
use Rattle.lc_crew.specs.Phases.{has_script}
use Rattle.lc_crew.proofs.phase.has_script.Given as goal

-- the remaining scripts decide
abbrev pub invariant-loop-script : goal.invariant-loop-script
invariant-loop-script l = has_script l.client (map script_of (drop l.script-index l.phase)) ≡ has_script l.client (map script_of l.fn.phase)
