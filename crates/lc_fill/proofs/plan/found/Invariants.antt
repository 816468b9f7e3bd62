use Rattle.std.proofs.Common.{◌≡◌, drop}
use Rattle.lc_fill.specs.PlanView.{found}
use Rattle.lc_fill.proofs.plan.found.Given as goal

abbrev pub invariant-loop-one : goal.invariant-loop-one
invariant-loop-one l = found (drop l.one-index l.planned) l.place ≡ found l.planned l.place
