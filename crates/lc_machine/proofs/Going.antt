-- A run goes on.
use Rattle.std.proofs.Common.{List, [], ◌∷◌, ◌++◌, refl, subst}
use Rattle.lc_object.specs.Syntax.{Object}
use Rattle.lc_machine.specs.World.{World}
use Rattle.lc_machine.specs.Step.{Steps}
use Rattle.lc_machine.specs.Runs.{BareLabel, BareRuns}

pub goes_on : (object : Object) (start world next : World) (labels : List BareLabel) (label : BareLabel) →
    BareRuns object start labels world → Steps object world label.client label.what next → BareRuns object start (labels ++ label ∷ []) next
goes_on object start world next [] label is step = (next, subst (λ w. Steps object w label.client label.what next) is step, refl)
goes_on object start world next (l ∷ labels) label runs step = (runs.0, runs.1, goes_on object runs.0 world next labels label runs.2 step)
