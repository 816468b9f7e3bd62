use Rattle.std.proofs.Common.{◌+◌, refl}
use Rattle.lc_cond.proofs.Counted.{variables_step}
use Rattle.lc_cond.proofs.variables.variables_from.Goals as goal

pub loop-place-preserved : goal.loop-place-preserved
loop-place-preserved c =
    let k = c.loop-place.place in
    variables_step c.args.first c.loop-place.terms.items c.push.new.self.items k (c.args.first + k) k refl refl c.in_ok-push.ensures.items c.loop-place.invariant
