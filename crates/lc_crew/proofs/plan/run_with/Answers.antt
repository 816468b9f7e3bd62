use Rattle.std.proofs.Common.{subst, arith}
use Rattle.std.specs.Prelude.{All}
use Rattle.lc_crew.specs.Members.{HasMadeAll}
use Rattle.lc_crew.proofs.Ends.{all-phases}
use Rattle.lc_crew.proofs.plan.run_with.Goals as goal

pub finished-requires-clause-made : goal.finished-requires-clause-made
finished-requires-clause-made g c =
    subst (λ ps. All (HasMadeAll ps) c.loop-number.crew.items) (all-phases c.args.plan.now c.loop-number.number (omega (arith, c.loop-number-test.false, c.len-number-end.ensures, c.args.plan.now.phases.ok.0))) c.loop-number.invariant
