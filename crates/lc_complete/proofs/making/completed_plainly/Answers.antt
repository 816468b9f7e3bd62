use Rattle.std.proofs.Common.{subst}
use Rattle.lc_fill.specs.Plan.{Plan}
use Rattle.lc_short.specs.Completing.{IsCompleted}
use Rattle.lc_complete.proofs.making.completed_plainly.Goals as goal

pub returns : goal.returns
returns c = λ bytes reads.
    subst (λ (p : Plan). IsCompleted bytes p c.args.forms.now c.completed.result) c.in_ok-plan.ensures (c.completed.ensures bytes reads)
