use Rattle.std.proofs.Common.{sym, subst}
use Rattle.lc_kernel.specs.Answers.{StepMeets}
use Rattle.lc_kernel.specs.View.{step_of}
use Rattle.lc_kernel.proofs.check.take_step.Goals as goal

pub returns-in-Open-clause-step : goal.returns-in-Open-clause-step
returns-in-Open-clause-step c =
    let ts = c.args.terms.now in subst (λ s. StepMeets ts ts c.args.setting (step_of s) c.left_open.result) (sym c.in-Open.is) (c.left_open.ensures ts)
