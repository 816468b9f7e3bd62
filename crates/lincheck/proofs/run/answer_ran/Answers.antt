use Rattle.std.proofs.Common.{refl, subst, inl}
use Rattle.lc_check.specs.VerdictView.{development_in}
use Rattle.lc_check.specs.declared.verdict.Accepted.{Accepted}
use Rattle.lc_plan.specs.View.{plan_of}
use Rattle.lincheck.specs.Run.{TellsBy}
use Rattle.lincheck.proofs.run.answer_ran.Goals as goal

pub returns-in-Ok : goal.returns-in-Ok
returns-in-Ok g c =
    inl (subst (λ (a : Accepted). TellsBy c.args.turns (development_in a) (plan_of c.args.plan.now) c.in-Ok.text.items) c.in_ok-accepted.ensures.ok c.in-Ok.ensures, refl)
