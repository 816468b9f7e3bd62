use Rattle.std.proofs.Common.{Option, Vec, ℕ, subst}
use Rattle.std.specs.declared.alloc.Global.{Global}
use Rattle.lc_outline.specs.DevelopmentView.{development_view}
use Rattle.lc_cond_text.specs.Shown.{IsLaid, line_at}
use Rattle.lincheck.proofs.OneCondition.{laid_told, unlaid_answered}
use Rattle.lincheck.proofs.condition.tell_condition.Goals as goal

pub returns-in-Some : goal.returns-in-Some
returns-in-Some c =
    let line = line_at (development_view c.args.development.now) c.args.number in
    laid_told c.args.number line c.in-Some.text (subst (λ (o : Option (Vec ℕ Global)). IsLaid line o) c.in-Some.is c.in_ok-text.ensures)

pub returns-in-None : goal.returns-in-None
returns-in-None c =
    let line = line_at (development_view c.args.development.now) c.args.number in
    unlaid_answered c.args.number line c.told_fault.result (subst (λ (o : Option (Vec ℕ Global)). IsLaid line o) c.in-None.is c.in_ok-text.ensures) c.told_fault.ensures
