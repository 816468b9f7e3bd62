use Rattle.std.proofs.Common.{ap, ◌∙◌, subst}
use Rattle.lc_sexp.specs.Printed.{printed}
use Rattle.lc_sexp.specs.Trees.{Trees}
use Rattle.lc_reading.specs.Files.{Says}
use Rattle.lc_outline.specs.DevelopmentView.{development_view}
use Rattle.lc_outline_text.specs.Developments.{file_reading}
use Rattle.lc_fill.specs.Filled.{Filled}
use Rattle.lc_fill.specs.PlanView.{plan_view}
use Rattle.lc_short.proofs.Shortened.{not_completed}
use Rattle.lc_short.proofs.completing.completed.Goals as goal

pub returns-in-Ok : goal.returns-in-Ok
returns-in-Ok c = λ bytes reads.
    let text = c.in_ok-text.ensures ∙ ap (λ (f : Filled Trees). printed f.whole) c.in_ok-filling.ensures in
    record {
      trees = c.args.forms.now;
      plan = plan_view c.args.plan.now;
      read = reads;
      text_is = text;
      says = subst (λ s. Says file_reading s (development_view c.in-Ok.development)) c.deref.ensures.value c.in-Ok.ensures;
    }

pub returns : goal.returns
returns c = λ bytes reads.
    let text = c.deref.ensures.value ∙ c.in_ok-text.ensures ∙ ap (λ (f : Filled Trees). printed f.whole) c.in_ok-filling.ensures in
    not_completed bytes (plan_view c.args.plan.now) c.args.forms.now c.deref.result.now c.in-Err.fault text c.in-Err.ensures
