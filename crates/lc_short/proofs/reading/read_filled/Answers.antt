use Rattle.std.proofs.Common.{◌≡◌, ap, ◌∙◌, subst}
use Rattle.lc_sexp.specs.Printed.{printed}
use Rattle.lc_sexp.specs.Trees.{Trees}
use Rattle.lc_fill.specs.Filled.{Filled}
use Rattle.lc_reading.specs.Files.{Says, IsFirstRefusal}
use Rattle.lc_outline.specs.DevelopmentView.{development_view}
use Rattle.lc_outline_text.specs.Developments.{file_reading}
use Rattle.lc_fill.specs.Files.{file_filled}
use Rattle.lc_fill.specs.FillingView.{filling_view}
use Rattle.lc_fill.specs.Plan.{no_plan}
use Rattle.lc_short.specs.Shorts.{at_meant}
use Rattle.lc_short.proofs.reading.read_filled.Goals as goal

pub returns : goal.returns
returns c =
    let ts = c.args.forms.now in
    let filled = c.in_ok-filling.ensures ∙ ap (λ p. file_filled p ts) c.in_ok-plan.ensures in
    let text = c.deref.ensures.value ∙ c.in_ok-text.ensures ∙ ap (λ (f : Filled Trees). printed f.whole) filled in
    (subst (λ s. Says file_reading s (development_view c.in-Ok.whole)) text c.in-Ok.ensures, c.in_ok-lacking.ensures.items ∙ c.lacking.ensures ∙ ap (λ (f : Filled Trees). f.lacking) filled)

pub returns-in-Err-Refused : goal.returns-in-Err-Refused
returns-in-Err-Refused c =
    let ts = c.args.forms.now in
    let filled = c.in_ok-filling.ensures ∙ ap (λ p. file_filled p ts) c.in_ok-plan.ensures in
    let text = c.deref.ensures.value ∙ c.in_ok-text.ensures ∙ ap (λ (f : Filled Trees). printed f.whole) filled in
    let refusal = c.in-Err-Refused.refusal in
    let meant = rw c.in-Err-Refused.field-0-is at c.meant_in.ensures in
    (refusal, subst (λ s. IsFirstRefusal file_reading s refusal) text (rw c.in-Err-Refused.field-0-is at c.in-Err-Refused.ensures), meant ∙ ap (λ (f : Filled Trees). at_meant f.gaps refusal) filled)
