use Rattle.std.proofs.Common.{◌∙◌, inr, refl, subst}
use Rattle.lc_short.specs.Shorts.{SaysShort}
use Rattle.lc_short.specs.ShortView.{short_view}
use Rattle.lincheck.proofs.Beginnings.{begun_refused}
use Rattle.lincheck.proofs.new.answer_new.Goals as goal

pub returns-in-Ok : goal.returns-in-Ok
returns-in-Ok c =
    let S = short_view c.in-Ok.field-0 in
    inr (S, subst (λ t. SaysShort t S) c.deref.ensures.value c.in-Ok.ensures, c.in_ok-text.ensures, refl)

pub returns-in-Err : goal.returns-in-Err
returns-in-Err c =
    begun_refused c.args.name.now c.deref.result.now c.in-Err.fault c.told_fault.result (c.deref.ensures.value ∙ c.in_ok-text.ensures) c.in-Err.ensures c.told_fault.ensures
