use Rattle.std.proofs.Common.{inr, subst}
use Rattle.lc_sexp.specs.Answers.{IsTextFault}
use Rattle.lc_sexp.specs.Reads.{IsFirstFault}
use Rattle.lc_cond_text.proofs.Laid.{laid_forms, no_forms}
use Rattle.lc_sexp.specs.Shown.{rest_of}
use Rattle.lc_cond_text.proofs.shown.laid_line.Goals as goal

pub returns-in-Ok : goal.returns-in-Ok
returns-in-Ok c =
    laid_forms c.args.line.items c.deref.result.now c.in-Ok.forms (rest_of c.cursor.result) c.lay_out.result c.in-Ok.ensures.answer c.deref.ensures.value c.cursor.ensures.rest c.lay_out.ensures

pub returns-in_ok-push-in-Err-Refused : goal.returns-in_ok-push-in-Err-Refused
returns-in_ok-push-in-Err-Refused c =
    let fault = subst (λ f. IsTextFault f (IsFirstFault c.deref.result.now)) c.in-Err-Refused.field-0-is c.in-Err-Refused.ensures.answer in
    inr (no_forms c.args.line.items c.deref.result.now c.in-Err-Refused.field-0-0 fault c.deref.ensures.value, c.in_ok-push-in-Err-Refused.ensures.items)
