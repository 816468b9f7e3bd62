use Rattle.std.proofs.Common.{Err, inr, subst}
use Rattle.std.proofs.lemmas.Result.{IfOk-weaker}
use Rattle.lc_find.specs.declared.fault.FindFault.{FindFault}
use Rattle.lc_find.specs.declared.fault.FindFault.TheVariants.{Budget}
use Rattle.lc_lib.specs.Certified.{IsCertificateAnswer}
use Rattle.lincheck.proofs.library.answer_certificate.Goals as goal

pub returns-in-Err-Budget : goal.returns-in-Err-Budget
returns-in-Err-Budget c =
    let exactly = subst (λ (f : FindFault). IsCertificateAnswer c.args.lib (Err f)) c.in-Err-Budget.field-0-is c.in-Err-Budget.ensures.exactly in
    IfOk-weaker c.told_unfound-in-Err-Budget.result _ _ (λ answer told. inr (Budget c.in-Err-Budget.number, exactly, told)) c.told_unfound-in-Err-Budget.ensures
