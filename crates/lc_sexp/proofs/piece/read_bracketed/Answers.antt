use Rattle.std.proofs.Common.{None, refl, subst}
use Rattle.lc_sexp.specs.Answers.{IsTextFault, IsAnswerTo}
use Rattle.lc_sexp.specs.CutFiles.{bracketed}
use Rattle.lc_sexp.specs.Reads.{IsFirstFault}
use Rattle.lc_sexp.proofs.FedForms.{forms_answer}
use Rattle.lc_sexp.proofs.Pieced.{no_piece}
use Rattle.lc_sexp.proofs.piece.read_bracketed.Goals as goal

pub returns-in-Ok : goal.returns-in-Ok
returns-in-Ok c =
    let text = c.args.text.now in
    let went = c.in_ok-push_bracketed.ensures.went c.if-not-branch.false in
    let answer = forms_answer (bracketed text) c.push_bracketed.new.machine None c.finish.result refl went.1 c.finish.ensures.told c.finish.ensures.sound c.finish.ensures.err in
    (went.0, subst (IsAnswerTo (bracketed text)) c.in-Ok.is answer)

pub returns-in-Err-Refused : goal.returns-in-Err-Refused
returns-in-Err-Refused c =
    let text = c.args.text.now in
    let went = c.in_ok-push_bracketed.ensures.went c.if-not-branch.false in
    let answer = forms_answer (bracketed text) c.push_bracketed.new.machine None c.finish.result refl went.1 c.finish.ensures.told c.finish.ensures.sound c.finish.ensures.err in
    no_piece text c.in-Err-Refused.field-0-0
    (subst (λ f. IsTextFault f (IsFirstFault (bracketed text))) c.in-Err-Refused.field-0-is (subst (IsAnswerTo (bracketed text)) c.in-Err-Refused.is answer))
