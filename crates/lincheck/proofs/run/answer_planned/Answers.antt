use Rattle.std.proofs.Common.{Result, Ok, Err, subst}
use Rattle.lc_check.specs.VerdictView.{development_in}
use Rattle.lc_outline.specs.Development as S
use Rattle.lc_outline.specs.DevelopmentView.{development_view}
use Rattle.lc_plan.specs.declared.plan.Plan.{Plan}
use Rattle.lincheck.specs.Reading.{OfFile}
use Rattle.lincheck.specs.Run.{OpensPlan}
use Rattle.lincheck.specs.declared.answer.Answer.{Answer}
use Rattle.lincheck.proofs.Running.{planned_answered, planned_refused}
use Rattle.lincheck.proofs.run.answer_planned.Goals as goal

pub returns-in-Ok-clause-answers : goal.returns-in-Ok-clause-answers
returns-in-Ok-clause-answers g c =
    let D = development_in c.args.accepted in
    let known = g.F.Files.bytes_at c.args.files.now c.args.path.now in
    let answer = c.in_ok-answer_ran-in-Ok.field-0 in
    let opens = subst (λ (o : Result Plan Answer). OfFile known (λ file. OpensPlan (development_view c.development.result.now) file o)) c.in-Ok.is c.in_ok-plan.ensures.opens in
    planned_answered c.args.turns D known c.in-Ok.plan answer.text.items answer.status
    (subst (λ (E : S.Development). OfFile known (λ file. OpensPlan E file (Ok c.in-Ok.plan))) c.development.ensures.shown opens) c.in_ok-answer_ran-in-Ok.ensures

pub returns-clause-answers : goal.returns-clause-answers
returns-clause-answers g c =
    let D = development_in c.args.accepted in
    let known = g.F.Files.bytes_at c.args.files.now c.args.path.now in
    let tells = subst (λ (o : Result Plan Answer). OfFile known (λ file. OpensPlan (development_view c.development.result.now) file o)) c.in-Err.is c.in_ok-plan.ensures.opens in
    planned_refused c.args.turns D known c.in-Err.answer (subst (λ (E : S.Development). OfFile known (λ file. OpensPlan E file (Err c.in-Err.answer))) c.development.ensures.shown tells)
