use Rattle.std.proofs.Common.{Result, subst}
use Rattle.lc_outline.specs.DevelopmentView.{development_view}
use Rattle.lc_outline.specs.declared.development.Development.{Development}
use Rattle.lincheck.specs.Check.{OpensAs}
use Rattle.lincheck.specs.Reading.{OfFile}
use Rattle.lincheck.specs.declared.answer.Answer.{Answer}
use Rattle.lincheck.proofs.OneCondition.{condition_answered, condition_refused}
use Rattle.lincheck.proofs.condition.answer_condition.Goals as goal

pub returns-in_ok-tell_condition-in-Ok-clause-answers : goal.returns-in_ok-tell_condition-in-Ok-clause-answers
returns-in_ok-tell_condition-in-Ok-clause-answers g c =
    let known = g.F.Files.bytes_at c.args.files.now c.args.path.now in
    let answer = c.in_ok-tell_condition-in-Ok.field-0 in
    let says = subst (λ (o : Result Development Answer). OfFile known (λ file. OpensAs file o)) c.in-Ok.is c.in_ok-development.ensures.opens in
    condition_answered c.args.number known (development_view c.in-Ok.development) answer.text.items answer.status says c.in_ok-tell_condition-in-Ok.ensures

pub returns-in-Err-clause-answers : goal.returns-in-Err-clause-answers
returns-in-Err-clause-answers g c =
    let known = g.F.Files.bytes_at c.args.files.now c.args.path.now in
    let tells = subst (λ (o : Result Development Answer). OfFile known (λ file. OpensAs file o)) c.in-Err.is c.in_ok-development.ensures.opens in
    condition_refused c.args.number known c.in-Err.answer.text.items c.in-Err.answer.status tells
