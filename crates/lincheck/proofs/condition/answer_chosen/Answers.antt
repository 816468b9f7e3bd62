use Rattle.std.proofs.Common.{Result, subst}
use Rattle.lc_outline.specs.DevelopmentView.{development_view}
use Rattle.lc_outline.specs.declared.development.Development.{Development}
use Rattle.lc_words.specs.Tasks.{path_in}
use Rattle.lincheck.specs.Check.{OpensAs}
use Rattle.lincheck.specs.Reading.{OfFile}
use Rattle.lincheck.specs.declared.answer.Answer.{Answer}
use Rattle.lincheck.proofs.OneCondition.{chosen_told, chosen_refused}
use Rattle.lincheck.proofs.condition.answer_chosen.Goals as goal

pub returns-in_ok-tell_chosen-in-Ok-clause-answers : goal.returns-in_ok-tell_chosen-in-Ok-clause-answers
returns-in_ok-tell_chosen-in-Ok-clause-answers g c =
    let known = g.F.Files.bytes_at c.args.files.now c.args.path.now in
    let answer = c.in_ok-tell_chosen-in-Ok.field-0 in
    let says = subst (λ (o : Result Development Answer). OfFile known (λ file. OpensAs file o)) c.in-Ok.is c.in_ok-development.ensures.opens in
    chosen_told (path_in c.args.point) (path_in c.args.kind) known (development_view c.in-Ok.development) answer.text.items answer.status says c.in_ok-tell_chosen-in-Ok.ensures

pub returns-in-Err-clause-answers : goal.returns-in-Err-clause-answers
returns-in-Err-clause-answers g c =
    let known = g.F.Files.bytes_at c.args.files.now c.args.path.now in
    let tells = subst (λ (o : Result Development Answer). OfFile known (λ file. OpensAs file o)) c.in-Err.is c.in_ok-development.ensures.opens in
    chosen_refused (path_in c.args.point) (path_in c.args.kind) known c.in-Err.answer.text.items c.in-Err.answer.status tells
