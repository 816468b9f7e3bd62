use Rattle.std.proofs.Common.{Result, subst}
use Rattle.lc_outline.specs.DevelopmentView.{development_view}
use Rattle.lc_outline.specs.declared.development.Development.{Development}
use Rattle.lc_outline_print.specs.Developments.{development_printed}
use Rattle.lincheck.specs.Check.{OpensAs}
use Rattle.lincheck.specs.Reading.{OfFile}
use Rattle.lincheck.specs.declared.answer.Answer.{Answer}
use Rattle.lincheck.proofs.Opened.{text_answers_development, told_refused}
use Rattle.lincheck.proofs.show.answer_printed.Goals as goal

pub returns-in_ok-development_text-in-Ok-clause-answers : goal.returns-in_ok-development_text-in-Ok-clause-answers
returns-in_ok-development_text-in-Ok-clause-answers g c =
    let known = g.F.Files.bytes_at c.args.files.now c.args.path.now in
    let says = subst (λ (o : Result Development Answer). OfFile known (λ file. OpensAs file o)) c.in-Ok.is c.in_ok-development.ensures.opens in
    text_answers_development development_printed known (development_view c.in-Ok.development) c.in_ok-development_text-in-Ok.field-0.items says c.in_ok-development_text-in-Ok.ensures

pub returns-in-Err-clause-answers : goal.returns-in-Err-clause-answers
returns-in-Err-clause-answers g c =
    let known = g.F.Files.bytes_at c.args.files.now c.args.path.now in
    let tells = subst (λ (o : Result Development Answer). OfFile known (λ file. OpensAs file o)) c.in-Err.is c.in_ok-development.ensures.opens in
    told_refused development_printed known c.in-Err.answer.text.items c.in-Err.answer.status tells
