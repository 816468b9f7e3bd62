use Rattle.std.proofs.Common.{◌≡◌, true, false, Result, subst}
use Rattle.lc_outline.specs.DevelopmentView.{development_view}
use Rattle.lc_outline.specs.declared.development.Development.{Development}
use Rattle.lincheck.specs.Check.{OpensAs}
use Rattle.lincheck.specs.Reading.{OfFile}
use Rattle.lincheck.specs.declared.answer.Answer.{Answer}
use Rattle.lincheck.proofs.Opened.{refused_opens}
use Rattle.lincheck.proofs.Proving.{hinted_answered, hinted_refused}
use Rattle.lincheck.proofs.prove.answer_hinted.Goals as goal

pub returns-in-Ok-clause-answers : goal.returns-in-Ok-clause-answers
returns-in-Ok-clause-answers g c =
    let known = g.F.Files.bytes_at c.args.files.now c.args.development.now in
    let says = subst (λ (o : Result Development Answer). OfFile known (λ file. OpensAs file o)) c.in-Ok.is c.in_ok-development.ensures.opens in
    hinted_answered known (g.F.Files.bytes_at c.args.files.now c.args.hints.now) (g.F.Files.bytes_at c.open_development.new.files c.args.hints.now)
    (development_view c.in-Ok.development) c.answer_hints-answered.result says (c.in_ok-development.ensures.keeps c.args.hints.now) c.answer_hints-answered.ensures.answers

pub returns-in-Err-clause-answers : goal.returns-in-Err-clause-answers
returns-in-Err-clause-answers g c =
    let known = g.F.Files.bytes_at c.args.files.now c.args.development.now in
    let tells = subst (λ (o : Result Development Answer). OfFile known (λ file. OpensAs file o)) c.in-Err.is c.in_ok-development.ensures.opens in
    hinted_refused known (g.F.Files.bytes_at c.args.files.now c.args.hints.now) c.in-Err.answer.text.items c.in-Err.answer.status tells

pub returns-in-Err-clause-unread : goal.returns-in-Err-clause-unread
returns-in-Err-clause-unread g c = λ unread.
    let known = g.F.Files.bytes_at c.args.files.now c.args.development.now in
    let tells = subst (λ (o : Result Development Answer). OfFile known (λ file. OpensAs file o)) c.in-Err.is c.in_ok-development.ensures.opens in
    absurd (refused_opens (g.F.Files.CannotOpen c.args.files.now) (g.F.Files.bytes_at c.args.files.now) c.args.development.now c.args.hints.now
    c.in-Err.answer.text.items c.in-Err.answer.status (λ closed. let no : false ≡ true = c.in_ok-development.ensures.unread closed in cc) tells unread)
