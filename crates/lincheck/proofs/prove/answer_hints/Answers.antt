use Rattle.std.proofs.Common.{Result, IfOk, subst}
use Rattle.lc_cert.specs.Printed.{EntryReadsBack}
use Rattle.lc_hints.specs.HintView.{proofs_in}
use Rattle.lc_hints.specs.declared.hints.Hints.{Hints}
use Rattle.lc_outline.specs.DevelopmentView.{development_view}
use Rattle.lc_term.specs.Lists.{Every}
use Rattle.lincheck.specs.Prove.{OpensHints}
use Rattle.lincheck.specs.Reading.{OfFile}
use Rattle.lincheck.specs.declared.answer.Answer.{Answer}
use Rattle.lincheck.proofs.Proving.{hints_answered, hints_told}
use Rattle.lincheck.proofs.prove.answer_hints.Goals as goal

pub answer_found-requires : goal.answer_found-requires
answer_found-requires g c =
    subst (λ (o : Result Hints Answer). IfOk o (λ hints. Every (EntryReadsBack (development_view c.args.development.now)) (proofs_in hints))) c.in-Ok.is c.in_ok-hints.ensures.back

pub returns-in_ok-answer_found-in-Ok-clause-answers : goal.returns-in_ok-answer_found-in-Ok-clause-answers
returns-in_ok-answer_found-in-Ok-clause-answers g c =
    let D = development_view c.args.development.now in
    let known = g.F.Files.bytes_at c.args.files.now c.args.path.now in
    let opens = subst (λ (o : Result Hints Answer). OfFile known (λ file. OpensHints D file o)) c.in-Ok.is c.in_ok-hints.ensures.opens in
    let answer = c.in_ok-answer_found-in-Ok.field-0 in
    hints_answered D known c.in-Ok.hints answer.text.items answer.status opens c.in_ok-answer_found-in-Ok.ensures

pub returns-in-Err-clause-answers : goal.returns-in-Err-clause-answers
returns-in-Err-clause-answers g c =
    let D = development_view c.args.development.now in
    let known = g.F.Files.bytes_at c.args.files.now c.args.path.now in
    let tells = subst (λ (o : Result Hints Answer). OfFile known (λ file. OpensHints D file o)) c.in-Err.is c.in_ok-hints.ensures.opens in
    hints_told D known c.in-Err.answer tells
