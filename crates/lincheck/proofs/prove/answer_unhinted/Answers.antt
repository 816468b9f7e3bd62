use Rattle.std.proofs.Common.{Result, subst, sym}
use Rattle.lc_cert.specs.Printed.{EntryReadsBack}
use Rattle.lc_hints.specs.HintView.{proofs_in}
use Rattle.lc_outline.specs.DevelopmentView.{development_view}
use Rattle.lc_outline.specs.declared.development.Development.{Development}
use Rattle.lc_term.specs.Lists.{Every}
use Rattle.lincheck.specs.Check.{OpensAs}
use Rattle.lincheck.specs.Reading.{OfFile}
use Rattle.lincheck.specs.declared.answer.Answer.{Answer}
use Rattle.lincheck.proofs.Proving.{proved_alone, prove_refused}
use Rattle.lincheck.proofs.prove.answer_unhinted.Goals as goal

pub answer_found-answered-requires : goal.answer_found-answered-requires
answer_found-answered-requires g c = subst (Every (EntryReadsBack (development_view c.in-Ok.development))) (sym c.new-hints.ensures.proofs) tt

pub returns-in_ok-answered-in-Ok-clause-answers : goal.returns-in_ok-answered-in-Ok-clause-answers
returns-in_ok-answered-in-Ok-clause-answers g c =
    let known = g.F.Files.bytes_at c.args.files.now c.args.path.now in
    let says = subst (λ (o : Result Development Answer). OfFile known (λ file. OpensAs file o)) c.in-Ok.is c.in_ok-development.ensures.opens in
    let answer = c.in_ok-answered-in-Ok.field-0 in
    proved_alone known (development_view c.in-Ok.development) (proofs_in c.new-hints.result) answer.text.items answer.status says c.new-hints.ensures.proofs c.in_ok-answered-in-Ok.ensures

pub returns-in-Err-clause-answers : goal.returns-in-Err-clause-answers
returns-in-Err-clause-answers g c =
    let known = g.F.Files.bytes_at c.args.files.now c.args.path.now in
    let tells = subst (λ (o : Result Development Answer). OfFile known (λ file. OpensAs file o)) c.in-Err.is c.in_ok-development.ensures.opens in
    prove_refused known c.in-Err.answer.text.items c.in-Err.answer.status tells
