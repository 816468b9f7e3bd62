use Rattle.std.proofs.Common.{Result, sym, subst}
use Rattle.std.specs.Borrow.{Bor}
use Rattle.std.specs.Prelude.{Option, List, ℕ}
use Rattle.lc_carry.specs.Carried.{carried}
use Rattle.lc_cert.specs.CertificateView.{entries_in}
use Rattle.lc_check.specs.VerdictView.{development_in}
use Rattle.lc_hints.specs.HintView.{proofs_in}
use Rattle.lc_hints.specs.declared.hints.Hints.{Hints}
use Rattle.lc_outline.specs.DevelopmentView.{development_view}
use Rattle.lincheck.proofs.Carrying.{alone_answered, hints_answered, hints_told}
use Rattle.lincheck.specs.Carry.{AnswersWith, hints_at}
use Rattle.lc_words.specs.Tasks.{path_in}
use Rattle.lincheck.specs.Prove.{OpensHints}
use Rattle.lincheck.specs.Reading.{OfFile}
use Rattle.lincheck.specs.declared.answer.Answer.{Answer}
use Rattle.lincheck.proofs.carry.answer_development.Goals as goal

pub returns-in_ok-answer_carried-in-None-clause-answers : goal.returns-in_ok-answer_carried-in-None-clause-answers
returns-in_ok-answer_carried-in-None-clause-answers g c =
    let E = development_view c.args.development.now in
    let old = c.args.old.now in
    let given = carried (development_in old.accepted) (entries_in old.certificate) E in
    let answer = c.in_ok-answer_carried-in-None.field-0 in
    subst (λ (o : Option (Bor (List ℕ))). AnswersWith (hints_at (g.F.Files.bytes_at c.args.files.now) (path_in o)) E given answer.text.items answer.status) (sym c.in-None.is)
    (alone_answered E given (proofs_in c.new-none.result) answer.text.items answer.status c.new-none.ensures.proofs c.in_ok-answer_carried-in-None.ensures)

pub returns-in_ok-answer_carried-in-Ok-clause-answers : goal.returns-in_ok-answer_carried-in-Ok-clause-answers
returns-in_ok-answer_carried-in-Ok-clause-answers g c =
    let E = development_view c.args.development.now in
    let old = c.args.old.now in
    let given = carried (development_in old.accepted) (entries_in old.certificate) E in
    let answer = c.in_ok-answer_carried-in-Ok.field-0 in
    let known = g.F.Files.bytes_at c.args.files.now c.in-Some.path.now in
    let opens = subst (λ (o : Result Hints Answer). OfFile known (λ file. OpensHints E file o)) c.in-Ok.is c.in_ok-hints-in-Some.ensures.opens in
    subst (λ (o : Option (Bor (List ℕ))). AnswersWith (hints_at (g.F.Files.bytes_at c.args.files.now) (path_in o)) E given answer.text.items answer.status) (sym c.in-Some.is)
    (hints_answered E given known c.in-Ok.hints answer.text.items answer.status opens c.in_ok-answer_carried-in-Ok.ensures)

pub returns-in-Err-clause-answers : goal.returns-in-Err-clause-answers
returns-in-Err-clause-answers g c =
    let E = development_view c.args.development.now in
    let old = c.args.old.now in
    let given = carried (development_in old.accepted) (entries_in old.certificate) E in
    let answer = c.in-Err.answer in
    let known = g.F.Files.bytes_at c.args.files.now c.in-Some.path.now in
    let tells = subst (λ (o : Result Hints Answer). OfFile known (λ file. OpensHints E file o)) c.in-Err.is c.in_ok-hints-in-Some.ensures.opens in
    subst (λ (o : Option (Bor (List ℕ))). AnswersWith (hints_at (g.F.Files.bytes_at c.args.files.now) (path_in o)) E given answer.text.items answer.status) (sym c.in-Some.is)
    (hints_told E given known answer tells)
