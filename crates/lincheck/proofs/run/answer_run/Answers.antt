use Rattle.std.proofs.Common.{◌≡◌, true, false, Result, subst}
use Rattle.lc_outline.specs.DevelopmentView.{development_view}
use Rattle.lc_outline.specs.declared.development.Development.{Development}
use Rattle.lincheck.specs.Check.{OpensAs}
use Rattle.lincheck.specs.Reading.{OfFile}
use Rattle.lincheck.specs.declared.answer.Answer.{Answer}
use Rattle.lincheck.proofs.Running.{none_behind_refused, run_answered, run_refused, unread_behind_read}
use Rattle.lincheck.proofs.run.answer_run.Goals as goal

pub returns-in-Ok-clause-answers : goal.returns-in-Ok-clause-answers
returns-in-Ok-clause-answers g c =
    let before = g.F.Files.bytes_at c.args.files.now in
    let after = g.F.Files.bytes_at c.open_development.new.files in
    let known = before c.args.development.now in
    let says = subst (λ (o : Result Development Answer). OfFile known (λ file. OpensAs file o)) c.in-Ok.is c.in_ok-development.ensures.opens in
    run_answered c.args.turns known (before c.args.certificate.now) (after c.args.certificate.now) (before c.args.plan.now) (after c.args.plan.now) (development_view c.in-Ok.development) c.answer_proven.result says
    (c.in_ok-development.ensures.keeps c.args.certificate.now) (c.in_ok-development.ensures.keeps c.args.plan.now) c.answer_proven.ensures.answers

pub returns-in-Err-clause-answers : goal.returns-in-Err-clause-answers
returns-in-Err-clause-answers g c =
    let before = g.F.Files.bytes_at c.args.files.now in
    let known = before c.args.development.now in
    let tells = subst (λ (o : Result Development Answer). OfFile known (λ file. OpensAs file o)) c.in-Err.is c.in_ok-development.ensures.opens in
    run_refused c.args.turns known (before c.args.certificate.now) (before c.args.plan.now) c.in-Err.answer tells

pub returns-in-Ok-clause-unread : goal.returns-in-Ok-clause-unread
returns-in-Ok-clause-unread g c = λ unread.
    let before = g.F.Files.bytes_at c.args.files.now in
    let known = before c.args.development.now in
    let says = subst (λ (o : Result Development Answer). OfFile known (λ file. OpensAs file o)) c.in-Ok.is c.in_ok-development.ensures.opens in
    c.answer_proven.ensures.unread
    (unread_behind_read (g.F.Files.CannotOpen c.args.files.now) (g.F.Files.CannotOpen c.open_development.new.files) before (g.F.Files.bytes_at c.open_development.new.files) c.args.development.now c.args.certificate.now
    c.args.plan.now (development_view c.in-Ok.development) (λ closed. let no : false ≡ true = c.in_ok-development.ensures.unread closed in cc) says c.in_ok-development.ensures.keeps
    c.in_ok-development.ensures.closed unread)

pub returns-in-Err-clause-unread : goal.returns-in-Err-clause-unread
returns-in-Err-clause-unread g c = λ unread.
    let before = g.F.Files.bytes_at c.args.files.now in
    let known = before c.args.development.now in
    let tells = subst (λ (o : Result Development Answer). OfFile known (λ file. OpensAs file o)) c.in-Err.is c.in_ok-development.ensures.opens in
    absurd (none_behind_refused (g.F.Files.CannotOpen c.args.files.now) before c.args.development.now c.args.certificate.now c.args.plan.now c.in-Err.answer
    (λ closed. let no : false ≡ true = c.in_ok-development.ensures.unread closed in cc) tells unread)
