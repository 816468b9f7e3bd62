use Rattle.std.proofs.Common.{◌≡◌, true, false, Result, subst}
use Rattle.lc_check.specs.declared.verdict.Accepted.{Accepted}
use Rattle.lc_outline.specs.DevelopmentView.{development_view}
use Rattle.lincheck.specs.Reading.{OfFile}
use Rattle.lincheck.specs.Run.{OpensAccepted}
use Rattle.lincheck.specs.declared.answer.Answer.{Answer}
use Rattle.lincheck.proofs.Running.{none_behind_unproven, proven_answered, proven_refused, unread_plan}
use Rattle.lincheck.proofs.run.answer_proven.Goals as goal

pub returns-in-Ok-clause-answers : goal.returns-in-Ok-clause-answers
returns-in-Ok-clause-answers g c =
    let D = development_view c.args.development in
    let known = g.F.Files.bytes_at c.args.files.now c.args.certificate.now in
    let opens = subst (λ (o : Result Accepted Answer). OfFile known (λ file. OpensAccepted D file o)) c.in-Ok.is c.in_ok-accepted.ensures.opens in
    proven_answered c.args.turns D known (g.F.Files.bytes_at c.args.files.now c.args.plan.now) (g.F.Files.bytes_at c.accept_at.new.files c.args.plan.now) c.in-Ok.accepted c.answer_planned.result opens
    (c.in_ok-accepted.ensures.keeps c.args.plan.now) c.answer_planned.ensures.answers

pub returns-in-Err-clause-answers : goal.returns-in-Err-clause-answers
returns-in-Err-clause-answers g c =
    let D = development_view c.args.development in
    let known = g.F.Files.bytes_at c.args.files.now c.args.certificate.now in
    let opens = subst (λ (o : Result Accepted Answer). OfFile known (λ file. OpensAccepted D file o)) c.in-Err.is c.in_ok-accepted.ensures.opens in
    proven_refused c.args.turns D known (g.F.Files.bytes_at c.args.files.now c.args.plan.now) c.in-Err.answer opens

pub returns-in-Ok-clause-unread : goal.returns-in-Ok-clause-unread
returns-in-Ok-clause-unread g c = λ unread.
    c.answer_planned.ensures.unread
    (unread_plan (g.F.Files.CannotOpen c.args.files.now) (g.F.Files.CannotOpen c.accept_at.new.files) (g.F.Files.bytes_at c.args.files.now) (development_view c.args.development) c.args.certificate.now c.args.plan.now
    (λ closed. let no : false ≡ true = c.in_ok-accepted.ensures.unread closed in cc) c.in_ok-accepted.ensures.closed unread)

pub returns-in-Err-clause-unread : goal.returns-in-Err-clause-unread
returns-in-Err-clause-unread g c = λ unread.
    let D = development_view c.args.development in
    let known = g.F.Files.bytes_at c.args.files.now c.args.certificate.now in
    let opens = subst (λ (o : Result Accepted Answer). OfFile known (λ file. OpensAccepted D file o)) c.in-Err.is c.in_ok-accepted.ensures.opens in
    absurd (none_behind_unproven (g.F.Files.CannotOpen c.args.files.now) (g.F.Files.bytes_at c.args.files.now) D c.args.certificate.now c.args.plan.now c.in-Err.answer
    (λ closed. let no : false ≡ true = c.in_ok-accepted.ensures.unread closed in cc) opens unread)
