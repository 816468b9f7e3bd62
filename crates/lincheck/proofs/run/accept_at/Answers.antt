use Rattle.std.proofs.Common.{[], subst}
use Rattle.lc_check.specs.VerdictView.{IsVerdictOn}
use Rattle.lc_outline.specs.DevelopmentView.{development_view}
use Rattle.lincheck.proofs.Running.{accepted_opened, certificate_told}
use Rattle.lincheck.proofs.run.accept_at.Goals as goal

pub returns-in-Accepted-clause-opens : goal.returns-in-Accepted-clause-opens
returns-in-Accepted-clause-opens g c =
    let D = development_view c.args.development in
    let fed = c.in_ok-feed_file.ensures.fed in
    accepted_opened D (g.F.Files.bytes_at c.args.files.now c.args.path.now) fed.0 c.in-Accepted.accepted fed.2
    (subst (IsVerdictOn D fed.0) c.in-Accepted.is (c.in_ok-verdict.ensures.exactly D fed.0 (fed.1 D [] c.in_ok-session.ensures.start)))

pub returns-in_ok-told_fault-in-Refused-clause-opens : goal.returns-in_ok-told_fault-in-Refused-clause-opens
returns-in_ok-told_fault-in-Refused-clause-opens g c =
    let D = development_view c.args.development in
    let fed = c.in_ok-feed_file.ensures.fed in
    let answer = c.in_ok-told_fault-in-Refused.field-0 in
    certificate_told D (g.F.Files.bytes_at c.args.files.now c.args.path.now) fed.0 c.in-Refused.refusal answer.text.items answer.status fed.2
    (subst (IsVerdictOn D fed.0) c.in-Refused.is (c.in_ok-verdict.ensures.exactly D fed.0 (fed.1 D [] c.in_ok-session.ensures.start)))
    c.in_ok-told_fault-in-Refused.ensures
