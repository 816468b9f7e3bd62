use Rattle.std.proofs.Common.{[], sym, subst}
use Rattle.lc_check.specs.VerdictView.{IsFinishedOn}
use Rattle.lc_check.specs.Verdicts.{IsProvenBy}
use Rattle.lc_outline.specs.DevelopmentView.{development_view}
use Rattle.lincheck.proofs.Carrying.{opens_accepted}
use Rattle.lincheck.proofs.carry.accept_certificate.Goals as goal

pub old_of-requires : goal.old_of-requires
old_of-requires g c =
    let D = development_view c.args.development in
    let cert = c.args.cert.now in
    let is = subst (IsFinishedOn D cert) c.in-Accepted.is (c.in_ok-finished.ensures.exactly D cert (c.in_ok-feed_by.ensures.fed D [] c.in_ok-session.ensures.start)) in
    subst (λ d. IsProvenBy d cert) (sym is.0) is.1

pub returns-in-Accepted-clause-opens : goal.returns-in-Accepted-clause-opens
returns-in-Accepted-clause-opens g c =
    let D = development_view c.args.development in
    let cert = c.args.cert.now in
    let is = subst (IsFinishedOn D cert) c.in-Accepted.is (c.in_ok-finished.ensures.exactly D cert (c.in_ok-feed_by.ensures.fed D [] c.in_ok-session.ensures.start)) in
    opens_accepted D c.in-Accepted.accepted cert _ c.old_of.result is.0 c.old_of.ensures.opens

pub returns-in_ok-told_fault-in-Refused-clause-opens : goal.returns-in_ok-told_fault-in-Refused-clause-opens
returns-in_ok-told_fault-in-Refused-clause-opens g c =
    let D = development_view c.args.development in
    let cert = c.args.cert.now in
    let is = subst (IsFinishedOn D cert) c.in-Refused.is (c.in_ok-finished.ensures.exactly D cert (c.in_ok-feed_by.ensures.fed D [] c.in_ok-session.ensures.start)) in
    (c.in-Refused.refusal, is.1, c.in_ok-told_fault-in-Refused.ensures)
