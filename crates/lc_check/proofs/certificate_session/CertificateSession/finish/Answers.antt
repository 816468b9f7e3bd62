use Rattle.std.proofs.Common.{subst}
use Rattle.lc_check.specs.VerdictView.{IsFinishedOn}
use Rattle.lc_check.proofs.certificate_session.CertificateSession.finish.Goals as goal

pub returns-in-Accepted-clause-exactly : goal.returns-in-Accepted-clause-exactly
returns-in-Accepted-clause-exactly c = λ D cert h. subst (IsFinishedOn D cert) c.in-Accepted.is (c.in_ok-finished.ensures.exactly D cert h)

pub returns-clause-exactly : goal.returns-clause-exactly
returns-clause-exactly c = λ D cert h. (subst (IsFinishedOn D cert) c.in-Refused.is (c.in_ok-finished.ensures.exactly D cert h)).1
