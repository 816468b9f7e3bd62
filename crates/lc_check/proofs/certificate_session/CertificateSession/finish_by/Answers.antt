use Rattle.std.proofs.Common.{sym, subst}
use Rattle.lc_outline.specs.DevelopmentView.{development_view}
use Rattle.lc_check.proofs.Answered.{finished_of}
use Rattle.lc_check.specs.Stages.{IsFedOn}
use Rattle.lc_check.proofs.certificate_session.CertificateSession.finish_by.Goals as goal

pub ended-requires : goal.ended-requires
ended-requires g c = c.self.invariant c.if-self.false

pub returns-clause-exactly : goal.returns-clause-exactly
returns-clause-exactly g c = λ D cert h.
    let s = c.self.inside.stage in
    let fed : IsFedOn D cert s = subst (IsFedOn D cert) (sym c.self.view_is) h in
    finished_of (development_view s.development) D cert s.reader s.progress c.ended.result fed.0 fed.1 c.ended.ensures.exactly
