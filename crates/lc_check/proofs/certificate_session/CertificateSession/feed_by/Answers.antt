use Rattle.std.proofs.Common.{◌++◌}
use Rattle.lc_check.proofs.certificate_session.CertificateSession.feed_by.Goals as goal

pub invariant_of-self-2 : goal.invariant_of-self-2
invariant_of-self-2 g c = λ lives.
    let (fed, up) = c.self.invariant c.if-self.false in
    (fed ++ c.args.piece.now, c.in_ok-feed_all.ensures fed up)
