use Rattle.lc_outline_claims.proofs.certificates.finishing_a_certificate.Goals as goal

pub returns : goal.returns
returns c = c.finish.ensures.answer
