use Rattle.lc_outline_claims.proofs.certificates.reading_a_certificate.Goals as goal

pub returns : goal.returns
returns c = c.certificate_of.ensures
