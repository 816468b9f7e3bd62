use Rattle.lc_outline_claims.proofs.certificates.printing_a_certificate.Goals as goal

pub returns : goal.returns
returns c = c.certificate_text.ensures
