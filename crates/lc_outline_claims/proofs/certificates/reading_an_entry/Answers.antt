use Rattle.lc_outline_claims.proofs.certificates.reading_an_entry.Goals as goal

pub returns : goal.returns
returns c = c.read.ensures.exactly
