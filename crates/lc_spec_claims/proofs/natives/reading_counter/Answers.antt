use Rattle.lc_spec_claims.proofs.natives.reading_counter.Goals as goal

pub returns : goal.returns
returns c = c.only_reads.ensures
