use Rattle.lc_spec_claims.proofs.native.fitting_a_queue.Goals as goal

pub returns : goal.returns
returns c = c.fits.ensures
