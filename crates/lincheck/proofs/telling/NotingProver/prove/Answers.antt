use Rattle.std.proofs.Common.{[], ◌∷◌}
use Rattle.lincheck.proofs.telling.NotingProver.prove.Goals as goal
use Rattle.lc_cond.proofs.Adding.{are_later}

pub keep_flaw-requires : goal.keep_flaw-requires
keep_flaw-requires g c = (are_later c.args.terms.now c.prove_one-proved.new.terms (c.args.condition.now ∷ []) (c.requires.known, tt) c.prove_one-proved.ensures.kept).0
