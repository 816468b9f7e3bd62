use Rattle.lc_term.proofs.Replacement.{both_ways}
use Rattle.lc_term.proofs.Substituted.{Holds-instantiated}
use Rattle.lc_term.proofs.laws.instantiation_keeps_meaning.Goals as goal

pub returns : goal.returns
returns c = λ s e b u f. both_ways (Holds-instantiated s e b u f)
