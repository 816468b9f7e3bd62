use Rattle.lc_term.proofs.Replacement.{both_ways}
use Rattle.lc_term.proofs.Substituted.{Holds-substituted}
use Rattle.lc_term.proofs.laws.substitution_keeps_meaning.Goals as goal

pub returns : goal.returns
returns c = λ s e b v u f. both_ways (Holds-substituted s e b v u f)
