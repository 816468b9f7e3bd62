use Rattle.lc_term.proofs.Replacement.{both_ways}
use Rattle.lc_term.proofs.Substituted.{Holds-replacing}
use Rattle.lc_term.proofs.laws.simultaneous_replacement_keeps_meaning.Goals as goal

pub returns : goal.returns
returns c = λ s e b columns variables f. both_ways (Holds-replacing s e b columns variables f)
