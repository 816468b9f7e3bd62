use Rattle.lc_term.proofs.Replacement.{value-replace, Holds-replace, both_ways}
use Rattle.lc_term.proofs.laws.replacement_keeps_meaning.Goals as goal

pub returns-clause-terms : goal.returns-clause-terms
returns-clause-terms c = value-replace

pub returns-clause-formulas : goal.returns-clause-formulas
returns-clause-formulas c = λ s e b r f. both_ways (Holds-replace s e b r f)
