use Rattle.lc_term.proofs.Replacement.{both_ways}
use Rattle.lc_term.proofs.Substituted.{value-shifted, Holds-shifted}
use Rattle.lc_term.proofs.laws.shift_keeps_meaning.Goals as goal

pub returns-clause-terms : goal.returns-clause-terms
returns-clause-terms c = value-shifted

pub returns-clause-formulas : goal.returns-clause-formulas
returns-clause-formulas c = λ s e b added inner f. both_ways (Holds-shifted s e b added inner f)
