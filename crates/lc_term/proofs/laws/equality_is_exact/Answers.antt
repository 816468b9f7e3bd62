use Rattle.lc_term.specs.EqualLaws.{Decides-term_eq, Decides-column_eq, Decides-formula_eq}
use Rattle.lc_term.proofs.laws.equality_is_exact.Goals as goal

pub returns-clause-terms : goal.returns-clause-terms
returns-clause-terms c = Decides-term_eq

pub returns-clause-columns : goal.returns-clause-columns
returns-clause-columns c = Decides-column_eq

pub returns-clause-formulas : goal.returns-clause-formulas
returns-clause-formulas c = Decides-formula_eq
