use Rattle.lc_term.proofs.Truth.{Decides-truth}
use Rattle.lc_term.proofs.laws.ground_formulas_are_decided.Goals as goal

pub returns : goal.returns
returns c = Decides-truth
