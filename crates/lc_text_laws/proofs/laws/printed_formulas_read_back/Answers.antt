use Rattle.lc_reading.proofs.Fine.{of_fine}
use Rattle.lc_text_laws.proofs.Formulas.{IsAgain, formula_again}
use Rattle.lc_text_laws.proofs.laws.printed_formulas_read_back.Goals as goal

pub returns : goal.returns
returns c = λ names by n t f spelled free small e. (of_fine (IsAgain names by spelled free n t) _ f (formula_again names by spelled free n t small) e).1
