use Rattle.lc_reading.proofs.Fine.{of_fine}
use Rattle.lc_text.specs.Formulas.{formula_reading}
use Rattle.lc_text.specs.SpelledTree.{formula_tree}
use Rattle.std.proofs.Common.{[]}
use Rattle.lc_text_laws.proofs.Again.{FormAgain, form_again, form_reads}
use Rattle.lc_text_laws.proofs.Formulas.{formula_again}
use Rattle.lc_text_laws.proofs.laws.printed_lists_of_formulas_read_back.Goals as goal

pub returns : goal.returns
returns c = λ names by word n t fs spelled free small own e.
    form_reads (formula_tree by 0) (formula_reading names []) word own n t fs
    (of_fine (FormAgain (formula_tree by 0) (formula_reading names []) word n t) _ fs
    (form_again (formula_tree by 0) (formula_reading names []) word (formula_again names by spelled free) n t small) e)
