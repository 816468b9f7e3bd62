use Rattle.lc_text.proofs.Rows.{unboxed_reads}
use Rattle.lc_text.proofs.formula.read_formula.Goals as goal

pub returns : goal.returns
returns g c = rw c.out_of_box.ensures (unboxed_reads _ _ c.read_boxed_formula.ensures)
