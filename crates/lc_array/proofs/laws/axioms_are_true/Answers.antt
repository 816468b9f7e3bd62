use Rattle.lc_array.proofs.Truths.{written_is_true, same_index_is_true, affine_cell_is_true}
use Rattle.lc_array.proofs.laws.axioms_are_true.Goals as goal

pub returns-clause-written : goal.returns-clause-written
returns-clause-written c = written_is_true

pub returns-clause-same_index : goal.returns-clause-same_index
returns-clause-same_index c = same_index_is_true

pub returns-clause-affine_cell : goal.returns-clause-affine_cell
returns-clause-affine_cell c = affine_cell_is_true
