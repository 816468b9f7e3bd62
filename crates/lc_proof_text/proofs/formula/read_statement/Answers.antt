use Rattle.lc_term.specs.View.{formula_of}
use Rattle.lc_text.specs.Seen.{row_of}
use Rattle.lc_text.specs.Terms.{pair}
use Rattle.lc_reading.proofs.Combined.{both_read}
use Rattle.lc_proof_text.proofs.formula.read_statement.Goals as goal

pub returns : goal.returns
returns c =
    rw c.both.ensures (both_read row_of formula_of pair _ _ c.read_hypotheses-hypotheses.result c.read_goal-goal.result c.read_hypotheses-hypotheses.ensures c.read_goal-goal.ensures)
