use Rattle.std.proofs.Common.{◌+◌, ◌*◌}
use Rattle.lc_table.proofs.Listed.{beyond}
use Rattle.lc_explain_cert.proofs.depth.+look_at.Given as goal

abbrev pub decreases-look_at : goal.decreases-look_at
decreases-look_at l = 2 * l.formula.0 + 1

abbrev pub decreases-look_at_all : goal.decreases-look_at_all
decreases-look_at_all l = 2 * beyond l.formulas.now
