use Rattle.lc_put.specs.Filling.{replacement_in}
use Rattle.lc_put.proofs.node_replacement.shift_formula.Given as goal

abbrev pub ghosts-filled : goal.ghosts-filled
ghosts-filled a = record { replacement = replacement_in a.put.now a.table.now }
