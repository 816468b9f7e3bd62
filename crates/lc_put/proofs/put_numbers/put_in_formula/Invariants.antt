use Rattle.lc_put.specs.Filling.{replacement_in}
use Rattle.lc_put.proofs.put_numbers.put_in_formula.Given as goal

abbrev pub ghosts-replaced_formula : goal.ghosts-replaced_formula
ghosts-replaced_formula a = record { replacement = replacement_in a.put.now a.table.now }
