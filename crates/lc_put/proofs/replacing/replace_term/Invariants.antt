use Rattle.lc_put.specs.Filling.{replacement_in}
use Rattle.lc_put.proofs.replacing.replace_term.Given as goal

abbrev pub ghosts-replaced_term : goal.ghosts-replaced_term
ghosts-replaced_term a = record { replacement = replacement_in a.put.now a.table.now }
