use Rattle.lc_put.specs.Filling.{replacement_in}
use Rattle.lc_put.proofs.replacing.replace_column.Given as goal

abbrev pub ghosts-replaced_column : goal.ghosts-replaced_column
ghosts-replaced_column a = record { replacement = replacement_in a.put.now a.table.now }
