use Rattle.lc_pool.specs.Desks.{IsKnownIn}
use Rattle.lc_pool.proofs.checking.proven_in_pieces.Given as goal

-- what is to hold of a number is what is known of it by these files
abbrev pub ghosts-all_proved : goal.ghosts-all_proved
ghosts-all_proved g a = record { holds = IsKnownIn a.files }
