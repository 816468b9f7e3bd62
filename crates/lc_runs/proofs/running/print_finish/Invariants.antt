use Rattle.lc_runs.proofs.running.print_finish.Given as goal

abbrev pub ghosts-print_finish_by : goal.ghosts-print_finish_by
ghosts-print_finish_by g a = record { name = a.blank.name; parts = a.blank.parts }
