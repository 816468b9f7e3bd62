use Rattle.lc_runs.proofs.running.print_steps.Given as goal

abbrev pub ghosts-print_steps_by : goal.ghosts-print_steps_by
ghosts-print_steps_by g a = record { name = a.blank.name; parts = a.blank.parts }
