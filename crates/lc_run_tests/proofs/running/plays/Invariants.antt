use Rattle.lc_run_tests.proofs.running.plays.Given as goal

abbrev pub ghosts-begun : goal.ghosts-begun
ghosts-begun g a = record { name = a.blank.name; parts = a.blank.parts }
