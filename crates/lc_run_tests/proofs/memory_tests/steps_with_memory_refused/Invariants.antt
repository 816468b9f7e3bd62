use Rattle.lc_run_tests.proofs.memory_tests.steps_with_memory_refused.Given as goal

abbrev pub ghosts-calls : goal.ghosts-calls
ghosts-calls g a = record { name = a.blank.name; parts = a.blank.parts }
