use Rattle.lc_run_tests.proofs.thread_tests.two_threads_count.Given as goal

abbrev pub ghosts-both_count : goal.ghosts-both_count
ghosts-both_count g a = record { name = a.blank.name; parts = a.blank.parts }
