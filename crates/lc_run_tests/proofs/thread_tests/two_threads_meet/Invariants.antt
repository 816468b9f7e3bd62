use Rattle.lc_run_tests.proofs.thread_tests.two_threads_meet.Given as goal

abbrev pub ghosts-both_meet : goal.ghosts-both_meet
ghosts-both_meet g a = record { name = a.blank.name; parts = a.blank.parts }
