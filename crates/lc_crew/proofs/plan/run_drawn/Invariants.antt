use Rattle.lc_crew.proofs.plan.run_drawn.Given as goal

abbrev pub ghosts-run_drawn_with : goal.ghosts-run_drawn_with
ghosts-run_drawn_with g a = record { name = a.blank.name; parts = a.blank.parts }
