use Rattle.lc_linear.proofs.quick.+add_term.Given as goal

abbrev pub decreases-add_term : goal.decreases-add_term
decreases-add_term l = l.term.0
