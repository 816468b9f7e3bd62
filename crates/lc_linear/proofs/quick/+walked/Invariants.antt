use Rattle.lc_linear.proofs.quick.+walked.Given as goal

abbrev pub decreases-walked : goal.decreases-walked
decreases-walked l = l.term.0
