use Rattle.lc_search.proofs.solving.+solve.Given as goal

-- by the splits that may still be nested
abbrev pub decreases-solve : goal.decreases-solve
decreases-solve l = l.nesting

abbrev pub decreases-solve_branch : goal.decreases-solve_branch
decreases-solve_branch l = l.nesting

abbrev pub decreases-split : goal.decreases-split
decreases-split l = l.nesting
