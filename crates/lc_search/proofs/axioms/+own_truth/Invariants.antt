use Rattle.lc_search.proofs.axioms.+own_truth.Given as goal

-- by the depth that is left
abbrev pub decreases-own_truth : goal.decreases-own_truth
decreases-own_truth l = l.deep

abbrev pub decreases-own_truth_of_parts : goal.decreases-own_truth_of_parts
decreases-own_truth_of_parts l = l.deep
