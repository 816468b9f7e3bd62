use Rattle.lc_nodes.proofs.form.common_divisor.Given as goal

-- the rests fall
abbrev pub decreases-rests : goal.decreases-rests
decreases-rests l = l.rest
