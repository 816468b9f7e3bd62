use Rattle.std.proofs.Common.{◌+◌, ◌-◌, length}
use Rattle.lc_cond_text.proofs.texts.meet.Given as goal

-- nothing is known of what was met
abbrev pub invariant-loop-met : goal.invariant-loop-met
invariant-loop-met l = Unit {0}

abbrev pub decreases-loop-met : goal.decreases-loop-met
decreases-loop-met l = l.number + 1 - length l.met.items
