use Rattle.std.proofs.Common.{◌*◌, ◌+◌}
use Rattle.lc_facts.proofs.known.Known.+probe.Given as goal

-- by the levels; the disequalities are tried on a level above 0, and their sides on level 0
abbrev pub decreases-probe : goal.decreases-probe
decreases-probe l = 6 * l.levels + 1

abbrev pub decreases-try_disequalities : goal.decreases-try_disequalities
decreases-try_disequalities l = 5

abbrev pub decreases-try_disequality : goal.decreases-try_disequality
decreases-try_disequality l = 4

abbrev pub decreases-try_fact : goal.decreases-try_fact
decreases-try_fact l = 6 * l.levels

abbrev pub decreases-weigh_branch : goal.decreases-weigh_branch
decreases-weigh_branch l = 6 * l.levels + 2

abbrev pub decreases-weigh_parts : goal.decreases-weigh_parts
decreases-weigh_parts l = 6 * l.levels + 3
