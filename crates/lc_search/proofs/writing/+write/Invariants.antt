use Rattle.std.proofs.Common.{◌*◌, ◌+◌}
use Rattle.lc_search.proofs.writing.+write.Given as goal

-- by the depth that is left; branches come before each of them
abbrev pub decreases-write : goal.decreases-write
decreases-write l = 2 * l.deep

abbrev pub decreases-write_each : goal.decreases-write_each
decreases-write_each l = 2 * l.deep + 1
