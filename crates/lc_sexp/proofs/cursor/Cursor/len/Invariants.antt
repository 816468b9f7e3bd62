use Rattle.std.proofs.Common.{◌≡◌, ◌+◌}
use Rattle.lc_sexp.specs.Shown.{rest_of, part_count}
use Rattle.lc_sexp.proofs.cursor.Cursor.len.Given as goal

abbrev pub invariant-loop-ahead : goal.invariant-loop-ahead
invariant-loop-ahead l = l.count + part_count (rest_of l.ahead) ≡ part_count (rest_of l.self)

abbrev pub decreases-loop-ahead : goal.decreases-loop-ahead
decreases-loop-ahead l = part_count (rest_of l.ahead)
