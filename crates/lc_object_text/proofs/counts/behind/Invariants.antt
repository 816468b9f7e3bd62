use Rattle.std.proofs.Common.{◌≡◌}
use Rattle.lc_sexp.specs.Trees.{item_count_of_all}
use Rattle.lc_sexp.specs.Shown.{rest_of, number_of}
use Rattle.lc_reading.specs.Readings.{Reading}
use Rattle.lc_object_text.specs.Counts.{ended_behind}
use Rattle.lc_object_text.proofs.counts.behind.Given as goal

abbrev pub decreases-parts : goal.decreases-parts
decreases-parts l = item_count_of_all (rest_of l.rest)

-- the parts that are left end as all do
abbrev pub invariant-parts : goal.invariant-parts
invariant-parts l = (r : Reading (Unit {0})) → ended_behind l.fn.parts (number_of l.fn.list) (rest_of l.fn.list) r ≡ ended_behind l.left (number_of l.rest) (rest_of l.rest) r
