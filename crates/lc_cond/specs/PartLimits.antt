-- How many parts the list of a development's conditions has at most, and how many conditions a part has.
use Rattle.std.specs.Prelude.{ℕ, ◌+◌, ◌*◌}
use Rattle.lc_base.specs.Limits.{condition_limit, operation_limit, path_limit, point_limit}

-- the most edges: two of each point
abbrev pub edge_limit : ℕ
edge_limit = 2 * point_limit

-- the most parts: the start, the calls that begin, `edge_limit` edges, the points, and idle
abbrev pub part_limit : ℕ
part_limit = 2 + (operation_limit + (edge_limit + point_limit))

-- The most conditions of a part, also of one whose edge another development has. On each path the invariant is asked, and what is
-- asserted where it leads, and neither is more than all conditions; and what its riders and its action ask, which is less
abbrev pub part_size_limit : ℕ
part_size_limit = path_limit * (3 * condition_limit)
