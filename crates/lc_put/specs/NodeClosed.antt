-- Terms and column expressions without bound variables.
use Rattle.std.specs.Prelude.{Bool}
use Rattle.lc_table.specs.Nodes.{Part, term, column}
use Rattle.lc_term.specs.Places.{column_passes, no_bounds, is_closed}

-- no bound variable occurs in it
abbrev pub is_closed_part : Part → Bool
is_closed_part (term t) = is_closed t
is_closed_part (column c) = column_passes no_bounds c
