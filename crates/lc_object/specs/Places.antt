-- The operation of a point.
use Rattle.std.specs.Prelude.{ℕ, Option, Some, None, slice_get}
use Rattle.lc_object.specs.Syntax.{Point, Object}

abbrev pub operation_in : Option Point → ℕ
operation_in None = 0
operation_in (Some p) = p.operation

-- the operation whose body a point is in
abbrev pub operation_at : Object → ℕ → ℕ
operation_at object p = operation_in (slice_get object.points p)
