-- A bound of all numbers of a term's form, and of the forms of its parts.
use Rattle.std.specs.Prelude.{ℕ, ◌+◌, ◌*◌, max, unsigned_abs}
use Rattle.lc_term.specs.Syntax.{Term, Number, Variable, Bound, Add, Subtract, Multiply, Read}

-- the sum of the sizes of all numbers that occur in the form, multiplied out
abbrev pub weight : Term → ℕ
weight (Number n) = unsigned_abs n
weight (Variable k) = 1
weight (Bound k) = 1
weight (Add t u) = weight t + weight u
weight (Subtract t u) = weight t + weight u
weight (Multiply n t) = max (unsigned_abs n) 1 * weight t
weight (Read c i) = 1
