-- The branches of an operation, and how many arguments and replies it has.
use Rattle.std.specs.Prelude.{ℕ, List, [], Option, Some, None, length, slice_get}
use Rattle.lc_seq.specs.Specification.{Branch, Operation}

abbrev pub branches_in : Option Operation → List Branch
branches_in None = []
branches_in (Some o) = o.branches

abbrev pub arity_in : Option Operation → ℕ
arity_in None = 0
arity_in (Some o) = length o.arguments

-- the branches, and the count of arguments, of the operation of this number
abbrev pub op_branches : List Operation → ℕ → List Branch
op_branches operations o = branches_in (slice_get operations o)

abbrev pub arity : List Operation → ℕ → ℕ
arity operations o = arity_in (slice_get operations o)

abbrev pub replies_in : Option Operation → ℕ
replies_in None = 0
replies_in (Some o) = o.replies

abbrev pub op_replies : List Operation → ℕ → ℕ
op_replies operations o = replies_in (slice_get operations o)
