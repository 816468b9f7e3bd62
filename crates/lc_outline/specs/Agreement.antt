-- What a development's specification and object agree on.
use Rattle.std.specs.Prelude.{◌≡◌, ℕ, ◌≤◌, Some, length, slice_get}
use Rattle.lc_base.specs.Limits.{argument_limit, reply_limit}
use Rattle.lc_object.specs.Syntax as O
use Rattle.lc_seq.specs.Branches.{arity, op_replies}
use Rattle.lc_outline.specs.Development.{Development}
use Rattle.lc_outline.specs.Resolved.{IsResolved}

-- an operation of the object takes and gives what that of the specification does
abbrev pub OperationsAgree : Type 0
OperationsAgree =
    (D : Development) → IsResolved D → (k : ℕ) (o : O.Operation) → slice_get D.object.operations k ≡ Some o →
    (length o.arguments ≡ arity D.specification.operations k) × (o.replies ≡ op_replies D.specification.operations k)

-- no operation takes or gives more than three numbers
abbrev pub CallsAreSmall : Type 0
CallsAreSmall =
    (D : Development) → IsResolved D → (k : ℕ) → (arity D.specification.operations k ≤ argument_limit) × (op_replies D.specification.operations k ≤ reply_limit)
