use Rattle.std.proofs.Common.{◌≡◌, drop}
use Rattle.std.specs.List.{list_all}
use Rattle.lc_seq.specs.Specification.{operation_is_resolved}
use Rattle.lc_seq.specs.SpecView.{operations_of}
use Rattle.lc_seq.proofs.resolving.operations_are_resolved.Given as goal

-- what is left decides the answer
abbrev pub invariant-loop-operation : goal.invariant-loop-operation
invariant-loop-operation l = list_all (operation_is_resolved l.columns) (operations_of l.operations) ≡ list_all (operation_is_resolved l.columns) (operations_of (drop l.operation-index l.operations))
