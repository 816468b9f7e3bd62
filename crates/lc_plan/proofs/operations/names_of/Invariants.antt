use Rattle.std.proofs.Common.{◌≡◌, ◌++◌, drop}
use Rattle.lc_reading.specs.TableView.{listed}
use Rattle.lc_seq.specs.SpecView.{operations_of}
use Rattle.lc_plan.specs.Readings.{names_of}
use Rattle.lc_plan.proofs.operations.names_of.Given as goal

-- the names so far, and those of the operations that are left
abbrev pub invariant-loop-operation : goal.invariant-loop-operation
invariant-loop-operation l = listed l.names ++ names_of (operations_of (drop l.operation-index l.all)) ≡ names_of (operations_of l.all)
