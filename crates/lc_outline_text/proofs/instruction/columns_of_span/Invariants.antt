use Rattle.std.proofs.Common.{◌≡◌, ◌-◌, ◌++◌}
use Rattle.lc_object.specs.View.{columns_of}
use Rattle.lc_object.specs.WellFormed.{numbers_from}
use Rattle.lc_outline_text.proofs.instruction.columns_of_span.Given as goal

-- the numbers so far, and those that are left
abbrev pub invariant-loop-column : goal.invariant-loop-column
invariant-loop-column l = columns_of l.columns.items ++ numbers_from l.column (l.end - l.column) ≡ numbers_from l.fn.span.first l.fn.span.width
