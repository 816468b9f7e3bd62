use Rattle.std.proofs.Common.{◌≡◌, ◌-◌, ◌++◌}
use Rattle.lc_object.specs.View.{columns_of}
use Rattle.lc_object.specs.WellFormed.{numbers_from}
use Rattle.lc_object_text.proofs.made.column_numbers.Given as goal

-- the numbers so far, and those that are left
abbrev pub invariant-loop-number : goal.invariant-loop-number
invariant-loop-number l = columns_of l.columns.items ++ numbers_from l.number (l.end - l.number) ≡ numbers_from l.first (l.end - l.first)
