use Rattle.std.proofs.Common.{◌≡◌, length, drop, ◌++◌}
use Rattle.lc_object.specs.View.{columns_of}
use Rattle.lc_term.specs.State.{state_of, column_count}
use Rattle.lc_machine.specs.Step.{row}
use Rattle.lc_machine.specs.Fits.{RowFits}
use Rattle.lc_machine.specs.Below.{AreBelow}
use Rattle.lc_machine.proofs.rows.read_row.Given as goal

-- the numbers so far, with those of the columns that are left, are the row
abbrev pub invariant-loop-column : goal.invariant-loop-column
invariant-loop-column l =
    let s = state_of l.state in
    let all = columns_of l.columns in
    let rest = columns_of (drop l.column-index l.columns) in
    record {
      there : AreBelow (column_count l.state) rest;
      rest_fits : RowFits s all l.index → RowFits s rest l.index;
      all_fit : RowFits s rest l.index → RowFits s all l.index;
      count : length l.numbers.items ≡ l.column-index;
      same : l.numbers.items ++ row s rest l.index ≡ row s all l.index;
    }
