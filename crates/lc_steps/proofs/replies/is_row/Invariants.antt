use Rattle.std.proofs.Common.{◌≡◌, drop, pos}
use Rattle.std.specs.Ordering.{int_eq}
use Rattle.std.specs.Cmp.Lexicographic.{pointwise}
use Rattle.lc_object.specs.View.{columns_of}
use Rattle.lc_term.specs.State.{state_of, column_count}
use Rattle.lc_machine.specs.Step.{row}
use Rattle.lc_machine.specs.Fits.{ComparisonFits}
use Rattle.lc_machine.specs.Below.{AreBelow}
use Rattle.lc_steps.proofs.replies.is_row.Given as goal

-- what is left to be compared decides the answer, and is reached
abbrev pub invariant-loop-i : goal.invariant-loop-i
invariant-loop-i l =
    let s = state_of l.state in
    let all = columns_of l.columns in
    let rest = columns_of (drop l.i l.columns) in
    let numbers = drop l.i l.numbers in
    record {
      there : AreBelow (column_count l.state) rest;
      rest_fits : ComparisonFits s all (pos l.client) l.numbers → ComparisonFits s rest (pos l.client) numbers;
      all_fit : ComparisonFits s rest (pos l.client) numbers → ComparisonFits s all (pos l.client) l.numbers;
      same : pointwise int_eq (row s rest (pos l.client)) numbers ≡ pointwise int_eq (row s all (pos l.client)) l.numbers;
    }
