use Rattle.std.proofs.Common.{◌≡◌, ◌<◌, pos, drop, ◌++◌}
use Rattle.lc_term.specs.Lists.{Every}
use Rattle.lc_term.specs.State.{state_of, column_count}
use Rattle.lc_term.specs.Updates.{row}
use Rattle.lc_ride.specs.RidingFits.{CellsFit}
use Rattle.lc_ride.proofs.Cells.{numbers_of}
use Rattle.lc_ride.proofs.settling.push_cells.Given as goal

-- the numbers so far, with those of the columns that are left, are all
abbrev pub invariant-loop-column : goal.invariant-loop-column
invariant-loop-column l =
    let s = state_of l.state in
    let all = numbers_of l.columns in
    let rest = numbers_of (drop l.column-index l.columns) in
    record {
      there : Every (λ c. c.0 < column_count l.state) (drop l.column-index l.columns);
      rest_fits : CellsFit s all (pos l.client) → CellsFit s rest (pos l.client);
      all_fit : CellsFit s rest (pos l.client) → CellsFit s all (pos l.client);
      same : l.numbers.items ++ row s rest (pos l.client) ≡ l.fn.numbers.items ++ row s all (pos l.client);
    }
