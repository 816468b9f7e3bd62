use Rattle.std.proofs.Common.{◌≡◌, length}
use Rattle.lc_seq.specs.SpecView.{columns_of}
use Rattle.lc_term.specs.State.{column_count}
use Rattle.lc_page.proofs.states.stores_of.Given as goal

-- the state keeps its columns
abbrev pub invariant-loop-done : goal.invariant-loop-done
invariant-loop-done l = column_count l.state ≡ length (columns_of l.spec.columns.items)
