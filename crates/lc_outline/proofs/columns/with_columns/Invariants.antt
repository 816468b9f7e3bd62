use Rattle.std.proofs.Common.{◌≡◌, ◌++◌, drop, map}
use Rattle.lc_seq.specs.Specification as Q
use Rattle.lc_seq.specs.SpecView.{columns_of}
use Rattle.lc_reading.specs.Words.{names_in}
use Rattle.lc_outline.proofs.columns.with_columns.Given as goal

abbrev pub invariant-loop-column : goal.invariant-loop-column
invariant-loop-column l =
    names_in l.names.items ++ map (λ (c : Q.Column). c.name) (columns_of (drop l.column-index l.columns))
    ≡ names_in l.fn.names.items ++ map (λ (c : Q.Column). c.name) (columns_of l.columns)
