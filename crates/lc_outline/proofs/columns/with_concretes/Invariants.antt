use Rattle.std.proofs.Common.{◌≡◌, ◌++◌, drop, map}
use Rattle.lc_object.specs.Syntax as O
use Rattle.lc_object.specs.View.{column_view}
use Rattle.lc_reading.specs.Words.{names_in}
use Rattle.lc_outline.proofs.columns.with_concretes.Given as goal

abbrev pub invariant-loop-column : goal.invariant-loop-column
invariant-loop-column l =
    names_in l.names.items ++ map (λ (c : O.Column). c.name) (map column_view (drop l.column-index l.columns))
    ≡ names_in l.fn.names.items ++ map (λ (c : O.Column). c.name) (map column_view l.columns)
