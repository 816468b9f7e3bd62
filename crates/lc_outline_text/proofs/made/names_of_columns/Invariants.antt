use Rattle.std.proofs.Common.{◌≡◌, map, take}
use Rattle.lc_object.specs.View.{names_of}
use Rattle.lc_seq.specs.SpecView.{column_of}
use Rattle.lc_seq.specs.Specification as Q
use Rattle.lc_outline_text.proofs.made.names_of_columns.Given as goal

-- the names so far
abbrev pub invariant-loop-column : goal.invariant-loop-column
invariant-loop-column l = names_of l.names.items ≡ map (λ (c : Q.Column). c.name) (map column_of (take l.column-index l.columns))
