use Rattle.lc_table.specs.Tables.{Keeps}
use Rattle.lc_cond.specs.Adding.{Adds, Under, Over}
use Rattle.lc_cond.specs.Conditions.{OfColumn, column_conditions}
use Rattle.lc_cond.specs.Heads.{condition_made}
use Rattle.lc_cond.proofs.matching.push_columns.Given as goal

-- the columns so far
abbrev pub invariant-loop-number : goal.invariant-loop-number
invariant-loop-number l =
    Keeps l.fn.terms l.terms
    × Under l.fn.terms l.known
    (λ hs. Over l.fn.terms l.columns (λ σ. Over l.fn.terms l.action (λ π.
    Adds l.fn.conditions.items l.terms l.conditions.items (column_conditions (λ c goal. condition_made l.head (OfColumn c) hs goal) 0 l.number σ π))))
