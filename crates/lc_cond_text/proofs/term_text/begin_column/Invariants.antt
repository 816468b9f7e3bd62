use Rattle.std.proofs.Common.{ℕ, [], ◌∷◌, ◌++◌}
use Rattle.lc_table.specs.Tables.{column_in}
use Rattle.lc_text.specs.Spelled.{spelled_column}
use Rattle.lc_outline.specs.DevelopmentView.{development_view}
use Rattle.lc_cond_text.specs.declared.term_text.Waiting.TheVariants.{Column}
use Rattle.lc_cond_text.specs.ConditionText.{spelled}
use Rattle.lc_cond_text.specs.Waiting.{GoesOn}
use Rattle.lc_cond_text.proofs.term_text.begin_column.Given as goal

-- what is written, with what waits and what is below, is all
abbrev pub invariant-stores : goal.invariant-stores
invariant-stores l =
    let by = spelled (development_view l.development) in
    (d : ℕ) → GoesOn by d l.terms l.fn.out.items l.fn.waiting.items (spelled_column by d (column_in l.terms l.fn.column)) l.out.items (l.waiting.items ++ Column l.below ∷ [])

abbrev pub decreases-stores : goal.decreases-stores
decreases-stores l = l.below.0
