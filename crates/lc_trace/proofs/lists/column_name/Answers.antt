use Rattle.std.proofs.Common.{ap, ◌∙◌}
use Rattle.lc_outline.specs.ColumnNames.{column_names, name_at}
use Rattle.lc_outline.specs.Development.{Development}
use Rattle.lc_trace.proofs.lists.column_name.Goals as goal

pub returns : goal.returns
returns c = c.column_name.ensures ∙ ap (λ (D : Development). name_at (column_names D) c.args.column.0) c.parts.ensures.shown
