use Rattle.std.proofs.Common.{ap, ◌∙◌}
use Rattle.lc_outline.specs.ColumnNames.{column_names, name_at}
use Rattle.lc_cond_text.proofs.naming.column_name.Goals as goal

pub returns : goal.returns
returns c = c.column_name.ensures ∙ ap (λ d. name_at (column_names d) c.args.column.0) c.parts.ensures.shown
