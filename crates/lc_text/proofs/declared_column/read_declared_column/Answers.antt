use Rattle.std.proofs.Common.{ap, ◌∙◌}
use Rattle.lc_reading.proofs.Listed.{limited_at}
use Rattle.lc_reading.specs.Naming.{is_full}
use Rattle.lc_text.specs.Seen.{column_parts}
use Rattle.lc_text.proofs.declared_column.read_declared_column.Goals as goal

pub returns : goal.returns
returns c =
    limited_at column_parts c.is_full.result _ c.number.result _ _ c.read_column_list-column.result c.limited.result
    c.read_column_list-column.ensures c.limited.ensures (c.is_full.ensures ∙ ap (is_full c.args.limit) c.len.ensures) c.number.ensures
