use Rattle.std.proofs.Common.{◌∙◌}
use Rattle.lc_fill.proofs.Rows.{alone}
use Rattle.lc_reading.specs.Parts.{tree_of}
use Rattle.lc_fill.proofs.row.as_is.Goals as goal

pub returns : goal.returns
returns c = alone c.in_ok-to_sexp.field-0 (tree_of c.args.part) c.new.result.items c.new-2.result.items (c.in_ok-to_sexp.ensures ∙ c.item.ensures.tree) c.new.ensures.items c.new-2.ensures.items
