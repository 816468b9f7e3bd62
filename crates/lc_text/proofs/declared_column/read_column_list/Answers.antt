use Rattle.std.proofs.Common.{sym, subst}
use Rattle.lc_reading.proofs.Listed.{listed_reading-is}
use Rattle.lc_reading.specs.Parts.{tree_of, place_of}
use Rattle.lc_reading.specs.Results.{IsReading}
use Rattle.lc_reading.specs.TableView.{listed}
use Rattle.lc_text.specs.DeclaredColumn.{column_parts_reading}
use Rattle.lc_text.specs.Seen.{column_parts}
use Rattle.lc_text.proofs.declared_column.read_column_list.Goals as goal

pub returns-in-List : goal.returns-in-List
returns-in-List c =
    subst (λ r. IsReading column_parts r c.read_column_parts.result)
    (sym (listed_reading-is (column_parts_reading (listed c.args.before.now)) (place_of c.args.part) (tree_of c.args.part) c.in-List.list c.in-List.ensures.tree c.in-List.ensures.number c.in-List.ensures.placed))
    c.read_column_parts.ensures
