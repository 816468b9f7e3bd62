use Rattle.std.proofs.Common.{Some}
use Rattle.lc_base.specs.Limits.{column_limit}
use Rattle.lc_reading.specs.Parts.{tree_of, place_of}
use Rattle.lc_reading.specs.TableView.{listed}
use Rattle.lc_text.specs.DeclaredColumn.{declared_column_reading}
use Rattle.lc_spec_text.proofs.column.ColumnsDeclares.read.Goals as goal

pub returns : goal.returns
returns c =
    c.made_column.ensures (declared_column_reading (Some column_limit) (listed c.args.before.now) (place_of c.args.part) (tree_of c.args.part)) c.read_declared_column.ensures
