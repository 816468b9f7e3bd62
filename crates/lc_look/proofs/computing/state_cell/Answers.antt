use Rattle.std.proofs.Common.{◌≡◌, sym, ap, arith}
use Rattle.lc_term.specs.State.{columns_of}
use Rattle.lc_look.specs.Computing.{in_64}
use Rattle.lc_look.proofs.Fitting.{none_there}
use Rattle.lc_look.proofs.computing.state_cell.Goals as goal

pub returns-else-column-column_count : goal.returns-else-column-column_count
returns-else-column-column_count c =
    ap in_64 (sym (none_there (columns_of c.args.state.now) c.args.column.0 c.args.index (omega (arith, c.if-column-column_count.false, c.column_count.ensures))))
