use Rattle.std.proofs.Common.{◌<◌, length, get_or, pos, rules}
use Rattle.lc_term.specs.State.{column_count}
use Rattle.lc_term.specs.UpdateView.{write_view, writes_view}
use Rattle.lc_term.specs.declared.update.Write.{Write}
use Rattle.lc_acting.proofs.LeftIn.{read_at, within_at, is_written}
use Rattle.lc_acting.proofs.comparing.differ_in.Goals as goal

-- no write
abbrev none : Write
none = record { column = record { 0 = 0 }; index = pos 0; value = pos 0 }

pub differ_at-differ-requires-clause-there : goal.differ_at-differ-requires-clause-there
differ_at-differ-requires-clause-there c =
    let ws = c.args.first.now in
    let k = c.loop-write.write-index in
    let lt : k < length ws = search rules in
    within_at (column_count c.args.state.now) (writes_view ws) k (write_view (get_or ws k none)) c.requires (read_at write_view ws k none lt)

pub differ_at-differ-requires-clause-written : goal.differ_at-differ-requires-clause-written
differ_at-differ-requires-clause-written c =
    let ws = c.args.first.now in
    let k = c.loop-write.write-index in
    let lt : k < length ws = search rules in
    is_written (writes_view ws) k (write_view (get_or ws k none)) (read_at write_view ws k none lt)
