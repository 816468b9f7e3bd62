use Rattle.std.proofs.Common.{◌<◌, take, length, List, option_map, pos, sym, subst, rules}
use Rattle.lc_term.specs.UpdateView.{write_view, writes_view}
use Rattle.lc_term.specs.Updates as U
use Rattle.lc_term.specs.declared.update.Write.{Write}
use Rattle.lc_acting.specs.Left.{IsLeft}
use Rattle.lc_acting.proofs.LeftIn.{read_more}
use Rattle.lc_acting.proofs.comparing.last_in.Goals as goal

-- no write
abbrev none : Write
none = record { column = record { 0 = 0 }; index = pos 0; value = pos 0 }

pub loop-write-preserved : goal.loop-write-preserved
loop-write-preserved c =
    let ws = c.args.writes.now in
    let k = c.loop-write.write-index in
    let lt : k < length ws = search rules in
    subst (λ (l : List U.Write). IsLeft l c.args.at.column.0 c.args.at.index (option_map write_view c.last_with-last.result)) (sym (read_more write_view ws k none lt))
    (c.last_with-last.ensures (writes_view (take k ws)) c.loop-write.invariant)
