use Rattle.lc_object_text.proofs.PartsInRow.{cas_read}
use Rattle.lc_object_text.proofs.instruction.read_cas.Goals as goal

pub returns : goal.returns
returns g c =
    let names = g.S.Scope.names c.args.scope.now in
    let code = g.S.CodeScope.code c.args.scope.now in
    cas_read names code c.args.list c.next_part.new.list c.next_part-2.new.list c.next_part-3.new.list c.next_part-4.new.list c.next_part-5.new.list c.next_part-6.new.list
    c.in_ok-array.array c.in_ok-index.index c.in_ok-old.old c.in_ok-new.new c.in_ok-equal.equal c.in_ok-different.different c.row_width-width.result c.made_cas.result
    c.in_ok-array.ensures c.in_ok-index.ensures c.in_ok-old.ensures c.in_ok-new.ensures c.in_ok-equal.ensures c.in_ok-different.ensures c.row_width-width.ensures
    (c.made_cas.ensures _ _ c.read_place-place.ensures c.read_exchange-exchange.ensures)
