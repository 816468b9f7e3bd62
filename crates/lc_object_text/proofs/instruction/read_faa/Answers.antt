use Rattle.lc_object_text.proofs.PartsInRow.{faa_read}
use Rattle.lc_object_text.proofs.instruction.read_faa.Goals as goal

pub returns : goal.returns
returns g c =
    let names = g.S.Scope.names c.args.scope.now in
    let code = g.S.CodeScope.code c.args.scope.now in
    faa_read names code c.args.list c.next_part.new.list c.next_part-2.new.list c.next_part-3.new.list c.next_part-4.new.list c.next_part-5.new.list
    c.in_ok-array.array c.in_ok-index.index c.in_ok-row.row c.in_ok-added.added c.in_ok-label.label c.row_width-width.result c.made_faa.result
    c.in_ok-array.ensures c.in_ok-index.ensures c.in_ok-row.ensures c.in_ok-added.ensures c.in_ok-label.ensures c.row_width-width.ensures
    (c.made_faa.ensures _ _ c.read_place-place.ensures c.read_adding-adding.ensures)
