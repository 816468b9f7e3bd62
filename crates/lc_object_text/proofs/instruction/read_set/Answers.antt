use Rattle.lc_object_text.proofs.PartsInRow.{set_read}
use Rattle.lc_object_text.proofs.instruction.read_set.Goals as goal

pub returns : goal.returns
returns g c =
    let names = g.S.Scope.names c.args.scope.now in
    let code = g.S.CodeScope.code c.args.scope.now in
    set_read names code c.args.list c.in_ok-first.rest c.in_ok-first.first c.in_ok-first.second c.made_set.result c.in_ok-first.ensures
    (c.made_set.ensures _ _ c.read_assignments-cells.ensures c.read_label-label.ensures)
