use Rattle.lc_object_text.proofs.PartsInRow.{if_read}
use Rattle.lc_object_text.proofs.instruction.read_if.Goals as goal

pub returns : goal.returns
returns g c =
    let names = g.S.Scope.names c.args.scope.now in
    let code = g.S.CodeScope.code c.args.scope.now in
    if_read names code c.args.list c.in_ok-first.rest c.in_ok-first.first c.in_ok-first.second c.in_ok-first.third c.made_if.result c.in_ok-first.ensures
    (c.made_if.ensures _ _ c.read_formula-condition.ensures c.read_labels-labels.ensures)
