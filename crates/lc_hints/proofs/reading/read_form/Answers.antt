use Rattle.std.proofs.Common.{codes, map}
use Rattle.lc_reading.specs.Rows.{each_reading}
use Rattle.lc_hints.specs.Readings.{hint_reading}
use Rattle.lc_hints.specs.View.{hint_of}
use Rattle.lc_hints.proofs.reading.read_form.Goals as goal
use Rattle.lc_reading.proofs.Parts.{behind_read, behind_wrong}

pub returns-in_err-list : goal.returns-in_err-list
returns-in_err-list g c =
    behind_wrong (λ hints. map hint_of hints.items) (codes "hints") (λ n m ts. each_reading (hint_reading (g.S.Scope.names c.args.scope.now)) m ts) c.args.part _ c.from_residual.result c.in_err-list.ensures c.from_residual.ensures.1

pub returns : goal.returns
returns g c =
    behind_read (λ hints. map hint_of hints.items) (codes "hints") (λ n m ts. each_reading (hint_reading (g.S.Scope.names c.args.scope.now)) m ts) c.args.part c.in_ok-list.list c.read_each.result c.in_ok-list.ensures c.read_each.ensures
