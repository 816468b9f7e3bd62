use Rattle.std.proofs.Common.{◌≡◌, ◌+◌, Some, [], ◌∷◌, ◌++◌, map, slice_get, ap, sym, ◌∙◌, arith}
use Rattle.lc_term.specs.Lists.{numbered}
use Rattle.lc_object.specs.EdgeView.{edge_of}
use Rattle.lc_object.specs.View.{operation_of}
use Rattle.lc_outline.specs.DevelopmentView.{development_view}
use Rattle.lc_cond.specs.Conditions as S
use Rattle.lc_cond.proofs.Parted.{numbered_at, numbered_behind}
use Rattle.lc_cond.proofs.part.entry_part.Goals as goal

pub returns-then-place-operations : goal.returns-then-place-operations
returns-then-place-operations c =
    let k = c.args.place in
    let xs = c.operations_of-operations.result.now in
    let x = c.index-operations-place.result in
    let rest = map S.Pass (map edge_of c.args.edges.now) ++ (numbered S.Stay 0 (development_view c.args.development.now).object.points ++ S.StayIdle ∷ []) in
    let first : k ≡ 0 + k = omega arith in
    ap (λ n. Some (S.Begin n (operation_of x))) first
    ∙ sym (numbered_at operation_of S.Begin 0 xs rest k x c.if-place-operations.true c.index-operations-place.is)
    ∙ ap (λ l. slice_get (numbered S.Begin 0 l ++ rest) k) c.operations_of-operations.ensures

pub returns : goal.returns
returns c =
    let k = c.args.place in
    let xs = c.operations_of-operations.result.now in
    let rest = map S.Pass (map edge_of c.args.edges.now) ++ (numbered S.Stay 0 (development_view c.args.development.now).object.points ++ S.StayIdle ∷ []) in
    c.edge_part.ensures ∙ sym (numbered_behind operation_of S.Begin 0 xs rest k c.if-place-operations.false) ∙ ap (λ l. slice_get (numbered S.Begin 0 l ++ rest) k) c.operations_of-operations.ensures
