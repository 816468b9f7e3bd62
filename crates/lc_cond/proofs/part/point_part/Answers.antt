use Rattle.std.proofs.Common.{◌≡◌, ◌+◌, Some, [], ◌∷◌, ◌++◌, length, slice_get, ap, sym, ◌∙◌, arith}
use Rattle.lc_term.specs.Lists.{numbered}
use Rattle.lc_object.specs.View.{point_of}
use Rattle.lc_cond.specs.Conditions as S
use Rattle.lc_cond.proofs.Parted.{numbered_at, numbered_behind, only_first, none_behind}
use Rattle.lc_cond.proofs.part.point_part.Goals as goal

pub returns-then-place-points : goal.returns-then-place-points
returns-then-place-points c =
    let k = c.args.place in
    let xs = c.points_of-points.result.now in
    let x = c.index-points-place.result in
    let first : k ≡ 0 + k = omega arith in
    ap (λ n. Some (S.Stay n (point_of x))) first
    ∙ sym (numbered_at point_of S.Stay 0 xs (S.StayIdle ∷ []) k x c.if-place-points.true c.index-points-place.is)
    ∙ ap (λ l. slice_get (numbered S.Stay 0 l ++ S.StayIdle ∷ []) k) c.points_of-points.ensures

pub returns-then-place-points-2 : goal.returns-then-place-points-2
returns-then-place-points-2 c =
    let k = c.args.place in
    let xs = c.points_of-points.result.now in
    sym (numbered_behind point_of S.Stay 0 xs (S.StayIdle ∷ []) k (omega (arith, c.if-place-points-2.true)) ∙ only_first S.StayIdle k (length xs) c.if-place-points-2.true)
    ∙ ap (λ l. slice_get (numbered S.Stay 0 l ++ S.StayIdle ∷ []) k) c.points_of-points.ensures

pub returns : goal.returns
returns c =
    let k = c.args.place in
    let xs = c.points_of-points.result.now in
    sym (numbered_behind point_of S.Stay 0 xs (S.StayIdle ∷ []) k c.if-place-points.false ∙ none_behind S.StayIdle k (length xs) c.if-place-points.false c.if-place-points-2.false)
    ∙ ap (λ l. slice_get (numbered S.Stay 0 l ++ S.StayIdle ∷ []) k) c.points_of-points.ensures
