use Rattle.std.proofs.Common.{[], ◌∷◌, ◌++◌, sym, ◌∙◌}
use Rattle.lc_term.specs.Lists.{numbered}
use Rattle.lc_object.specs.EdgeView.{edge_of}
use Rattle.lc_outline.specs.DevelopmentView.{development_view}
use Rattle.lc_cond.specs.Conditions as S
use Rattle.lc_cond.proofs.Parted.{mapped_at, mapped_behind}
use Rattle.lc_cond.proofs.part.edge_part.Goals as goal

pub returns-then-place-edges : goal.returns-then-place-edges
returns-then-place-edges c =
    let rest = numbered S.Stay 0 (development_view c.args.development.now).object.points ++ S.StayIdle ∷ [] in
    sym (mapped_at edge_of S.Pass c.args.edges.now rest c.args.place c.index-edges-place.result c.if-place-edges.true c.index-edges-place.is)

pub returns : goal.returns
returns c =
    let rest = numbered S.Stay 0 (development_view c.args.development.now).object.points ++ S.StayIdle ∷ [] in
    c.point_part.ensures ∙ sym (mapped_behind edge_of S.Pass c.args.edges.now rest c.args.place c.if-place-edges.false)
