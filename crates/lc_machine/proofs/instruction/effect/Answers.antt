use Rattle.std.proofs.Common.{◌≡◌, ap, sym, ◌∙◌, subst, Some}
use Rattle.std.specs.Prelude.{slice_get}
use Rattle.std.proofs.lemmas.Option.{same_Some}
use Rattle.lc_lemmas.proofs.Lists.{viewed_at}
use Rattle.lc_term.specs.State.{state_of, variable_count}
use Rattle.lc_object.specs.Objects.{object_view}
use Rattle.lc_object.specs.Syntax as S
use Rattle.lc_object.specs.View.{point_of, parts_of}
use Rattle.lc_machine.specs.Effects.{IsEffect}
use Rattle.lc_machine.specs.MayRun.{MayRun, variables_at}
use Rattle.lc_machine.specs.View.{variables_of}
use Rattle.lc_machine.proofs.Promised.{may_run, point_with_variables}
use Rattle.lc_machine.proofs.instruction.effect.Goals as goal

pub effect_of-requires-clause-may_run : goal.effect_of-requires-clause-may_run
effect_of-requires-clause-may_run c =
    let p = c.args.place.now.point.0 in
    let n = variable_count c.args.place.now.variables in
    let parts = c.parts.result.now in
    let point = c.index-point.result.now in
    let shown = c.parts.ensures.shown in
    let place = subst (λ (o : S.Object). variables_at o p ≡ Some n) (sym shown) c.requires.place in
    let at = viewed_at point_of parts.points.items p point (point_with_variables (parts_of parts) p n place) c.index-point.ensures in
    subst (λ o. MayRun o n (point_of point).instruction) shown (may_run (parts_of parts) c.parts.ensures.well_formed p (point_of point) n at place)

pub returns : goal.returns
returns c =
    let p = c.args.place.now.point.0 in
    let n = variable_count c.args.place.now.variables in
    let parts = c.parts.result.now in
    let point = c.index-point.result.now in
    let shown = c.parts.ensures.shown in
    let place = subst (λ (o : S.Object). variables_at o p ≡ Some n) (sym shown) c.requires.place in
    let at = viewed_at point_of parts.points.items p point (point_with_variables (parts_of parts) p n place) c.index-point.ensures in
    λ (other : S.Point) there.
    let same = same_Some (point_of point) other (sym at ∙ ap (λ (o : S.Object). slice_get o.points p) shown ∙ there) in
    subst (λ (q : S.Point). IsEffect (object_view c.args.object.now) q.instruction (state_of c.args.state.now) (variables_of c.args.place.now) c.effect_of.result)
    same c.effect_of.ensures
