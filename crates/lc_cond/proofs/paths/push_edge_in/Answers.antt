use Rattle.std.proofs.Common.{◌∙◌, ap, map, sym, subst}
use Rattle.std.proofs.lemmas.Result.{on_ok_weaker}
use Rattle.lc_object.specs.EdgeView.{edge_of}
use Rattle.lc_object.specs.View.{operation_of}
use Rattle.lc_outline.specs.Development.{first_system}
use Rattle.lc_outline.specs.DevelopmentView.{development_view}
use Rattle.lc_rider.specs.PathView.{path_in, ArePaths}
use Rattle.lc_cond.specs.Adding.{Adds}
use Rattle.lc_cond.proofs.Ridden.{edge_said}
use Rattle.lc_cond.proofs.Scening.{scene_later, scene_of_later}
use Rattle.lc_cond.proofs.paths.push_edge_in.Goals as goal

pub push_paths-requires-clause-scene : goal.push_paths-requires-clause-scene
push_paths-requires-clause-scene c = scene_later c.set_scene.new.terms c.paths.new.terms c.in_ok-scene.scene c.in_ok-scene.ensures.scene.stands c.in_ok-paths.ensures.kept

pub push_paths-requires-clause-paths : goal.push_paths-requires-clause-paths
push_paths-requires-clause-paths c = subst (ArePaths c.paths.new.terms) (sym c.deref.ensures.value) c.in_ok-paths.ensures.paths.are

pub returns-clause-list : goal.returns-clause-list
returns-clause-list c =
    let D = development_view c.args.development.now in
    let t1 = c.set_scene.new.terms in
    let t2 = c.paths.new.terms in
    let is = scene_of_later t1 t2 D c.args.operation.0 (operation_of c.args.body.now) (edge_of c.args.code.now) c.in_ok-scene.scene c.in_ok-scene.ensures.scene c.in_ok-paths.ensures.kept in
    on_ok_weaker c.push_paths.result
    (λ list. subst (Adds c.args.conditions.now.items c.push_paths.new.terms c.push_paths.new.conditions.items)
    (edge_said t2 D c.args.operation.0 (operation_of c.args.body.now) (edge_of c.args.code.now) c.in_ok-scene.scene _ _ _ (map (path_in t2) c.deref.result.now) is
    (ap (map (path_in t2)) c.deref.ensures.value ∙ c.in_ok-paths.ensures.paths.paths) (ap (λ d. d.specification.operations) c.parts.ensures.shown)
    (is.stands.system ∙ ap first_system is.development) c.riders_in.ensures)
    list) c.push_paths.ensures.list
