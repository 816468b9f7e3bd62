use Rattle.std.proofs.Common.{sym, subst, ◌∙◌}
use Rattle.std.specs.Prelude.{slice_get}
use Rattle.std.proofs.lemmas.Result.{on_ok_weaker}
use Rattle.lc_object.specs.EdgeView.{edge_of}
use Rattle.lc_object.specs.View.{operation_of}
use Rattle.lc_outline.specs.DevelopmentView.{development_view}
use Rattle.lc_cond.specs.Adding.{Adds}
use Rattle.lc_cond.specs.Conditions.{edge_conditions_in}
use Rattle.lc_cond.proofs.Few.{operation_limited}
use Rattle.lc_cond.proofs.Ridden.{in_body_said, in_operation_said}
use Rattle.lc_cond.proofs.paths.push_edge.Goals as goal

pub push_edge_in-requires : goal.push_edge_in-requires
push_edge_in-requires c =
    operation_limited (development_view c.args.development.now) c.args.development.now.resolved c.in-Some.operation.0 (operation_of c.in-Some-operation_at.body.now) (sym c.in-Some-operation_at.ensures)

pub returns-clause-list : goal.returns-clause-list
returns-clause-list c =
    let D = development_view c.args.development.now in
    let e = edge_of c.args.code.now in
    let k = c.in-Some.operation.0 in
    on_ok_weaker c.push_edge_in.result
    (λ list. subst (Adds c.args.conditions.now.items c.push_edge_in.new.terms c.push_edge_in.new.conditions.items)
    (sym (in_body_said D.object (λ o operation. edge_conditions_in D o operation e) (slice_get D.object.points e.point) k c.in-Some.ensures
    ∙ in_operation_said (λ o operation. edge_conditions_in D o operation e) k (slice_get D.object.operations k) (operation_of c.in-Some-operation_at.body.now) c.in-Some-operation_at.ensures))
    list) c.push_edge_in.ensures.list
