use Rattle.std.proofs.Common.{Some, length, sym, subst}
use Rattle.std.specs.Prelude.{slice_get}
use Rattle.std.proofs.lemmas.Result.{on_ok_weaker}
use Rattle.lc_object.specs.View.{operation_of}
use Rattle.lc_object.specs.WellFormed.{variable_count}
use Rattle.lc_outline.specs.Development.{first_system, asserts_at}
use Rattle.lc_outline.specs.DevelopmentView.{development_view}
use Rattle.lc_cond.specs.Adding.{Adds}
use Rattle.lc_cond.specs.Conditions.{body_frame}
use Rattle.lc_cond.specs.Stretches.{stable_stretch}
use Rattle.lc_cond.proofs.Few.{operation_limited}
use Rattle.lc_cond.proofs.Ridden.{in_operation_said}
use Rattle.lc_cond.proofs.list.push_point_stretch.Goals as goal

pub push_stay-requires-clause-limits : goal.push_stay-requires-clause-limits
push_stay-requires-clause-limits c =
    operation_limited (development_view c.args.development.now) c.args.development.now.resolved c.args.point.now.operation.0 (operation_of c.in-Some.body.now) (sym c.in-Some.ensures)

pub returns-clause-list : goal.returns-clause-list
returns-clause-list c =
    let D = development_view c.args.development.now in
    let p = c.args.number.0 in
    let o = c.args.point.now.operation.0 in
    on_ok_weaker c.push_stay.result
    (λ list. subst (Adds c.args.conditions.now.items c.push_stay.new.terms c.push_stay.new.conditions.items)
    (sym (in_operation_said (λ k operation. stable_stretch D (Some p) (variable_count operation) (body_frame (first_system D) k (length operation.arguments)) (asserts_at D p) c.args.asked) o
    (slice_get D.object.operations o) (operation_of c.in-Some.body.now) c.in-Some.ensures))
    list) c.push_stay.ensures.list
