use Rattle.std.proofs.Common.{length, ap, subst, ◌∙◌}
use Rattle.std.proofs.lemmas.Result.{on_ok_weaker}
use Rattle.lc_term.specs.View.{formula_of}
use Rattle.lc_object.specs.View.{point_of}
use Rattle.lc_outline.specs.Development.{asserts_at}
use Rattle.lc_outline.specs.DevelopmentView.{development_view}
use Rattle.lc_cond.specs.Adding.{Adds}
use Rattle.lc_cond.proofs.Few.{seen_length}
use Rattle.lc_cond.proofs.Stretched.{whole, whole_within, whole_point}
use Rattle.lc_cond.proofs.list.push_point.Goals as goal

pub push_point_stretch-requires : goal.push_point_stretch-requires
push_point_stretch-requires c =
    let asserts = asserts_at (development_view c.args.development.now) c.args.number.0 in
    whole_within (length asserts) c.all_of-all.result (c.all_of-all.ensures ∙ ap whole (seen_length formula_of c.asserts_at.result.now asserts c.asserts_at.ensures))

pub returns-clause-list : goal.returns-clause-list
returns-clause-list c =
    let D = development_view c.args.development.now in
    let p = c.args.number.0 in
    let is = c.all_of-all.ensures ∙ ap whole (seen_length formula_of c.asserts_at.result.now (asserts_at D p) c.asserts_at.ensures) in
    on_ok_weaker c.push_point_stretch.result
    (λ list. subst (Adds c.args.conditions.now.items c.push_point_stretch.new.terms c.push_point_stretch.new.conditions.items) (whole_point D p (point_of c.args.point.now) c.all_of-all.result is) list) c.push_point_stretch.ensures.list
