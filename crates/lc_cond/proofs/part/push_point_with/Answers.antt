use Rattle.std.proofs.Common.{◌*◌, ◌≤◌, ◌<◌, length, ap, sym, subst}
use Rattle.lc_base.specs.Limits.{condition_limit}
use Rattle.lc_term.specs.View.{formula_of}
use Rattle.lc_object.specs.View.{point_of}
use Rattle.lc_outline.proofs.Resolving.{passed_is_resolved}
use Rattle.lc_outline.specs.Development.{asserts_at}
use Rattle.lc_outline.specs.DevelopmentView.{development_view}
use Rattle.lc_cond.specs.Stretches.{IsWithin}
use Rattle.lc_cond.proofs.Few.{seen_length, asserts_stay_few}
use Rattle.lc_cond.proofs.Stretched.{point_adds}
use Rattle.lc_cond.proofs.part.push_point_with.Goals as goal

pub stretch_with-asked-requires-clause-few : goal.stretch_with-asked-requires-clause-few
stretch_with-asked-requires-clause-few c =
    let D = development_view c.args.development.now in
    let k = c.args.number.0 in
    let size = seen_length formula_of c.asserts_at-count.result.now (asserts_at D k) c.asserts_at-count.ensures in
    subst (λ m. m * c.action_count-each.result ≤ condition_limit) (sym size)
    (subst (λ m. length (asserts_at D k) * m ≤ condition_limit) (sym c.action_count-each.ensures) (asserts_stay_few D c.args.development.now.resolved c.args.development.now.limited k))

pub push_point_stretch-requires : goal.push_point_stretch-requires
push_point_stretch-requires c =
    let D = development_view c.args.development.now in
    let size = seen_length formula_of c.asserts_at-count.result.now (asserts_at D c.args.number.0) c.asserts_at-count.ensures in
    subst (λ m. IsWithin m c.stretch_with-asked.result) size c.stretch_with-asked.ensures.within

pub returns-clause-with : goal.returns-clause-with
returns-clause-with c =
    let D = development_view c.args.development.now in
    let k = c.args.number.0 in
    let s = c.stretch_with-asked.result in
    let place = c.args.wanted.place in
    let each = c.action_count-each.result in
    let size = seen_length formula_of c.asserts_at-count.result.now (asserts_at D k) c.asserts_at-count.ensures in
    point_adds D (passed_is_resolved D c.args.development.now.resolved) c.args.conditions.now.items c.push_point_stretch.new.terms c.push_point_stretch.new.conditions.items place (s.from * each) s k (point_of c.args.point.now)
    (subst (λ m. IsWithin m s) size c.stretch_with-asked.ensures.within) (asserts_stay_few D c.args.development.now.resolved c.args.development.now.limited k) (ap (λ m. s.from * m) c.action_count-each.ensures)
    (subst (λ m. place < length (asserts_at D k) * m → (s.from * m ≤ place) × (place < s.to * m)) c.action_count-each.ensures
    (subst (λ m. place < m * each → (s.from * each ≤ place) × (place < s.to * each)) size c.stretch_with-asked.ensures.has))
    c.in_ok-push_point_stretch.ensures.list
