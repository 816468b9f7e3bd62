use Rattle.std.proofs.Common.{◌≡◌, ◌+◌, ◌*◌, ◌≤◌, length, None, sym, ap, ◌∙◌, subst, arith}
use Rattle.lc_base.specs.Limits.{condition_limit}
use Rattle.lc_term.specs.View.{formula_of}
use Rattle.lc_object.specs.View.{operation_of, point_of}
use Rattle.lc_outline.proofs.Resolving.{passed_is_resolved}
use Rattle.lc_outline.specs.Development.{asserts_at, first_system}
use Rattle.lc_outline.specs.DevelopmentView.{development_view}
use Rattle.lc_cond.specs.Conditions.{conditions_in, start_conditions, entry_conditions, idle_frame}
use Rattle.lc_cond.specs.PartView.{part_of}
use Rattle.lc_cond.proofs.Few.{seen_length, idle_stays_few, asserts_stay_few}
use Rattle.lc_cond.proofs.Numbered.{point_counted}
use Rattle.lc_cond.proofs.Sized.{start_sized, entry_sized, stable_length}
use Rattle.lc_cond.proofs.numbering.part_count.Goals as goal

pub returns-in-Start : goal.returns-in-Start
returns-in-Start c =
    let D = development_view c.args.development.now in
    let n = c.count_with_invariant.result in
    let h = c.count_with_invariant.ensures in
    let sized = start_sized D (passed_is_resolved D c.args.development.now.resolved) in
    let size = seen_length formula_of c.idle_of.result.now D.idle c.idle_of.ensures in
    subst (λ p. n ≡ length (conditions_in D (part_of p))) (sym c.in-Start.is) (let all : n ≡ length (start_conditions D) = omega (arith, h, size, sized) in all)

pub returns-in-Begin : goal.returns-in-Begin
returns-in-Begin c =
    let D = development_view c.args.development.now in
    let o = operation_of c.in-Begin.body.now in
    let k = c.in-Begin.field-0.0 in
    let n = c.count_with_invariant-in-Begin.result in
    let h = c.count_with_invariant-in-Begin.ensures in
    let sized = entry_sized D (passed_is_resolved D c.args.development.now.resolved) k o in
    let size = seen_length formula_of c.asserts_at.result.now (asserts_at D o.entry) c.asserts_at.ensures in
    subst (λ p. n ≡ length (conditions_in D (part_of p))) (sym c.in-Begin.is) (let all : n ≡ length (entry_conditions D k o) = omega (arith, h, size, sized) in all)

pub stable_count-requires : goal.stable_count-requires
stable_count-requires c =
    let D = development_view c.args.development.now in
    let k = c.in-Stay.number.0 in
    let size = seen_length formula_of c.asserts_at-in-Some.result.now (asserts_at D k) c.asserts_at-in-Some.ensures in
    subst (λ m. m * (length D.actions + 2) ≤ condition_limit) (sym size) (asserts_stay_few D c.args.development.now.resolved c.args.development.now.limited k)

pub returns-in-Some : goal.returns-in-Some
returns-in-Some c =
    let D = development_view c.args.development.now in
    let k = c.in-Stay.number.0 in
    let point = point_of c.in-Stay.point.now in
    let size = seen_length formula_of c.asserts_at-in-Some.result.now (asserts_at D k) c.asserts_at-in-Some.ensures in
    let sized = point_counted D (passed_is_resolved D c.args.development.now.resolved) k point (operation_of c.in-Some.field-0.now) (sym c.in-Some.ensures) in
    subst (λ p. c.stable_count.result ≡ length (conditions_in D (part_of p))) (sym c.in-Stay.is) (c.stable_count.ensures ∙ ap (λ m. m * (length D.actions + 2)) size ∙ sym sized)

pub stable_count-requires-in-StayIdle : goal.stable_count-requires-in-StayIdle
stable_count-requires-in-StayIdle c =
    let D = development_view c.args.development.now in
    let size = seen_length formula_of c.idle_of-in-StayIdle.result.now D.idle c.idle_of-in-StayIdle.ensures in
    subst (λ m. m * (length D.actions + 2) ≤ condition_limit) (sym size) (idle_stays_few D c.args.development.now.resolved c.args.development.now.limited)

pub returns-in-StayIdle : goal.returns-in-StayIdle
returns-in-StayIdle c =
    let D = development_view c.args.development.now in
    let size = seen_length formula_of c.idle_of-in-StayIdle.result.now D.idle c.idle_of-in-StayIdle.ensures in
    let sized = stable_length D (passed_is_resolved D c.args.development.now.resolved) None 2 (idle_frame (first_system D)) D.idle in
    subst (λ p. c.stable_count-in-StayIdle.result ≡ length (conditions_in D (part_of p))) (sym c.in-StayIdle.is)
    (c.stable_count-in-StayIdle.ensures ∙ ap (λ m. m * (length D.actions + 2)) size ∙ sym sized)
