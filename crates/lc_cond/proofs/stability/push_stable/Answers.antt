use Rattle.std.proofs.Common.{◌≡◌, ◌+◌, ◌-◌, ◌*◌, ◌≤◌, ◌++◌, length, ap, sym, subst, ◌∙◌, arith}
use Rattle.std.proofs.Math.Nat.{mul-le-mul_right, le-mul_of_pos_right}
use Rattle.std.proofs.lemmas.List.{length-map}
use Rattle.std.proofs.lemmas.Result.{on_ok_weaker}
use Rattle.lc_base.specs.Limits.{condition_limit}
use Rattle.lc_term.specs.View.{formula_of, formulas_of}
use Rattle.lc_table.specs.Tables.{formulas_in}
use Rattle.lc_outline.specs.Development.{all_actions, invariant_of}
use Rattle.lc_outline.specs.DevelopmentView.{development_view}
use Rattle.lc_outline.proofs.Resolving.{passed_is_resolved}
use Rattle.lc_cond.specs.Crossings.{AreCrossings, HaveGoals}
use Rattle.lc_cond.specs.Stretches.{IsWithin, stretch_of, stable_from}
use Rattle.std.specs.Prelude.{option_map}
use Rattle.lc_cond.specs.Adding.{Adds}
use Rattle.lc_cond.proofs.Adding.{formulas_are, adds_nothing}
use Rattle.lc_cond.proofs.Crossed.{crossings_length, have_goals}
use Rattle.lc_cond.proofs.Sized.{actions_length}
use Rattle.lc_cond.proofs.Stretched.{nothing_asked, stretch_length}
use Rattle.lc_cond.proofs.stability.push_stable.Goals as goal

pub push_conjuncts-requires-clause-goals : goal.push_conjuncts-requires-clause-goals
push_conjuncts-requires-clause-goals c =
    let D = development_view c.args.development.now in
    let t0 = c.args.terms.now in
    let s = c.args.asserted.asked in
    let fs = formulas_of c.args.asserted.conjuncts.now in
    let hs = formulas_in t0 c.args.frame.now in
    let crosses = c.in_ok-crossings.ensures.crossings hs (formulas_are t0 c.args.frame.now c.requires.frame) in
    let within = subst (λ n. IsWithin n s) (sym (length-map c.args.asserted.conjuncts.now formula_of)) c.requires.asked in
    subst (λ n. HaveGoals n c.deref.result.now) (stretch_length fs s within)
    (subst (λ l. HaveGoals (length (stretch_of s fs)) l) (sym c.deref.ensures.value)
    (have_goals c.entered_crossings.new.terms D c.args.variables (hs ++ (invariant_of D ++ fs)) (stretch_of s fs) (all_actions D) c.in_ok-crossings.crossings.items crosses))

pub push_conjuncts-requires-clause-few : goal.push_conjuncts-requires-clause-few
push_conjuncts-requires-clause-few c =
    let D = development_view c.args.development.now in
    let t0 = c.args.terms.now in
    let s = c.args.asserted.asked in
    let fs = formulas_of c.args.asserted.conjuncts.now in
    let hs = formulas_in t0 c.args.frame.now in
    let crosses = c.in_ok-crossings.ensures.crossings hs (formulas_are t0 c.args.frame.now c.requires.frame) in
    let each = crossings_length c.entered_crossings.new.terms D c.args.variables (hs ++ (invariant_of D ++ fs)) (stretch_of s fs) (all_actions D) c.in_ok-crossings.crossings.items crosses in
    let size : length D.actions + 2 ≡ length c.deref.result.now = sym (ap length c.deref.ensures.value ∙ each ∙ actions_length D (passed_is_resolved D c.args.development.now.resolved)) in
    let within = c.requires.asked.few in
    let some : s.to - s.from ≤ length c.args.asserted.conjuncts.now = omega (arith, within) in
    let less = mul-le-mul_right (length D.actions + 2) some in
    let all = c.requires.few in
    subst (λ n. (s.to - s.from) * n ≤ condition_limit) size (omega (arith, less, all))

pub push_conjuncts-requires-clause-numbers : goal.push_conjuncts-requires-clause-numbers
push_conjuncts-requires-clause-numbers c =
    let count = length c.args.asserted.conjuncts.now in
    let each = length (development_view c.args.development.now).actions + 2 in
    let order = c.requires.asked.order in
    let within = c.requires.asked.few in
    let once : count ≤ count * each = le-mul_of_pos_right count (omega arith) in
    let all = c.requires.few in
    omega (arith, order, within, once, all)

pub returns-clause-list : goal.returns-clause-list
returns-clause-list c =
    let D = development_view c.args.development.now in
    let now = c.entered_crossings.new.terms in
    let s = c.args.asserted.asked in
    let fs = formulas_of c.args.asserted.conjuncts.now in
    let within = subst (λ n. IsWithin n s) (sym (length-map c.args.asserted.conjuncts.now formula_of)) c.requires.asked in
    on_ok_weaker c.push_conjuncts.result
    (λ made hs has. made now D c.args.variables (hs ++ (invariant_of D ++ fs)) (stretch_of s fs) (all_actions D)
    (subst (λ l. AreCrossings now D c.args.variables (hs ++ (invariant_of D ++ fs)) (stretch_of s fs) (all_actions D) l) (sym c.deref.ensures.value) (c.in_ok-crossings.ensures.crossings hs has))
    (stretch_length fs s within)) c.push_conjuncts.ensures

-- nothing is asked
pub returns-then-from-to-clause-list : goal.returns-then-from-to-clause-list
returns-then-from-to-clause-list c =
    let D = development_view c.args.development.now in
    let s = c.args.asserted.asked in
    let fs = formulas_of c.args.asserted.conjuncts.now in
    λ hs has. subst (λ xs. Adds c.args.conditions.now.items c.args.terms.now c.args.conditions.now.items
    (stable_from D (option_map (λ p. p.0) c.args.point) c.args.variables (hs ++ (invariant_of D ++ fs)) s.from xs))
    (sym (nothing_asked s fs c.if-from-to.true)) (adds_nothing c.args.conditions.now.items c.args.terms.now)
