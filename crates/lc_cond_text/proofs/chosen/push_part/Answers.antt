use Rattle.std.proofs.Common.{◌≡◌, ◌+◌, ◌++◌, ◌∷◌, suc, drop, map, ap, sym, ◌∙◌, option_map, rules}
use Rattle.std.proofs.lemmas.List.{drop_more}
use Rattle.lc_cond.specs.ConditionView.{condition_in}
use Rattle.lc_outline.specs.DevelopmentView.{development_view}
use Rattle.lc_cond_text.specs.Chosen.{chosen_count, chosen_from}
use Rattle.lc_cond_text.proofs.Choosing.{one_chosen, one_passed}
use Rattle.lc_cond_text.proofs.chosen.push_part.Goals as goal
use Rattle.lc_cond_text.proofs.chosen.push_part.Goals.{then-is_chosen+in_ok-push_chosen_line+in_ok-count, else-is_chosen}

pub loop-condition-preserved : goal.loop-condition-preserved
loop-condition-preserved c =
    let point = option_map (λ a. a.now) c.args.words.point in
    let kind = option_map (λ a. a.now) c.args.words.kind in
    let D = development_view c.args.development.now in
    let ts = c.args.terms.now in
    let cs = c.args.part.now in
    let i = c.loop-condition.condition-index in
    let x = c.condition-item.result in
    let more = drop_more cs i x c.loop-condition-test.true in
    let here : drop i cs ≡ x ∷ drop (i + 1) cs = cc in
    let next : c.in_ok-number.number ≡ suc c.loop-condition.number = search rules in
    let left = map (condition_in ts) (drop i cs) in
    let behind = map (condition_in ts) (drop (i + 1) cs) in
    let first = ap (map (condition_in ts)) here in
    let lines = c.args.text.now.items ++ chosen_from point kind D c.args.first (map (condition_in ts) cs) in
    let total = c.args.before + chosen_count point kind D (map (condition_in ts) cs) in
    let k = c.loop-condition.number in
    let text = c.loop-condition.text.items in
    let count = c.loop-condition.count in
    elim c.if-is_chosen.branch [
      | then-is_chosen+in_ok-push_chosen_line+in_ok-count w ↦
          one_chosen point kind D k c.in_ok-number.number (condition_in ts x) left behind text c.if-is_chosen.text.items count c.if-is_chosen.count lines total first next
          (sym c.is_chosen.ensures ∙ w.if-is_chosen.true) (ap (λ v. v.items) w.text-is ∙ w.in_ok-push_chosen_line.ensures) (w.count-is ∙ w.in_ok-count.ensures) c.loop-condition.invariant
      | else-is_chosen w ↦
          one_passed point kind D k c.in_ok-number.number (condition_in ts x) left behind text c.if-is_chosen.text.items count c.if-is_chosen.count lines total first next
          (sym c.is_chosen.ensures ∙ w.if-is_chosen.false) (ap (λ v. v.items) w.text-is) w.count-is c.loop-condition.invariant
    ]
