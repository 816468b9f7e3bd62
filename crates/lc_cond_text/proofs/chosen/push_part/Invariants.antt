use Rattle.std.proofs.Common.{◌≡◌, ◌+◌, ◌++◌, drop, map, option_map}
use Rattle.lc_cond.specs.ConditionView.{condition_in}
use Rattle.lc_outline.specs.DevelopmentView.{development_view}
use Rattle.lc_cond_text.specs.Chosen.{chosen_count, chosen_from}
use Rattle.lc_cond_text.proofs.chosen.push_part.Given as goal

-- what is written and counted so far, with what is left, is all
abbrev pub invariant-loop-condition : goal.invariant-loop-condition
invariant-loop-condition l =
    let point = option_map (λ a. a.now) l.words.point in
    let kind = option_map (λ a. a.now) l.words.kind in
    let D = development_view l.development in
    let all = map (condition_in l.terms) l.part in
    let left = map (condition_in l.terms) (drop l.condition-index l.part) in
    (l.text.items ++ chosen_from point kind D l.number left ≡ l.fn.text.items ++ chosen_from point kind D l.first all)
    × (l.count + chosen_count point kind D left ≡ l.before + chosen_count point kind D all)
