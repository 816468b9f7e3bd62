use Rattle.std.proofs.Common.{◌++◌, ◌∷◌, [], ap, ◌∙◌, append_assoc}
use Rattle.lc_cond.specs.ConditionView.{condition_in}
use Rattle.lc_cond_text.specs.ConditionText.{condition_text}
use Rattle.lc_outline.specs.DevelopmentView.{development_view}
use Rattle.lc_cond_text.proofs.chosen.push_chosen_line.Goals as goal

pub returns : goal.returns
returns c =
    let before = c.args.text.now.items in
    let line = condition_text (development_view c.args.development.now) c.args.number (condition_in c.args.terms.now c.args.condition.now) in
    c.in_ok-push.ensures.items ∙ ap (λ l. l ++ 10 ∷ []) (c.in_ok-extend_from_slice.ensures.items ∙ ap (λ l. before ++ l) (c.deref.ensures.value ∙ c.in_ok-line.ensures))
    ∙ append_assoc before line (10 ∷ [])
