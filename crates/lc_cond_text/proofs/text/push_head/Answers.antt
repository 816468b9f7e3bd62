use Rattle.std.proofs.Common.{◌++◌, codes, ap, ◌∙◌}
use Rattle.std.specs.Fmt.{decimal}
use Rattle.std.proofs.lemmas.Result.{on_ok_weaker}
use Rattle.lc_text.specs.Spelled.{spaced}
use Rattle.lc_cond.specs.ConditionView.{kind_of}
use Rattle.lc_cond_text.specs.ConditionText.{kind_word}
use Rattle.lc_cond_text.proofs.Joined.{joined_four}
use Rattle.lc_cond_text.proofs.text.push_head.Goals as goal

pub returns : goal.returns
returns c =
    on_ok_weaker c.push_place.result
    (λ last. joined_four c.args.out.now.items (codes "(condition ") (decimal c.args.number) (spaced (kind_word (kind_of c.args.condition.now.kind))) _
    c.push_text.new.out.items c.push_number.new.out.items c.push_spaced.new.out.items c.push_place.new.out.items c.in_ok-push_text.ensures c.in_ok-push_number.ensures
    (c.in_ok-push_spaced.ensures ∙ ap (λ w. c.push_number.new.out.items ++ spaced w) c.kind_word.ensures) last) c.push_place.ensures
