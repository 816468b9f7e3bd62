use Rattle.std.proofs.Common.{rules, tests, ◌∙◌}
use Rattle.std.proofs.lemmas.Iterator.Search.{all_from_yields_List}
use Rattle.std.specs.Prelude.{is_some}
use Rattle.lc_numbers.specs.Numbers.{parts, whole_in}
use Rattle.lc_numbers.proofs.Wholes.{each_says, parts_yielded}
use Rattle.lc_numbers.proofs.numbers.are_numbers.Goals as goal

pub returns : goal.returns
returns c =
    let text = c.args.text.now in
    let yields = parts_yielded text c.split.ensures.text c.split.ensures.has_more c.split.ensures.pattern in
    all_from_yields_List (λ part. is_some (whole_in part)) _ _ c.all.result c.all.ensures.ran yields (λ x b q k. search (rules, tests)) ∙ each_says (parts text)
