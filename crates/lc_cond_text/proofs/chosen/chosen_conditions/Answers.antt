use Rattle.std.proofs.Common.{ℕ, List, ◌+◌, ◌++◌, map, Option, Vec, ap, ap₂, subst, ◌∙◌, option_map}
use Rattle.std.specs.declared.alloc.Global.{Global}
use Rattle.lc_cond.specs.ConditionView.{condition_in}
use Rattle.lc_cond.specs.Stream.{IsNextPart, IsPart}
use Rattle.lc_cond.specs.declared.condition.Condition.{Condition}
use Rattle.lc_outline.specs.DevelopmentView.{development_view}
use Rattle.lc_cond_text.specs.Chosen.{chosen_count, chosen_from}
use Rattle.lc_cond_text.proofs.Choosing.{so_far_more}
use Rattle.lc_cond_text.proofs.chosen.chosen_conditions.Goals as goal

pub parts-preserved : goal.parts-preserved
parts-preserved c =
    let point = option_map (λ a. a.now) c.args.point in
    let kind = option_map (λ a. a.now) c.args.kind in
    let D = development_view c.args.development.now in
    let ts = c.next_part.new.terms in
    let before = c.parts.stream in
    let after = c.next_part.new.self in
    let cs = c.in-Some.part.items in
    let text = c.parts.text.items in
    let next : IsPart D ts before after cs = subst (λ (o : Option (Vec Condition Global)). IsNextPart D ts before after o) c.in-Some.is c.in_ok-part.ensures.next in
    so_far_more point kind D ts before after cs text c.push_part.new.text.items c.parts.count c.in_ok-count.count next c.parts.invariant
    (c.in_ok-count.ensures.lines ∙ ap₂ (λ (i : ℕ) (l : List Condition). text ++ chosen_from point kind D i (map (condition_in ts) l)) c.first_number-first.ensures c.deref-in-parts.ensures.value)
    (c.in_ok-count.ensures.count ∙ ap (λ l. c.parts.count + chosen_count point kind D (map (condition_in ts) l)) c.deref-in-parts.ensures.value)
