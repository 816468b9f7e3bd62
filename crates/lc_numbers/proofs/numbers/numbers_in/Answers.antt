use Rattle.std.proofs.Common.{◌≡◌, Some, None, [], ◌∷◌, ◌++◌, map, ap, sym, ◌∙◌, rules, to_z, of_z, w64}
use Rattle.std.proofs.lemmas.List.{map_push}
use Rattle.std.proofs.lemmas.Iterator.Consumers.{YieldsList-at, YieldsList-end, YieldsList-turn}
use Rattle.lc_numbers.specs.Numbers.{all_wholes_in, parts, whole_in}
use Rattle.lc_numbers.proofs.Wholes.{parts_yielded, wholes-none, wholes-push}
use Rattle.lc_numbers.proofs.numbers.numbers_in.Goals as goal

pub returns-in_default : goal.returns-in_default
returns-in_default c =
    let l = c.loop-part in
    let text = c.args.text.now in
    let yields = YieldsList-at c.into_iter-part-iterator.ensures.into_iter_gives (parts_yielded text c.split-part-items.ensures.text c.split-part-items.ensures.has_more c.split-part-items.ensures.pattern) in
    let turn = YieldsList-turn yields l.yielded l.part-iterator l.yielded_by c.next.result c.next.new.self c.in-Some.part c.in-Some.is c.next.ensures.steps in
    let none : whole_in c.in-Some.part.now ≡ None = sym c.whole_in.ensures ∙ c.in_default.is in
    sym (wholes-none (parts text) _ c.in-Some.part.now turn.0 turn.1 none)

pub loop-part-preserved : goal.loop-part-preserved
loop-part-preserved c =
    let l = c.loop-part in
    let part = c.in-Some.part.now in
    let z = c.in-Some-whole_in.number in
    let says : whole_in part ≡ Some z = sym c.whole_in.ensures ∙ c.in-Some-whole_in.is in
    let e : to_z w64 (of_z w64 z) ≡ z = search rules in
    let pushed : l.numbers.items ++ z ∷ [] ≡ c.push.new.self.items = sym (rw e at c.in_ok-push.ensures.items) in
    wholes-push (map (λ x. x.now) l.yielded) _ part l.numbers.items c.push.new.self.items z (map_push (λ x. x.now) l.yielded c.in-Some.part) pushed l.invariant says

pub returns : goal.returns
returns c =
    let l = c.loop-part in
    let text = c.args.text.now in
    let yields = YieldsList-at c.into_iter-part-iterator.ensures.into_iter_gives (parts_yielded text c.split-part-items.ensures.text c.split-part-items.ensures.has_more c.split-part-items.ensures.pattern) in
    let end = YieldsList-end yields l.yielded l.part-iterator l.yielded_by c.next.result c.next.new.self c.in-None.is c.next.ensures.steps in
    sym l.invariant ∙ ap all_wholes_in end.0
