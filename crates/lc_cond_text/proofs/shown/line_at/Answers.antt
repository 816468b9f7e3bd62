use Rattle.std.proofs.Common.{◌≡◌, ◌+◌, ◌-◌, ◌<◌, ◌≤◌, get_or, length, Option, Some, Vec, ap, subst, ◌∙◌, arith}
use Rattle.std.specs.declared.alloc.Global.{Global}
use Rattle.lc_cond.specs.Stream.{IsEnd, IsNextPart, IsPart, next_number}
use Rattle.lc_cond.specs.declared.condition.Condition.{Condition}
use Rattle.lc_outline.specs.DevelopmentView.{development_view}
use Rattle.lc_cond_text.proofs.Places.{ahead_first, ahead_found, ahead_more, ahead_none, at_place}
use Rattle.lc_cond_text.proofs.shown.line_at.Goals as goal

pub parts-init : goal.parts-init
parts-init c = ahead_first (development_view c.args.development.now) c.in_ok-stream.stream c.args.number c.in_ok-stream.ensures.left c.in_ok-stream.ensures.number

pub returns-in_default : goal.returns-in_default
returns-in_default c =
    let D = development_view c.args.development.now in
    let before = c.parts.stream in
    let after = c.next_part.new.self in
    let place = c.args.number - c.first_number.result in
    let at : next_number before + place ≡ c.args.number = omega (arith, c.first_number.ensures, c.parts.invariant.0) in
    let end : IsEnd D before after = subst (λ (o : Option (Vec Condition Global)). IsNextPart D c.next_part.new.terms before after o) c.in_default.is c.in_ok-part.ensures.next in
    ahead_none D before after c.args.number place end c.parts.invariant at

pub returns-in-Some-get : goal.returns-in-Some-get
returns-in-Some-get c =
    let D = development_view c.args.development.now in
    let ts = c.next_part.new.terms in
    let before = c.parts.stream in
    let after = c.next_part.new.self in
    let part = c.in-Some.part.items in
    let place = c.args.number - c.first_number.result in
    let at : next_number before + place ≡ c.args.number = omega (arith, c.first_number.ensures, c.parts.invariant.0) in
    let next : IsPart D ts before after part = subst (λ (o : Option (Vec Condition Global)). IsNextPart D ts before after o) c.in-Some.is c.in_ok-part.ensures.next in
    let one = c.in-Some-get.condition.now in
    ap Some c.in_ok-line.ensures
    ∙ ahead_found D ts before after part one c.args.number place next c.parts.invariant at
    (at_place part place one (subst (λ l. place < length l) c.deref.ensures.value c.in-Some-get.ensures.lookup.3.0) (c.in-Some-get.ensures.lookup.1 ∙ ap (λ l. get_or l place one) c.deref.ensures.value))

pub parts-preserved : goal.parts-preserved
parts-preserved c =
    let D = development_view c.args.development.now in
    let ts = c.next_part.new.terms in
    let before = c.parts.stream in
    let after = c.next_part.new.self in
    let part = c.in-Some.part.items in
    let place = c.args.number - c.first_number.result in
    let at : next_number before + place ≡ c.args.number = omega (arith, c.first_number.ensures, c.parts.invariant.0) in
    let next : IsPart D ts before after part = subst (λ (o : Option (Vec Condition Global)). IsNextPart D ts before after o) c.in-Some.is c.in_ok-part.ensures.next in
    ahead_more D ts before after part c.args.number place next c.parts.invariant at (subst (λ l. length l ≤ place) c.deref.ensures.value c.in_default-get.ensures.lookup.3)
