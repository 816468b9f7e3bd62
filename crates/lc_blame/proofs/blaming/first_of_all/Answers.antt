use Rattle.std.proofs.Common.{◌≡◌, ◌+◌, true, false, List, [], ◌++◌, map, length, sym, ap, subst, ◌∙◌, append_assoc, append-nil, arith, rules}
use Rattle.std.specs.Prelude.{Option, Vec, is_some}
use Rattle.std.proofs.lemmas.List.{length-map, length-append}
use Rattle.std.specs.declared.alloc.Global.{Global}
use Rattle.lc_cond.specs.Conditions as S
use Rattle.lc_cond.specs.Conditions.{conditions}
use Rattle.lc_cond.specs.ConditionView.{condition_in, AreConditions}
use Rattle.lc_cond.specs.Stream.{IsNextPart, IsPart, IsEnd, conditions_left}
use Rattle.lc_cond.specs.declared.condition.Condition.{Condition}
use Rattle.lc_term.specs.Lists.{Every}
use Rattle.lc_acting.specs.Attempts.{development_of, world_of, event_of}
use Rattle.lc_blame.specs.Blame.{FailsThere, IsFirst}
use Rattle.lc_blame.proofs.Firsts.{found_in_part, part_passed}
use Rattle.lc_blame.proofs.blaming.first_of_all.Goals as goal

pub parts-init : goal.parts-init
parts-init c = ([], c.in_ok-stream.ensures.left, c.in_ok-stream.ensures.number, tt)

pub first_failing-requires-clause-conditions : goal.first_failing-requires-clause-conditions
first_failing-requires-clause-conditions c =
    let D = development_of c.args.attempt.now in
    let ts = c.next_part.new.terms in
    let items = c.in-Some.conditions.items in
    let next : IsPart D ts c.parts.stream c.next_part.new.self items =
    subst (λ (o : Option (Vec Condition Global)). IsNextPart D ts c.parts.stream c.next_part.new.self o) c.in-Some.is c.in_ok-part.ensures.next in
    subst (λ (l : List Condition). AreConditions ts l) (sym c.deref.ensures.value) (next.are)

pub returns-then-failed : goal.returns-then-failed
returns-then-failed c =
    let a = c.args.attempt.now in
    let D = development_of a in
    let Is = FailsThere D (world_of a) a.client (event_of a) a.tried.now in
    let ts = c.next_part.new.terms in
    let items = c.in-Some.conditions.items in
    let inv = c.parts.invariant in
    let next : IsPart D ts c.parts.stream c.next_part.new.self items =
    subst (λ (o : Option (Vec Condition Global)). IsNextPart D ts c.parts.stream c.next_part.new.self o) c.in-Some.is c.in_ok-part.ensures.next in
    let same = ap (λ (l : List S.Condition). inv.0 ++ l) (sym (next.left)) ∙ inv.1 in
    let place : IsFirst Is (map (condition_in ts) items) c.in_ok-place-in-Some.place =
    subst (λ (l : List Condition). IsFirst Is (map (condition_in ts) l) c.in_ok-place-in-Some.place) c.deref.ensures.value c.in_ok-place-in-Some.ensures in
    let some : is_some c.in_ok-found-in-Some.found ≡ true = search rules in
    found_in_part Is (inv.0) (map (condition_in ts) items) (conditions_left D c.next_part.new.self) (conditions D) c.first_number-first.result c.in_ok-place-in-Some.place c.in_ok-found-in-Some.found same
    (c.first_number-first.ensures ∙ inv.2) (inv.3) place c.in_ok-found-in-Some.ensures some

pub parts-preserved : goal.parts-preserved
parts-preserved c =
    let a = c.args.attempt.now in
    let D = development_of a in
    let Is = FailsThere D (world_of a) a.client (event_of a) a.tried.now in
    let ts = c.next_part.new.terms in
    let items = c.in-Some.conditions.items in
    let inv = c.parts.invariant in
    let next : IsPart D ts c.parts.stream c.next_part.new.self items =
    subst (λ (o : Option (Vec Condition Global)). IsNextPart D ts c.parts.stream c.next_part.new.self o) c.in-Some.is c.in_ok-part.ensures.next in
    let cs = map (condition_in ts) items in
    let not : is_some c.in_ok-found-in-Some.found ≡ false = search rules in
    let place : IsFirst Is cs c.in_ok-place-in-Some.place = subst (λ (l : List Condition). IsFirst Is (map (condition_in ts) l) c.in_ok-place-in-Some.place) c.deref.ensures.value c.in_ok-place-in-Some.ensures in
    let total : length (inv.0 ++ cs) ≡ length (inv.0) + length items = length-append (inv.0) cs ∙ ap (λ n. length (inv.0) + n) (length-map items (condition_in ts)) in (
      inv.0 ++ cs,
      append_assoc (inv.0) cs (conditions_left D c.next_part.new.self) ∙ (ap (λ (l : List S.Condition). inv.0 ++ l) (sym (next.left)) ∙ inv.1),
      next.number ∙ (ap (λ n. n + length items) (inv.2) ∙ sym total),
      part_passed Is (inv.0) cs c.first_number-first.result c.in_ok-place-in-Some.place c.in_ok-found-in-Some.found (inv.3) place c.in_ok-found-in-Some.ensures not,
    )

pub parts-smaller : goal.parts-smaller
parts-smaller c =
    let D = development_of c.args.attempt.now in
    let ts = c.next_part.new.terms in
    let next : IsPart D ts c.parts.stream c.next_part.new.self c.in-Some.conditions.items =
    subst (λ (o : Option (Vec Condition Global)). IsNextPart D ts c.parts.stream c.next_part.new.self o) c.in-Some.is c.in_ok-part.ensures.next in
    let fewer = next.fewer in
    omega (arith, fewer)

pub returns-in-None : goal.returns-in-None
returns-in-None c =
    let a = c.args.attempt.now in
    let D = development_of a in
    let Is = FailsThere D (world_of a) a.client (event_of a) a.tried.now in
    let inv = c.parts.invariant in
    let end : IsEnd D c.parts.stream c.next_part.new.self =
    subst (λ (o : Option (Vec Condition Global)). IsNextPart D c.next_part.new.terms c.parts.stream c.next_part.new.self o) c.in-None.is c.in_ok-part.ensures.next in
    let all : inv.0 ≡ conditions D = sym (append-nil (inv.0)) ∙ (ap (λ (l : List S.Condition). inv.0 ++ l) (sym (end.nothing)) ∙ inv.1) in
    subst (λ (l : List S.Condition). Every (λ k. Is k → ⊥) l) all (inv.3)
