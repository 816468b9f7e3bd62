use Rattle.std.proofs.Common.{◌≡◌, ◌+◌, suc, map, option_map, slice_get, refl, sym, subst, ap, ◌∙◌, arith}
use Rattle.std.proofs.lemmas.List.{length-map}
use Rattle.lc_object.specs.EdgeView.{edge_of}
use Rattle.lc_outline.specs.DevelopmentView.{development_view}
use Rattle.lc_cond.specs.Adding.{Adds}
use Rattle.lc_cond.specs.Conditions.{conditions_in}
use Rattle.lc_cond.specs.PartView.{part_of, parts_along}
use Rattle.lc_cond.proofs.Few.{part_limited}
use Rattle.lc_cond.proofs.FewParts.{parts_few, made_few}
use Rattle.lc_cond.proofs.Streamed.{no_part_read, none_left, part_given}
use Rattle.lc_cond.proofs.stream.ConditionStream.next_part.Goals as goal

pub returns-in_default-clause-next : goal.returns-in_default-clause-next
returns-in_default-clause-next c =
    let before = c.args.self.now in
    let D = development_view c.args.development.now in
    let ps = parts_along D (map edge_of before.edges.items) in
    let at = c.part_at.ensures ∙ ap (λ l. slice_get (parts_along D (map edge_of l)) before.place) c.deref.ensures.value in
    let (nothing, none) = none_left D ps before.place (no_part_read c.part_at.result (slice_get ps before.place) c.in_default.not-Some at) in
    record { nothing = nothing; none = none; same = refl }

pub push_part-requires : goal.push_part-requires
push_part-requires c =
    let before = c.args.self.now in
    let D = development_view c.args.development.now in
    let at = c.part_at.ensures ∙ ap (λ l. slice_get (parts_along D (map edge_of l)) before.place) c.deref.ensures.value in
    part_limited D c.args.development.now.resolved (map edge_of before.edges.items) before.place c.in-Some.part (sym at ∙ ap (option_map part_of) c.in-Some.is)

pub overflow_add-self : goal.overflow_add-self
overflow_add-self c = (let few = c.args.self.now.few_parts in omega (arith, few))

pub overflow_add-self-2 : goal.overflow_add-self-2
overflow_add-self-2 c =
    let before = c.args.self.now in
    let D = development_view c.args.development.now in
    let part = part_of c.in-Some.part in
    let ts = c.push_part.new.terms in
    let now = c.push_part.new.conditions.items in
    let adds = subst (λ l. Adds l ts now (conditions_in D part)) c.new-conditions.ensures.items c.in_ok-push_part.ensures.list in
    let few = made_few D c.args.development.now.resolved c.args.development.now.limited (c.developments_are_limited.ensures D c.args.development.now.limited) part ts now adds in
    let parts = before.few_parts in
    let given = before.few_conditions in
    let len = c.len.ensures in
    omega (arith, few, parts, given, len)

pub invariant_of-self : goal.invariant_of-self
invariant_of-self c =
    let before = c.args.self.now in
    let D = development_view c.args.development.now in
    let es = map edge_of before.edges.items in
    let part = part_of c.in-Some.part in
    let ts = c.push_part.new.terms in
    let now = c.push_part.new.conditions.items in
    let at = c.part_at.ensures ∙ ap (λ l. slice_get (parts_along D (map edge_of l)) before.place) c.deref.ensures.value in
    let adds = subst (λ l. Adds l ts now (conditions_in D part)) c.new-conditions.ensures.items c.in_ok-push_part.ensures.list in
    let few = made_few D c.args.development.now.resolved c.args.development.now.limited (c.developments_are_limited.ensures D c.args.development.now.limited) part ts now adds in
    let edges = before.few_edges in
    let size = length-map before.edges.items edge_of in
    let place = parts_few D c.args.development.now.resolved es (omega (arith, edges, size)) before.place part (sym at ∙ ap (option_map part_of) c.in-Some.is) in
    let given = before.few_conditions in
    let len = c.len.ensures in
    record { few_edges = edges; few_parts = omega (arith, place); few_conditions = omega (arith, few, given, len) }

pub returns-clause-next : goal.returns-clause-next
returns-clause-next c =
    let before = c.args.self.now in
    let D = development_view c.args.development.now in
    let ps = parts_along D (map edge_of before.edges.items) in
    let part = part_of c.in-Some.part in
    let ts = c.push_part.new.terms in
    let now = c.push_part.new.conditions.items in
    let at = c.part_at.ensures ∙ ap (λ l. slice_get (parts_along D (map edge_of l)) before.place) c.deref.ensures.value in
    let adds = subst (λ l. Adds l ts now (conditions_in D part)) c.new-conditions.ensures.items c.in_ok-push_part.ensures.list in
    let next : before.place + 1 ≡ suc before.place = omega arith in
    let (are, rest) = part_given D ps before.place (before.place + 1) part ts now (sym at ∙ ap (option_map part_of) c.in-Some.is) next adds in
    let (left, fewer) = rest in
    let len = c.len.ensures in
    record { are = are; left = left; fewer = fewer; number = omega (arith, len) }
