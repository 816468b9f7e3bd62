use Rattle.std.proofs.Common.{◌≡◌, ◌+◌, ◌<◌, Some, None, map, option_map, slice_get, length, refl, sym, ap, ◌∙◌, subst, arith}
use Rattle.std.proofs.lemmas.Option.{slice_get_within}
use Rattle.lc_object.specs.EdgeView.{edge_of}
use Rattle.lc_outline.specs.DevelopmentView.{development_view}
use Rattle.lc_cond.specs.Conditions.{parts, conditions_in}
use Rattle.lc_cond.specs.Numbering.{AddsWith}
use Rattle.lc_cond.specs.PartView.{part_of, parts_along}
use Rattle.lc_cond.proofs.Few.{part_limited, conditions_few}
use Rattle.lc_cond.proofs.Numbered.{first_at, before_few, part_stands, none_stands}
use Rattle.lc_cond.proofs.Streamed.{no_part_read}
use Rattle.lc_cond.proofs.numbering.Numbering.part_with.Goals as goal

pub returns-in_default-clause-part : goal.returns-in_default-clause-part
returns-in_default-clause-part c =
    let D = development_view c.args.development.now in
    let n = c.args.self.now in
    let place = c.place_with-place.result in
    let read = c.part_at.ensures ∙ ap (λ l. slice_get (parts_along D (map edge_of l)) place) c.deref.ensures.value in
    let along = no_part_read c.part_at.result (slice_get (parts_along D (map edge_of n.edges.items)) place) c.in_default.not-Some read in
    let none : slice_get (parts D) place ≡ None = subst (λ es. slice_get (parts_along D es) place ≡ None) c.requires.edges_are along in
    none_stands D c.args.terms.now c.args.number place (record { first = 0; conditions = c.new-conditions.result }) refl c.new-conditions.ensures.items none (λ lt. (c.place_with-place.ensures D c.requires lt).0)

pub push_with-requires : goal.push_with-requires
push_with-requires c =
    let D = development_view c.args.development.now in
    let n = c.args.self.now in
    let place = c.place_with-place.result in
    let read = c.part_at.ensures ∙ ap (λ l. slice_get (parts_along D (map edge_of l)) place) c.deref.ensures.value in
    part_limited D c.args.development.now.resolved (map edge_of n.edges.items) place c.in-Some.part (sym read ∙ ap (option_map part_of) c.in-Some.is)

pub index-before-requires : goal.index-before-requires
index-before-requires c =
    let D = development_view c.args.development.now in
    let n = c.args.self.now in
    let place = c.place_with-place.result in
    let p = part_of c.in-Some.part in
    let read = c.part_at.ensures ∙ ap (λ l. slice_get (parts_along D (map edge_of l)) place) c.deref.ensures.value in
    let at : slice_get (parts D) place ≡ Some p =
    subst (λ es. slice_get (parts_along D es) place ≡ Some p) c.requires.edges_are (sym read ∙ ap (option_map part_of) c.in-Some.is) in
    let h = slice_get_within (parts D) place p at in
    let e = c.requires.each in
    omega (arith, h, e)

pub overflow_add-result : goal.overflow_add-result
overflow_add-result c =
    let D = development_view c.args.development.now in
    let n = c.args.self.now in
    let place = c.place_with-place.result in
    let p = part_of c.in-Some.part in
    let read = c.part_at.ensures ∙ ap (λ l. slice_get (parts_along D (map edge_of l)) place) c.deref.ensures.value in
    let at : slice_get (parts D) place ≡ Some p =
    subst (λ es. slice_get (parts_along D es) place ≡ Some p) c.requires.edges_are (sym read ∙ ap (option_map part_of) c.in-Some.is) in
    let h = slice_get_within (parts D) place p at in
    let e = c.requires.each in
    let lt : place < length n.firsts.items = omega (arith, h, e) in
    let here = first_at D n.firsts.items place c.index-before.result.now c.requires.firsts_are lt c.index-before.ensures in
    let low = before_few D place in
    let all = conditions_few D c.args.development.now.resolved c.args.development.now.limited in
    let more = c.in_ok-first.ensures.with.few in
    omega (arith, here, low, all, more)

pub returns-clause-part : goal.returns-clause-part
returns-clause-part c =
    let D = development_view c.args.development.now in
    let n = c.args.self.now in
    let place = c.place_with-place.result in
    let p = part_of c.in-Some.part in
    let ts = c.push_with.new.terms in
    let now = c.push_with.new.conditions.items in
    let read = c.part_at.ensures ∙ ap (λ l. slice_get (parts_along D (map edge_of l)) place) c.deref.ensures.value in
    let at : slice_get (parts D) place ≡ Some p =
    subst (λ es. slice_get (parts_along D es) place ≡ Some p) c.requires.edges_are (sym read ∙ ap (option_map part_of) c.in-Some.is) in
    let h = slice_get_within (parts D) place p at in
    let e = c.requires.each in
    let lt : place < length n.firsts.items = omega (arith, h, e) in
    let before = c.index-before.result.now in
    let within = c.saturating_sub.result in
    let first = c.in_ok-first.first in
    let adds = subst (λ l. AddsWith l ts now (conditions_in D p) within first) c.new-conditions.ensures.items c.in_ok-first.ensures.with in
    part_stands D ts c.args.number place before within first p now (record { first = before + first; conditions = c.push_with.new.conditions }) refl refl at (first_at D n.firsts.items place before c.requires.firsts_are lt c.index-before.ensures)
    c.saturating_sub.ensures adds (λ below. (let found = c.place_with-place.ensures D c.requires below in (found.1, found.2)))
