use Rattle.std.proofs.Common.{◌≡◌, ◌+◌, suc, [], ◌∷◌, Some, None, map, option_map, slice_get, length, sym, ap, ◌∙◌, subst, arith}
use Rattle.std.proofs.lemmas.List.{length-append}
use Rattle.std.proofs.lemmas.Option.{slice_get_within}
use Rattle.lc_object.specs.EdgeView.{edge_of}
use Rattle.lc_outline.specs.DevelopmentView.{development_view}
use Rattle.lc_cond.specs.Conditions.{parts}
use Rattle.lc_cond.specs.Numbering.{count_before, AreFirsts}
use Rattle.lc_cond.specs.PartView.{part_of, parts_along}
use Rattle.lc_cond.proofs.Few.{conditions_few}
use Rattle.lc_cond.proofs.Numbered.{stands_not, firsts_pushed, one_counted, before_few}
use Rattle.lc_cond.proofs.Streamed.{no_part_read}
use Rattle.lc_cond.proofs.numbering.Numbering.new.Goals as goal

pub returns-in_default : goal.returns-in_default
returns-in_default c =
    let D = development_view c.args.development.now in
    let ns = c.parts.firsts.items in
    let n = c.parts.number in
    let place = c.len.result in
    let es = c.in_ok-edges.edges.items in
    let read = c.part_at-part.ensures ∙ ap (λ l. slice_get (parts_along D (map edge_of l)) place) c.deref.ensures.value in
    let none : slice_get (parts D) place ≡ None =
    subst (λ l. slice_get (parts_along D l) place ≡ None) c.in_ok-edges.ensures (no_part_read c.part_at-part.result (slice_get (parts_along D (map edge_of es)) place) c.in_default.not-Some read) in
    let past = stands_not (parts D) place none in
    let few = c.parts.invariant.few in
    let len = c.len.ensures in
    let here : length ns ≡ 0 + length ns = omega arith in
    let size = ap length c.in_ok-push.ensures.items ∙ length-append ns (n ∷ []) in
    record {
      edges_are = c.in_ok-edges.ensures;
      firsts_are = subst (AreFirsts D 0) (sym c.in_ok-push.ensures.items) (firsts_pushed D 0 ns n c.parts.invariant.firsts (c.parts.invariant.number ∙ ap (count_before D) here));
      each = omega (arith, size, len, past, few);
    }

pub parts-smaller : goal.parts-smaller
parts-smaller c =
    let D = development_view c.args.development.now in
    let ns = c.parts.firsts.items in
    let place = c.len.result in
    let p = part_of c.in-Some.part in
    let read = c.part_at-part.ensures ∙ ap (λ l. slice_get (parts_along D (map edge_of l)) place) c.deref.ensures.value in
    let at : slice_get (parts D) place ≡ Some p = subst (λ l. slice_get (parts_along D l) place ≡ Some p) c.in_ok-edges.ensures (sym read ∙ ap (option_map part_of) c.in-Some.is) in
    let lt = slice_get_within (parts D) place p at in
    let len = c.len.ensures in
    let size = ap length c.in_ok-push.ensures.items ∙ length-append ns (c.parts.number ∷ []) in
    omega (arith, size, len, lt)

pub overflow_add-number : goal.overflow_add-number
overflow_add-number c =
    let D = development_view c.args.development.now in
    let ns = c.parts.firsts.items in
    let place = c.len.result in
    let p = part_of c.in-Some.part in
    let read = c.part_at-part.ensures ∙ ap (λ l. slice_get (parts_along D (map edge_of l)) place) c.deref.ensures.value in
    let at : slice_get (parts D) place ≡ Some p = subst (λ l. slice_get (parts_along D l) place ≡ Some p) c.in_ok-edges.ensures (sym read ∙ ap (option_map part_of) c.in-Some.is) in
    let len = c.len.ensures in
    let place_is : length ns ≡ place = omega (arith, len) in
    let this = c.parts.invariant.number ∙ ap (count_before D) place_is in
    let more = one_counted D place c.parts.number c.in_ok-number.field-0 p at this c.in_ok-number.ensures in
    let before = before_few D (suc place) in
    let all = conditions_few D c.args.development.now.resolved c.args.development.now.limited in
    omega (arith, more, before, all)

pub parts-preserved : goal.parts-preserved
parts-preserved c =
    let D = development_view c.args.development.now in
    let ns = c.parts.firsts.items in
    let n = c.parts.number in
    let place = c.len.result in
    let p = part_of c.in-Some.part in
    let read = c.part_at-part.ensures ∙ ap (λ l. slice_get (parts_along D (map edge_of l)) place) c.deref.ensures.value in
    let at : slice_get (parts D) place ≡ Some p = subst (λ l. slice_get (parts_along D l) place ≡ Some p) c.in_ok-edges.ensures (sym read ∙ ap (option_map part_of) c.in-Some.is) in
    let lt = slice_get_within (parts D) place p at in
    let len = c.len.ensures in
    let here : length ns ≡ 0 + length ns = omega arith in
    let size = ap length c.in_ok-push.ensures.items ∙ length-append ns (n ∷ []) in
    let next : suc place ≡ length c.push.new.self.items = omega (arith, size, len) in
    let place_is : length ns ≡ place = omega (arith, len) in
    let this = c.parts.invariant.number ∙ ap (count_before D) place_is in
    record {
      firsts = subst (AreFirsts D 0) (sym c.in_ok-push.ensures.items) (firsts_pushed D 0 ns n c.parts.invariant.firsts (c.parts.invariant.number ∙ ap (count_before D) here));
      number = one_counted D place n c.in_ok-number.field-0 p at this c.in_ok-number.ensures ∙ ap (count_before D) next;
      few = omega (arith, size, len, lt);
    }
