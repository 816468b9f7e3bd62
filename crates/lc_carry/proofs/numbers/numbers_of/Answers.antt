use Rattle.std.proofs.Common.{◌≡◌, ◌+◌, Option, List, map, length, ap, sym, ◌∙◌, subst}
use Rattle.std.specs.Option.{option_or}
use Rattle.std.specs.Prelude.{Vec}
use Rattle.std.specs.declared.alloc.Global.{Global}
use Rattle.std.proofs.lemmas.List.{length-map}
use Rattle.lc_carry.proofs.Least.{part_noted, all_noted}
use Rattle.lc_cond.proofs.Streamed.{no_part_ends}
use Rattle.lc_carry.specs.Carried.{least_number}
use Rattle.lc_carry.specs.TextNumbers.{number_of}
use Rattle.lc_cert.specs.CertificateView.{entries_in}
use Rattle.lc_cond.specs.ConditionView.{condition_in}
use Rattle.lc_cond.specs.Stream.{conditions_left, next_number, IsNextPart, IsPart, IsEnd}
use Rattle.lc_cond.specs.declared.condition.Condition.{Condition}
use Rattle.lc_outline.specs.DevelopmentView.{development_view}
use Rattle.lc_carry.specs.Renaming.{column_for}
use Rattle.lc_carry.proofs.numbers.numbers_of.Goals as goal

pub returns-in_default : goal.returns-in_default
returns-in_default c = λ t.
    let d = development_view c.args.old.now.development.now in
    let es = entries_in c.args.old.now.certificate.now in
    let to = column_for c.args.old.now.columns.now in
    let before = c.parts.stream in
    let none : IsEnd d before c.next_part.new.self = no_part_ends d c.next_part.new.terms before c.next_part.new.self c.in_ok-part.field-0 c.in_default.not-Some c.in_ok-part.ensures.next in
    all_noted d es to t (number_of c.parts.numbers t) _ (next_number before) (conditions_left d before) none.nothing (c.parts.invariant t)

pub parts-preserved : goal.parts-preserved
parts-preserved c = λ t.
    let d = development_view c.args.old.now.development.now in
    let es = entries_in c.args.old.now.certificate.now in
    let to = column_for c.args.old.now.columns.now in
    let ts = c.next_part.new.terms in
    let before = c.parts.stream in
    let after = c.next_part.new.self in
    let items = c.in-Some.part.items in
    let next : IsPart d ts before after items = subst (λ (o : Option (Vec Condition Global)). IsNextPart d ts before after o) c.in-Some.is c.in_ok-part.ensures.next in
    let number : next_number after ≡ next_number before + length (map (condition_in ts) items) = next.number ∙ ap (λ n. next_number before + n) (sym (length-map items (condition_in ts))) in
    let noted = c.in_ok-note_part.ensures t
    ∙ ap (λ n. option_or (number_of c.parts.numbers t) (least_number d es to t n (map (condition_in ts) c.deref.result.now))) c.first_number-first.ensures
    ∙ ap (λ (l : List Condition). option_or (number_of c.parts.numbers t) (least_number d es to t (next_number before) (map (condition_in ts) l))) c.deref.ensures.value in
    part_noted d es to t (number_of c.parts.numbers t) (number_of c.note_part.new.numbers t) _ (next_number before) (next_number after)
    (conditions_left d before) (map (condition_in ts) items) (conditions_left d after) next.left number noted (c.parts.invariant t)
