use Rattle.std.proofs.Common.{◌≡◌, ◌+◌, ◌++◌, Option, List, map, length, ap, sym, ◌∙◌, subst}
use Rattle.std.specs.Prelude.{Vec}
use Rattle.std.specs.declared.alloc.Global.{Global}
use Rattle.std.proofs.lemmas.List.{length-map}
use Rattle.lc_carry.proofs.PartByPart.{part_carried, all_carried, same_carried}
use Rattle.lc_carry.proofs.Few.{few_carried}
use Rattle.lc_cond.proofs.Streamed.{no_part_ends}
use Rattle.lc_carry.specs.Carried.{carried_from, carried_proof}
use Rattle.lc_carry.specs.OldProofs.{proof_for}
use Rattle.lc_cert.specs.Certificates.{HaveFewSteps}
use Rattle.lc_cert.specs.CertificateView.{entries_in}
use Rattle.lc_cert.specs.EntryView.{entries_of}
use Rattle.lc_cond.specs.Conditions.{conditions}
use Rattle.lc_cond.specs.ConditionView.{condition_in}
use Rattle.lc_cond.specs.Stream.{conditions_left, next_number, IsNextPart, IsPart, IsEnd}
use Rattle.lc_cond.specs.declared.condition.Condition.{Condition}
use Rattle.lc_outline.specs.DevelopmentView.{development_view}
use Rattle.lc_carry.proofs.entries.carried_entries.Goals as goal

pub returns-in_default-clause-exactly : goal.returns-in_default-clause-exactly
returns-in_default-clause-exactly c =
    let D = development_view c.args.old.now in
    let es = entries_in c.args.certificate.now in
    let E = development_view c.args.development.now in
    let before = c.parts.stream in
    let none : IsEnd E before c.next_part.new.self = no_part_ends E c.next_part.new.terms before c.next_part.new.self c.in_ok-part.field-0 c.in_default.not-Some c.in_ok-part.ensures.next in
    all_carried E (proof_for c.in_ok-proofs.proofs) (entries_of c.parts.entries.items) _ (next_number before) (conditions_left E before) none.nothing c.parts.invariant
    ∙ same_carried E (proof_for c.in_ok-proofs.proofs) (carried_proof D es E) 0 (conditions E) c.in_ok-proofs.ensures

pub returns-in_default-clause-few : goal.returns-in_default-clause-few
returns-in_default-clause-few c = λ few.
    let D = development_view c.args.old.now in
    let es = entries_in c.args.certificate.now in
    let E = development_view c.args.development.now in
    let before = c.parts.stream in
    let none : IsEnd E before c.next_part.new.self = no_part_ends E c.next_part.new.terms before c.next_part.new.self c.in_ok-part.field-0 c.in_default.not-Some c.in_ok-part.ensures.next in
    let all = all_carried E (proof_for c.in_ok-proofs.proofs) (entries_of c.parts.entries.items) _ (next_number before) (conditions_left E before) none.nothing c.parts.invariant
    ∙ same_carried E (proof_for c.in_ok-proofs.proofs) (carried_proof D es E) 0 (conditions E) c.in_ok-proofs.ensures in
    subst HaveFewSteps (sym all) (few_carried D es E few)

pub parts-preserved : goal.parts-preserved
parts-preserved c =
    let E = development_view c.args.development.now in
    let f = proof_for c.in_ok-proofs.proofs in
    let ts = c.next_part.new.terms in
    let before = c.parts.stream in
    let after = c.next_part.new.self in
    let items = c.in-Some.part.items in
    let old = entries_of c.parts.entries.items in
    let next : IsPart E ts before after items = subst (λ (o : Option (Vec Condition Global)). IsNextPart E ts before after o) c.in-Some.is c.in_ok-part.ensures.next in
    let number : next_number after ≡ next_number before + length (map (condition_in ts) items) = next.number ∙ ap (λ n. next_number before + n) (sym (length-map items (condition_in ts))) in
    let more = c.in_ok-push_part.ensures
    ∙ ap (λ n. old ++ carried_from E f n (map (condition_in ts) c.deref.result.now)) c.first_number-first.ensures
    ∙ ap (λ (l : List Condition). old ++ carried_from E f (next_number before) (map (condition_in ts) l)) c.deref.ensures.value in
    part_carried E f old (entries_of c.push_part.new.entries.items) _ (next_number before) (next_number after)
    (conditions_left E before) (map (condition_in ts) items) (conditions_left E after) next.left number more c.parts.invariant
