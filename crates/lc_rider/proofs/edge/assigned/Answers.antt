use Rattle.std.proofs.Common.{◌≤◌, ◌<◌, ◌+◌, List, length, map, drop, get_or, refl, sym, ap, ◌∙◌, arith}
use Rattle.std.proofs.lemmas.Bool.Decides.{nat_tests}
use Rattle.std.proofs.Math.ListN.{drop_of_length-le}
use Rattle.std.specs.Prelude.{slice_set}
use Rattle.lc_term.specs.Syntax as S
use Rattle.lc_term.specs.Updates.{assigned}
use Rattle.lc_term.specs.View.{term_of}
use Rattle.lc_term.specs.declared.term.Term.{Term}
use Rattle.lc_object.specs.View.{locals_of, terms_of}
use Rattle.lc_object.specs.declared.instr.LocalId.{LocalId}
use Rattle.lc_rider.proofs.Assigned.{assigned_none, assigned_more}
use Rattle.lc_rider.proofs.edge.assigned.Goals as goal

pub returns-in_default : goal.returns-in_default
returns-in_default c =
    let test = c.in_default.ensures.lookup.0 in
    let past : length c.args.values.now ≤ c.loop-i.i = grind (arith, nat_tests) in
    sym (ap (λ (vs : List Term). assigned (map term_of c.loop-i.terms.items) (locals_of (drop c.loop-i.i c.args.targets.now)) (terms_of vs)) (drop_of_length-le c.args.values.now past)
    ∙ assigned_none (map term_of c.loop-i.terms.items) (locals_of (drop c.loop-i.i c.args.targets.now)))
    ∙ c.loop-i.invariant

pub loop-i-preserved : goal.loop-i-preserved
loop-i-preserved c =
    let test = c.in-Some.ensures.lookup.0 in
    let there : c.loop-i.i < length c.args.values.now = grind (arith, nat_tests) in
    let r : LocalId = get_or c.args.targets.now c.loop-i.i (record { 0 = 0 }) in
    ap (λ (xs : List S.Term). assigned xs (locals_of (drop (c.loop-i.i + 1) c.args.targets.now)) (terms_of (drop (c.loop-i.i + 1) c.args.values.now)))
    (c.put-terms.ensures ∙ ap (slice_set (map term_of c.loop-i.terms.items) r.0) c.in_ok-try_clone.ensures)
    ∙ (sym (assigned_more (map term_of c.loop-i.terms.items) c.args.targets.now c.args.values.now c.loop-i.i r c.in-Some.value.now c.loop-i-test.true refl there c.in-Some.ensures.lookup.1)
    ∙ c.loop-i.invariant)
