use Rattle.std.proofs.Common.{◌≡◌, Some, Err, option_map, sym, ap, ◌∙◌, subst}
use Rattle.std.specs.Borrow.{Bor}
use Rattle.lc_kernel.specs.View.{proof_of}
use Rattle.lc_kernel.specs.declared.proof.Proof.{Proof}
use Rattle.lc_outline.specs.DevelopmentView.{development_view}
use Rattle.lc_cert.specs.Certificates.{proof_at}
use Rattle.lc_check.proofs.Walking.{same_due}
use Rattle.lc_check.specs.Walking.{IsProvenOn}
use Rattle.lc_find.proofs.FirstHints.{not_hinted, none_hinted}
use Rattle.lc_find.proofs.Places.{none_of_map}
use Rattle.lc_find.specs.FirstView.{all_of}
use Rattle.lc_find.proofs.taking.hinted_entry.Goals as goal
use Rattle.lc_carry.proofs.Few.{few_at}

pub prove_next-requires-clause-steps : goal.prove_next-requires-clause-steps
prove_next-requires-clause-steps c =
    let hs = all_of c.args.first.now in
    let number = c.args.walk.now.next in
    let p = proof_of c.in-Some.proof.now in
    let hint : proof_at hs number ≡ Some p = sym c.first.ensures ∙ ap (option_map (λ (q : Bor Proof). proof_of q.now)) c.in-Some.is in
    few_at hs number p c.requires.steps hint

pub returns-in_default : goal.returns-in_default
returns-in_default c =
    let d = development_view c.args.development.now in
    let hs = all_of c.args.first.now in
    let old = c.args.walk.now in
    let none = none_of_map (λ (p : Bor Proof). proof_of p.now) c.first.result (proof_at hs old.next) c.first.ensures c.in_default.not-Some in
    (same_due d old, c.requires.stands, none_hinted d hs old.next none)

pub returns-in-Err-Refused : goal.returns-in-Err-Refused
returns-in-Err-Refused c =
    let d = development_view c.args.development.now in
    let hs = all_of c.args.first.now in
    let old = c.args.walk.now in
    let new = c.prove_next.new.self in
    let p = proof_of c.in-Some.proof.now in
    let hint : proof_at hs old.next ≡ Some p = sym c.first.ensures ∙ ap (option_map (λ (q : Bor Proof). proof_of q.now)) c.in-Some.is in
    let on = subst (IsProvenOn d p old new) (c.in-Err-Refused.is ∙ ap Err c.in-Err-Refused.field-0-is) c.prove_next.ensures in
    let (x, rest, due, u) = on.2 in
    (on.0, on.1, not_hinted d hs c.requires.in_turn.0 old x rest p c.in-Err-Refused.field-0-0 c.requires.in_turn.1 due hint u)
