use Rattle.std.proofs.Common.{◌+◌, ◌∷◌, drop, length, refl, sym, ap, ◌∙◌, subst}
use Rattle.lc_kernel.specs.View.{proof_of}
use Rattle.lc_outline.specs.DevelopmentView.{development_view}
use Rattle.lc_cert.specs.Certificates.{Entry}
use Rattle.lc_cond.specs.ConditionView.{condition_in, AreConditions}
use Rattle.lc_check.proofs.Walking.{first_left, due_behind, next_due, next_bounded, still_due, one_proved, still_at_due, refused_on}
use Rattle.lc_check.specs.declared.walk.Walk.{Walk}
use Rattle.lc_check.proofs.walk.Walk.prove_next_by.Goals as goal
use Rattle.lc_cond.proofs.Adding.{are_later}

pub prove-requires-clause-bounded : goal.prove-requires-clause-bounded
prove-requires-clause-bounded g c =
    let d = development_view c.args.development.now in
    let old = c.args.self.now in
    let x = c.index-condition.result.now in
    let rest = drop (old.place + 1) old.part.items in
    let left = first_left old.part.items old.place x c.requires.stands c.index-condition.ensures in
    next_bounded d c.requires.in_turn.0 old (condition_in old.terms x) (due_behind d old.terms rest old) c.conditions_use_their_variables.ensures c.conditions_have_few_variables.ensures c.requires.in_turn.1
    (next_due d old x rest left)

pub returns-in_ok-self-in-Ok : goal.returns-in_ok-self-in-Ok
returns-in_ok-self-in-Ok g c =
    let d = development_view c.args.development.now in
    let old = c.args.self.now in
    let x = c.index-condition.result.now in
    let seen = condition_in old.terms x in
    let e : Entry = record { number = old.next; proof = proof_of c.args.proof.now } in
    let new : Walk = record { stream = old.stream; terms = c.prove.new.terms; most = old.most; part = old.part; place = old.place + 1; next = c.in_ok-self-in-Ok.field-0 } in
    let rest = drop (old.place + 1) old.part.items in
    let left = first_left old.part.items old.place x c.requires.stands c.index-condition.ensures in
    let known = subst (AreConditions old.terms) left c.requires.in_turn.1.known in
    let kept = c.prove.ensures.kept in
    let due = next_due d old x rest left ∙ ap (λ l. seen ∷ l) (still_due d old new rest refl refl known.1 kept) in
    let fewer = ap length due in
    record {
      taken = λ es h. one_proved d es old new seen e h due refl c.in_ok-self-in-Ok.ensures c.in-Ok.ensures.exactly (are_later old.terms new.terms rest known.1 kept);
      fewer = sym fewer;
    }

pub returns-in-Err : goal.returns-in-Err
returns-in-Err g c =
    let d = development_view c.args.development.now in
    let old = c.args.self.now in
    let new : Walk = record { stream = old.stream; terms = c.prove.new.terms; most = old.most; part = old.part; place = old.place; next = old.next } in
    let x = c.index-condition.result.now in
    let rest = drop (old.place + 1) old.part.items in
    let left = first_left old.part.items old.place x c.requires.stands c.index-condition.ensures in
    refused_on d old new (condition_in old.terms x) (due_behind d old.terms rest old) (proof_of c.args.proof.now) c.in-Err.fault (next_due d old x rest left)
    (still_at_due d old new refl refl refl refl c.requires.in_turn.1.known c.prove.ensures.kept) c.requires.stands c.in-Err.ensures.exactly
