-- What is returned when deeds are done.
use Rattle.std.proofs.Common.{◌≡◌, ℕ, Bool, true, false, List, [], ◌∷◌, ◌++◌, ℤ, pos, Option, Some, None, Result, Ok, Err, option_map, cond, refl, sym, ap, subst, ◌∙◌}
use Rattle.std.specs.Prelude.{FitsSigned, IsErrAnd}
use Rattle.std.specs.Int.{w64}
use Rattle.std.specs.Option.{option_and_then}
use Rattle.std.specs.Ordering.{int_eq}
use Rattle.std.proofs.lemmas.Bool.{false≢true}
use Rattle.std.proofs.lemmas.Bool.Decides.{Decides-int_eq}
use Rattle.std.proofs.lemmas.List.{map-append}
use Rattle.lc_term.specs.Computed.{IsComputed}
use Rattle.lc_term.specs.Meaning.{State}
use Rattle.lc_term.specs.SystemColumns.{op_column}
use Rattle.lc_term.specs.Updates.{Write, stored_all}
use Rattle.lc_term.specs.UpdateView.{writes_view}
use Rattle.lc_term.proofs.Stores.{stored-append}
use Rattle.lc_action.specs.ActionView.{first_of}
use Rattle.lc_seq.specs.Run.{seq_says, outcome_in}
use Rattle.lc_seq.specs.SpecView.{operations_of, choice_of}
use Rattle.lc_seq.specs.declared.choice.Pick.{Pick}
use Rattle.lc_seq.specs.declared.running.Outcome.{Outcome}
use Rattle.lc_seq.specs.Sequential.{Choice}
use Rattle.lc_seq.specs.Specification.{Operation}
use Rattle.lc_seq.specs.declared.fault.SeqFault.{SeqFault}
use Rattle.lc_seq.specs.declared.fault.SeqFault.TheVariants.{Overflow, OutOfMemory}
use Rattle.lc_rider.specs.Rider.{mark_writes, note_writes}
use Rattle.lc_ride.specs.Calls.{Settles, Notes}
use Rattle.lc_ride.specs.Riding.{Ridden, taken, settle, settling, note, noting, help}
use Rattle.lc_ride.specs.RidingFits.{TakenFits, HelpFits}
use Rattle.lc_ride.specs.RideView.{IsRidden, mark_of, marks_of}
use Rattle.lc_ride.specs.declared.marks.Mark.{Mark}
use Rattle.lc_ride.specs.declared.settling.Call.{Call}

pub marks-more : (before after : List Mark) (x : Mark) → after ≡ before ++ x ∷ [] → marks_of after ≡ marks_of before ++ mark_of x ∷ []
marks-more before after x e = ap marks_of e ∙ map-append mark_of before (x ∷ [])

-- a fault of what is reached later
pub says-less : (all fits : Type 0) (fault : SeqFault) → (all → fits) → seq_says fault fits → seq_says fault all
says-less all fits Overflow f h = λ a. h (f a)
says-less all fits OutOfMemory f h = tt

-- a fault that is handed on, of what is reached first
pub fault_is_ridden : (all fits : Type 0) (wanted : Option Ridden) (before after : List Mark) (m : State) (r : Result Bool SeqFault) (fault : SeqFault) →
    IsErrAnd r (λ y. y ≡ fault) → (all → fits) → seq_says fault fits → IsRidden all wanted before after m r
fault_is_ridden all fits wanted before after m (Ok x) fault e first says = absurd e
fault_is_ridden all fits wanted before after m (Err y) fault e first says = subst (λ z. seq_says z all) (sym e) (says-less all fits fault first says)

-- ---- the call that takes effect or is noted, in columns that are a state's

module _ (call : Call) (s m : State) (at : s ≡ m) (pick : Pick) where
  -- what it takes in these columns
  abbrev Takes : State → Result (Option Outcome) SeqFault → Type 0
  Takes z =
      let ops = operations_of call.operations.now in
      let first = first_of call.system in
      IsComputed seq_says outcome_in (TakenFits ops first z call.client call.operation.0 (choice_of pick)) (taken ops first z call.client call.operation.0 (choice_of pick))

  here : (found said : Option Outcome) → found ≡ said → Takes s (Ok found) → Takes m (Ok said)
  here found said is known = subst (λ z. Takes z (Ok said)) at (subst (λ f. Takes s (Ok f)) is known)

  pub untaken : (wanted : Option Ridden) (before : List Mark) (r : Result Bool SeqFault) (fault : SeqFault) → IsErrAnd r (λ y. y ≡ fault) → Takes s (Err fault) →
      IsRidden (TakenFits (operations_of call.operations.now) (first_of call.system) m call.client call.operation.0 (choice_of pick)) wanted before before m r
  untaken wanted before r fault e known =
      let fits : State → Type 0 = λ z. TakenFits (operations_of call.operations.now) (first_of call.system) z call.client call.operation.0 (choice_of pick) in
      fault_is_ridden (fits m) (fits m) wanted before before m r fault e (λ h. h) (subst (λ z. seq_says fault (fits z)) at known)

  pub not-settled : (before : List Mark) (found : Option Outcome) → found ≡ None → Takes s (Ok found) → Settles call m (choice_of pick) before before m (Ok false)
  not-settled before found is known =
      let k = here found None is known in
      (k.0, ap (option_map (settling (operations_of call.operations.now) (first_of call.system) m call.client (choice_of pick))) (sym k.1))

  pub not-noted : (before : List Mark) (found : Option Outcome) → found ≡ None → Takes s (Ok found) → Notes call m (choice_of pick) before before m (Ok false)
  not-noted before found is known =
      let k = here found None is known in
      (k.0, ap (option_and_then (λ (r : List Write × List ℤ). noting (operations_of call.operations.now) (first_of call.system) m call.client (choice_of pick) r.0 r.1)) (sym k.1))

  module _ (found : Option Outcome) (outcome : Outcome) (is : found ≡ Some outcome) (known : Takes s (Ok found)) where
    abbrev ws : List Write
    ws = writes_view outcome.writes.items

    abbrev reply : List ℤ
    reply = outcome.replies.items

    abbrev the_mark : Bool → Mark
    the_mark by_note = record { client = call.client; note = by_note; choice = pick; reply = outcome.replies }

    pub settled : (before after : List Mark) (end : State) → after ≡ before ++ the_mark false ∷ [] → end ≡ stored_all (stored_all m ws) (mark_writes (first_of call.system) call.client reply) →
        Settles call m (choice_of pick) before after end (Ok true)
    settled before after end marks columns =
        let k = here found (Some outcome) is known in
        let to : end ≡ stored_all m (ws ++ mark_writes (first_of call.system) call.client reply) = columns ∙ sym (stored-append m ws (mark_writes (first_of call.system) call.client reply)) in (
          k.0,
          (
            mark_of (the_mark false) ∷ [],
            ap (option_map (settling (operations_of call.operations.now) (first_of call.system) m call.client (choice_of pick))) (sym k.1) ∙ ap (λ (t : State). let r : Ridden = (mark_of (the_mark false) ∷ [], t) in Some r) (sym to),
            marks-more before after (the_mark false) marks,
          ),
        )

    noting_now : note (operations_of call.operations.now) (first_of call.system) m call.client call.operation.0 (choice_of pick) ≡ noting (operations_of call.operations.now) (first_of call.system) m call.client (choice_of pick) ws reply
    noting_now = ap (option_and_then (λ (r : List Write × List ℤ). noting (operations_of call.operations.now) (first_of call.system) m call.client (choice_of pick) r.0 r.1)) (sym (here found (Some outcome) is known).1)

    pub noted : (before after : List Mark) (end : State) → ws ≡ [] → after ≡ before ++ the_mark true ∷ [] → end ≡ stored_all m (note_writes (first_of call.system) call.client reply) →
        Notes call m (choice_of pick) before after end (Ok true)
    noted before after end none marks columns = (
      (here found (Some outcome) is known).0,
      (
        mark_of (the_mark true) ∷ [],
        noting_now ∙ (ap (λ us. noting (operations_of call.operations.now) (first_of call.system) m call.client (choice_of pick) us reply) none ∙ ap (λ (t : State). let r : Ridden = (mark_of (the_mark true) ∷ [], t) in Some r) (sym columns)),
        marks-more before after (the_mark true) marks,
      ),
    )

    -- by a branch that stores something
    pub stores-much : (before : List Mark) → (ws ≡ [] → ⊥) → Notes call m (choice_of pick) before before m (Ok false)
    stores-much before some = ((here found (Some outcome) is known).0, noting_now ∙ nothing ws some)
      where
        nothing : (us : List Write) → (us ≡ [] → ⊥) → noting (operations_of call.operations.now) (first_of call.system) m call.client (choice_of pick) us reply ≡ None
        nothing [] h = absurd (h refl)
        nothing (u ∷ us) h = refl

-- ---- the call of another client

module _ (operations : List Operation) (first : ℕ) (m : State) (p : ℕ) (choice : Choice) where
  pub helped : (c : ℕ) (x : ℤ) (before after : List Mark) (m' : State) (r : Result Bool SeqFault) → x ≡ pos c →
      FitsSigned w64 (m (op_column first) (pos c)) → int_eq (m (op_column first) (pos c)) (pos p) ≡ true →
      IsRidden (TakenFits operations first m c p choice) (settle operations first m c p choice) before after m' r →
      IsRidden (HelpFits operations first m x p choice) (help operations first m x p choice) before after m' r
  helped c x before after m' r is fits equal done =
      subst (λ z. IsRidden (HelpFits operations first m z p choice) (help operations first m z p choice) before after m' r) (sym is) (at r done)
    where
      same : help operations first m (pos c) p choice ≡ settle operations first m c p choice
      same = ap (λ b. cond b (settle operations first m c p choice) None) equal

      at : (r : Result Bool SeqFault) → IsRidden (TakenFits operations first m c p choice) (settle operations first m c p choice) before after m' r →
          IsRidden (HelpFits operations first m (pos c) p choice) (help operations first m (pos c) p choice) before after m' r
      at (Ok true) (f, (ms, e, a)) = ((fits, λ _. f), (ms, same ∙ e, a))
      at (Ok false) (f, e) = ((fits, λ _. f), same ∙ e)
      at (Err fault) h = says-less (HelpFits operations first m (pos c) p choice) (TakenFits operations first m c p choice) fault (λ t. t.1 ((Decides-int_eq (m (op_column first) (pos c)) (pos p)).0 equal)) h

  pub not-named : (c : ℕ) (x : ℤ) → x ≡ pos c → FitsSigned w64 (m (op_column first) (pos c)) → int_eq (m (op_column first) (pos c)) (pos p) ≡ false →
      HelpFits operations first m x p choice × (help operations first m x p choice ≡ None)
  not-named c x is fits differs =
      subst (λ z. HelpFits operations first m z p choice × (help operations first m z p choice ≡ None)) (sym is)
      ((fits, λ e. absurd (false≢true (sym differs ∙ (Decides-int_eq (m (op_column first) (pos c)) (pos p)).1 e))), ap (λ b. cond b (settle operations first m c p choice) None) differs)
