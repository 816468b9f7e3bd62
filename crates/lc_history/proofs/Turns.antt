-- Events in turn, and which clients are in a call after them.
use Rattle.std.proofs.Common.{◌≡◌, ℕ, zero, suc, ◌+◌, ◌<◌, ◌≤◌, Bool, true, false, not, ◌==◌, option_map, add-one, cond, List, [], ◌∷◌, Some, take, slice_get, length, get_or, refl, ap, sym, subst, ◌∙◌, inl, inr, arith}
use mathlib.Core.Bool.{beq}
use Rattle.std.proofs.lemmas.Bool.{cases_order}
use Rattle.std.proofs.lemmas.Bool.Decides.{eqb_tells}
use Rattle.std.proofs.lemmas.Option.{slice_get-map, slice_get_read, slice_get_within}
use Rattle.lc_lemmas.proofs.Numbers.{equal_other_way}
use Rattle.lc_lemmas.proofs.Lists.{get_taken, take-take, within_taken}
use Rattle.lc_history.specs.Limits.{client_limit}
use Rattle.lc_history.specs.History.{Event, Called, Replied, is_call, is_return, count}
use Rattle.lc_history.specs.WellFormed.{client_of, begins, IsInTurn, IsWellFormed, IsFirstOutOfTurn}
use Rattle.lc_history.specs.View.{event_of, events_of}
use Rattle.lc_history.specs.declared.event.Event as R

pub eq_swapped : (c d : ℕ) → (c == d) ≡ (d == c)
eq_swapped c d =
    elim (eqb_tells c d) [
      | inl h ↦ subst (λ z. (c == z) ≡ (z == c)) h.1 refl
      | inr h ↦ elim (eqb_tells d c) [ inl k ↦ absurd (h.1 (sym k.1)) | inr k ↦ h.0 ∙ sym k.0 ]
    ]

-- one more element
pub count-take_suc : {A : Type 0} (test : A → Bool) (xs : List A) (i : ℕ) (x : A) → slice_get xs i ≡ Some x
    → count test (take (suc i) xs) ≡ cond (test x) (suc (count test (take i xs))) (count test (take i xs))
count-take_suc test [] i x at = absurd cc
count-take_suc test (y ∷ xs) zero x at = let e : y ≡ x = cc in ap (λ z. cond (test z) 1 0) e
count-take_suc test (y ∷ xs) (suc i) x at = step (test y) (test x) (count-take_suc test xs i x at)
  where
    step : (a b : Bool) → count test (take (suc i) xs) ≡ cond b (suc (count test (take i xs))) (count test (take i xs))
        → cond a (suc (count test (take (suc i) xs))) (count test (take (suc i) xs))
        ≡ cond b (suc (cond a (suc (count test (take i xs))) (count test (take i xs)))) (cond a (suc (count test (take i xs))) (count test (take i xs)))
    step true true h = ap suc h
    step true false h = ap suc h
    step false true h = h
    step false false h = h

-- these clients are in a call after the events
abbrev pub AreBusy : List Event → (ℕ → Bool) → Type 0
AreBusy h busy = (c : ℕ) → count (is_call c) h ≡ cond (busy c) (suc (count (is_return c) h)) (count (is_return c) h)

-- each event of the first n is in turn
abbrev pub IsFront : List Event → ℕ → Type 0
IsFront h n = (j : ℕ) (e : Event) → j < n → slice_get h j ≡ Some e → IsInTurn (take j h) e

pub beq_false_not : (a b : Bool) → beq a b ≡ false → a ≡ not b
beq_false_not true true h = absurd cc
beq_false_not true false h = refl
beq_false_not false true h = refl
beq_false_not false false h = absurd cc

pub beq_true_same : (a b : Bool) → beq a b ≡ true → a ≡ b
beq_true_same true true h = refl
beq_true_same true false h = absurd cc
beq_true_same false true h = absurd cc
beq_true_same false false h = refl

pub is_in_turn : (h : List Event) (e : Event) (busy : ℕ → Bool) → AreBusy h busy → client_of e ≤ client_limit → busy (client_of e) ≡ not (begins e) → IsInTurn h e
is_in_turn h (Called d call) busy are le is = record {
  called = λ c k same. let e : d ≡ c = cc in subst (λ z. count (is_call z) h ≡ count (is_return z) h) e (rw is at (are d));
  replied = λ c r same. absurd cc;
  client = le;
}
is_in_turn h (Replied d reply) busy are le is = record {
  called = λ c k same. absurd cc;
  replied = λ c r same. let e : d ≡ c = cc in subst (λ z. count (is_call z) h ≡ suc (count (is_return z) h)) e (rw is at (are d));
  client = le;
}

pub is_out_of_turn : (h : List Event) (e : Event) (busy : ℕ → Bool) → AreBusy h busy → busy (client_of e) ≡ begins e → IsInTurn h e → ⊥
is_out_of_turn h (Called d call) busy are is t = let a = rw is at (are d) in omega (arith, a, t.called d call refl)
is_out_of_turn h (Replied d reply) busy are is t = let a = rw is at (are d) in omega (arith, a, t.replied d reply refl)

pub front_next : (h : List Event) (n : ℕ) (e : Event) → IsFront h n → slice_get h n ≡ Some e → IsInTurn (take n h) e → IsFront h (n + 1)
front_next h n e front at t j f lt is =
    elim (cases_order j n) [
      | inl same ↦ let one : slice_get h n ≡ Some f = ap (λ z. slice_get h z) (sym same) ∙ is in
          let two : e ≡ f = cc in
          subst (λ z. IsInTurn (take z h) f) (sym same) (subst (λ z. IsInTurn (take n h) z) two t)
      | inr (inl less) ↦ front j f less is
      | inr (inr more) ↦ absurd (omega arith)
    ]

pub well_formed_front : (h : List Event) (n : ℕ) → IsFront h n → IsWellFormed (take n h)
well_formed_front h n front = record {
  in_turn = λ i e at.
      let lt = within_taken h n i e at in
      rw (take-take h n i (omega arith)) (front i e lt (sym (get_taken h n i lt) ∙ at));
}

pub well_formed : (h : List Event) (n : ℕ) → IsFront h n → length h ≤ n → IsWellFormed h
well_formed h n front le = record {
  in_turn = λ i e at. front i e (let lt = slice_get_within h i e at in omega arith) at;
}

pub first_out_of_turn : (h : List Event) (n : ℕ) (e : Event) → IsFront h n → slice_get h n ≡ Some e → (IsInTurn (take n h) e → ⊥) → IsFirstOutOfTurn h n
first_out_of_turn h n e front at out = record { event = e; stands = at; out = out; before = well_formed_front h n front }

step_called : (c d calls returns : ℕ) (is_busy : Bool) (b : Bool) → (c == d) ≡ b → (c ≡ d → is_busy ≡ false) → calls ≡ cond is_busy (suc returns) returns
    → cond b (suc calls) calls ≡ cond (cond b true is_busy) (suc returns) returns
step_called c d calls returns is_busy true e free are = ap suc (are ∙ ap (λ z. cond z (suc returns) returns) (free (equal_other_way d c e)))
step_called c d calls returns is_busy false e free are = are

step_replied : (c d calls returns : ℕ) (is_busy : Bool) (b : Bool) → (c == d) ≡ b → (c ≡ d → is_busy ≡ true) → calls ≡ cond is_busy (suc returns) returns
    → calls ≡ cond (cond b false is_busy) (suc (cond b (suc returns) returns)) (cond b (suc returns) returns)
step_replied c d calls returns is_busy true e free are = are ∙ ap (λ z. cond z (suc returns) returns) (free (equal_other_way d c e))
step_replied c d calls returns is_busy false e free are = are

step_busy : (h : List Event) (c : ℕ) (busy : ℕ → Bool) (e : Event) → busy (client_of e) ≡ not (begins e) → AreBusy h busy
    → cond (is_call c e) (suc (count (is_call c) h)) (count (is_call c) h)
    ≡ cond (cond (c == client_of e) (begins e) (busy c))
    (suc (cond (is_return c e) (suc (count (is_return c) h)) (count (is_return c) h)))
    (cond (is_return c e) (suc (count (is_return c) h)) (count (is_return c) h))
step_busy h c busy (Called d call) is are =
    rw (eq_swapped d c) (step_called c d (count (is_call c) h) (count (is_return c) h) (busy c) (c == d) refl (λ e. ap busy e ∙ is) (are c))
step_busy h c busy (Replied d reply) is are =
    rw (eq_swapped d c) (step_replied c d (count (is_call c) h) (count (is_return c) h) (busy c) (c == d) refl (λ e. ap busy e ∙ is) (are c))

pub busy_next : (h : List Event) (n : ℕ) (e : Event) (busy next : ℕ → Bool) → AreBusy (take n h) busy → slice_get h n ≡ Some e → busy (client_of e) ≡ not (begins e)
    → ((c : ℕ) → next c ≡ cond (c == client_of e) (begins e) (busy c)) → AreBusy (take (n + 1) h) next
busy_next h n e busy next are at is nexts c =
    let calls = count-take_suc (is_call c) h n e at in
    let returns = count-take_suc (is_return c) h n e at in
    rw (add-one n, calls, returns, nexts c) (step_busy (take n h) c busy e is are)

-- an event of the code, by its place
pub event_at : (events : List R.Event) (i : ℕ) (x : R.Event) → i < length events → x ≡ get_or events i x → slice_get (events_of events) i ≡ Some (event_of x)
event_at events i x lt is = slice_get-map event_of events i ∙ ap (option_map event_of) (slice_get_read events (length events) i x refl lt is)
