-- Events that follow one another, with the table of the calls in which clients are.
use Rattle.std.proofs.Common.{◌≡◌, ℕ, suc, ◌+◌, ◌≤◌, ◌==◌, Bool, true, false, not, cond, List, [], ◌∷◌, ◌++◌, Option, Some, None, option_map, option_and_then, if◌then◌else◌, codes, is_some, take, slice_get, length, refl, ap, sym, subst, ◌∙◌, arith, add-one}
use Rattle.std.specs.Prelude.{nat_le}
use Rattle.std.proofs.lemmas.Bool.{leb-true}
use Rattle.serde_json.specs.Data.{Data, Items}
use Rattle.serde_json.specs.Find.{as_number, as_u64, as_array}
use Rattle.lc_lemmas.proofs.Lists.{get_last}
use Rattle.lc_base.specs.declared.ids.OpId.{OpId}
use Rattle.lc_history.specs.Limits.{client_limit}
use Rattle.lc_seq.specs.Sequential.{Call}
use Rattle.lc_seq.specs.Specification.{Operation}
use Rattle.lc_history.specs.History.{Event, Called, Replied, pending_of, count}
use Rattle.lc_hist.specs.JsonHistories.{IsNext, AreNext, IsCounted}
use Rattle.lc_hist.specs.JsonSeen.{may_follow, opened, number_of}
use Rattle.lc_hist.specs.JsonValues.{values_in, client_in, client_within, is_word, numbers_in, call_in, invoke_from, respond_from, event_from, event_in, has_replies}
use Rattle.lc_history.specs.WellFormed.{client_of, begins, IsInTurn}
use Rattle.lc_history.proofs.Turns.{AreBusy, is_in_turn, is_out_of_turn, eq_swapped, busy_next}
use Rattle.lc_hist.proofs.JsonLists.{both_parts}

-- after these events each client is in a call of the operation in the table
pub record AreOpen (events : List Event) (table : ℕ → Option ℕ) : Type 0 where
  pub pending : (c : ℕ) → option_map (λ call. call.op) (pending_of c None events) ≡ table c
  pub busy : AreBusy events (λ c. is_some (table c))

-- one event more
pub next_event : (operations : List Operation) (before : List Event) (ds : List Data) (all : List Event) (d : Data) (e : Event)
    → AreNext operations before ds all → IsNext operations all d e → AreNext operations before (ds ++ d ∷ []) (all ++ e ∷ [])
next_event operations before [] all d e are next =
    (e, subst (λ z. IsNext operations z d e) (sym are) next, ap (λ z. z ++ e ∷ []) are)
next_event operations before (x ∷ ds) all d e are next =
    (are.0, are.1, next_event operations (before ++ are.0 ∷ []) ds all d e are.2 next)

pending_on : (b : Bool) (p q : Option Call) (c : ℕ) (h xs : List Event) → (pending_of c p (h ++ xs) ≡ pending_of c (pending_of c p h) xs) → (pending_of c q (h ++ xs) ≡ pending_of c (pending_of c q h) xs)
    → cond b (pending_of c p (h ++ xs)) (pending_of c q (h ++ xs)) ≡ pending_of c (cond b (pending_of c p h) (pending_of c q h)) xs
pending_on true p q c h xs e f = e
pending_on false p q c h xs e f = f

pub pending_of-append : (c : ℕ) (now : Option Call) (h xs : List Event) → pending_of c now (h ++ xs) ≡ pending_of c (pending_of c now h) xs
pending_of-append c now [] xs = refl
pending_of-append c now (Called d call ∷ h) xs = pending_on (d == c) (Some call) now c h xs (pending_of-append c (Some call) h xs) (pending_of-append c now h xs)
pending_of-append c now (Replied d reply ∷ h) xs = pending_on (d == c) None now c h xs (pending_of-append c None h xs) (pending_of-append c now h xs)

pending_next : (b : Bool) (p q : Option Call) → option_map (λ call. call.op) (cond b p q) ≡ cond b (option_map (λ call. call.op) p) (option_map (λ call. call.op) q)
pending_next true p q = refl
pending_next false p q = refl

last_pending : (c : ℕ) (now : Option Call) (e : Event) → option_map (λ call. call.op) (pending_of c now (e ∷ [])) ≡ cond (c == client_of e) (opened e) (option_map (λ call. call.op) now)
last_pending c now (Called d call) = pending_next (d == c) (Some call) now ∙ ap (λ b. cond b (Some call.op) (option_map (λ k. k.op) now)) (eq_swapped d c)
last_pending c now (Replied d reply) = pending_next (d == c) None now ∙ ap (λ b. cond b None (option_map (λ k. k.op) now)) (eq_swapped d c)

-- the operation in whose call each client is, by the events alone
abbrev pub table_by : List Event → ℕ → Option ℕ
table_by events c = option_map (λ call. call.op) (pending_of c None events)

pub table_next : (events : List Event) (e : Event) (c : ℕ) → table_by (events ++ e ∷ []) c ≡ cond (c == client_of e) (opened e) (table_by events c)
table_next events e c = ap (option_map (λ call. call.op)) (pending_of-append c None events (e ∷ [])) ∙ last_pending c (pending_of c None events) e

pub take_front : {A : Type 0} (xs ys : List A) → take (length xs) (xs ++ ys) ≡ xs
take_front [] ys = refl
take_front (x ∷ xs) ys = ap (λ zs. x ∷ zs) (take_front xs ys)

take_whole : {A : Type 0} (xs : List A) (y : A) → take (suc (length xs)) (xs ++ y ∷ []) ≡ xs ++ y ∷ []
take_whole [] y = refl
take_whole (x ∷ xs) y = ap (λ zs. x ∷ zs) (take_whole xs y)

pub take_all_one_more : {A : Type 0} (xs : List A) (y : A) → take (length xs + 1) (xs ++ y ∷ []) ≡ xs ++ y ∷ []
take_all_one_more xs y = rw add-one (take_whole xs y)

some_case : (b : Bool) (p q : Option ℕ) → is_some (cond b p q) ≡ cond b (is_some p) (is_some q)
some_case true p q = refl
some_case false p q = refl

opens : (e : Event) → is_some (opened e) ≡ begins e
opens (Called c call) = refl
opens (Replied c reply) = refl

pub may_follow_busy : (operations : List Operation) (now : Option ℕ) (e : Event) → may_follow operations now e ≡ true → is_some now ≡ not (begins e)
may_follow_busy operations None (Called c call) h = refl
may_follow_busy operations None (Replied c reply) h = absurd cc
may_follow_busy operations (Some op) (Called c call) h = absurd cc
may_follow_busy operations (Some op) (Replied c reply) h = refl

-- the table after one event more
pub open_next : (events : List Event) (table next : ℕ → Option ℕ) (e : Event) → AreOpen events table → is_some (table (client_of e)) ≡ not (begins e)
    → ((c : ℕ) → next c ≡ cond (c == client_of e) (opened e) (table c)) → AreOpen (events ++ e ∷ []) next
open_next events table next e are turn nexts = record {
  pending = λ c. ap (option_map (λ call. call.op)) (pending_of-append c None events (e ∷ [])) ∙ last_pending c (pending_of c None events) e
      ∙ ap (λ z. cond (c == client_of e) (opened e) z) (are.pending c) ∙ sym (nexts c);
  busy =
      let before : AreBusy (take (length events) (events ++ e ∷ [])) (λ c. is_some (table c)) =
      subst (λ h. AreBusy h (λ c. is_some (table c))) (sym (take_front events (e ∷ []))) are.busy in
      let after = busy_next (events ++ e ∷ []) (length events) e (λ c. is_some (table c)) (λ c. is_some (next c)) before (get_last events e) turn
      (λ c. ap is_some (nexts c) ∙ some_case (c == client_of e) (opened e) (table c) ∙ ap (λ z. cond (c == client_of e) z (is_some (table c))) (opens e)) in
      subst (λ h. AreBusy h (λ c. is_some (next c))) (take_all_one_more events e) after;
}

counted : (operations : List Operation) (events : List Event) (table : ℕ → Option ℕ) (e : Event) → AreOpen events table → may_follow operations (table (client_of e)) e ≡ true → IsCounted operations events e
counted operations events table (Called c call) are h = tt
counted operations events table (Replied c reply) are h = λ call is.
    let found : table c ≡ Some call.op = sym (are.pending c) ∙ ap (option_map (λ k. k.op)) is in
    rw found at h

-- an event that may follow is the next
pub is_next : (operations : List Operation) (events : List Event) (table : ℕ → Option ℕ) (d : Data) (e : Event) → AreOpen events table → event_in operations d ≡ Some e
    → client_of e ≤ client_limit → may_follow operations (table (client_of e)) e ≡ true → IsNext operations events d e
is_next operations events table d e are form le may = record {
  form = form;
  turn = is_in_turn events e (λ c. is_some (table c)) are.busy le (may_follow_busy operations (table (client_of e)) e may);
  count = counted operations events table e are may;
}

pending_found : (o : Option Call) (op : ℕ) → option_map (λ call. call.op) o ≡ Some op → (call : Call) × (o ≡ Some call) × (call.op ≡ op)
pending_found None op h = absurd cc
pending_found (Some call) op h = (call, refl, cc)

may : (operations : List Operation) (events : List Event) (table : ℕ → Option ℕ) (e : Event) (now : Option ℕ) → table (client_of e) ≡ now → AreOpen events table → IsInTurn events e → IsCounted operations events e
    → may_follow operations now e ≡ true
may operations events table (Called c call) None is are turn count = refl
may operations events table (Replied c reply) None is are turn count =
    absurd (is_out_of_turn events (Replied c reply) (λ d. is_some (table d)) are.busy (ap is_some is) turn)
may operations events table (Called c call) (Some op) is are turn count =
    absurd (is_out_of_turn events (Called c call) (λ d. is_some (table d)) are.busy (ap is_some is) turn)
may operations events table (Replied c reply) (Some op) is are turn count =
    let found = pending_found (pending_of c None events) op (are.pending c ∙ is) in
    subst (λ k. has_replies (slice_get operations k) (length reply) ≡ true) found.2 (count found.0 found.1)

-- one that may not is not
pub is_no_next : (operations : List Operation) (events : List Event) (table : ℕ → Option ℕ) (d : Data) (e : Event) → AreOpen events table → event_in operations d ≡ Some e
    → may_follow operations (table (client_of e)) e ≡ false → (f : Event) → IsNext operations events d f → ⊥
is_no_next operations events table d e are form may_not f next =
    let same : e ≡ f = cc (form, next.form) in
    let turn = subst (λ z. IsInTurn events z) (sym same) next.turn in
    let count = subst (λ z. IsCounted operations events z) (sym same) next.count in
    let yes = may operations events table e (table (client_of e)) refl are turn count in
    absurd (cc (yes, may_not))

pub number_cond : (b : Bool) (o p : Option OpId) → number_of (cond b o p) ≡ cond b (number_of o) (number_of p)
number_cond true o p = refl
number_cond false o p = refl

limit_case : (n k : ℕ) (b : Bool) → nat_le n client_limit ≡ b → cond b (Some n) None ≡ Some k → k ≤ client_limit
limit_case n k true is h = let same : n ≡ k = cc in let le = leb-true n client_limit is in omega arith
limit_case n k false is h = absurd cc

client_kept : (o : Option ℕ) (k : ℕ) → option_and_then client_within o ≡ Some k → k ≤ client_limit
client_kept None k h = absurd cc
client_kept (Some n) k h = limit_case n k (nat_le n client_limit) refl h

mapped_limit : {X : Type 0} (f : ℕ → X → Event) → ((n : ℕ) (x : X) → client_of (f n x) ≡ n) → (client : Data) (o : Option X) (e : Event)
    → option_and_then (λ n. option_map (f n) o) (client_in client) ≡ Some e → client_of e ≤ client_limit
mapped_limit f keeps client o e h =
    let parts = both_parts f (client_in client) o e h in
    let le = client_kept (option_and_then as_u64 (as_number client)) parts.0 parts.2 in
    omega (arith, keeps parts.0 parts.1, ap client_of parts.4)

chosen : {X : Type 0} (b : Bool) (o : Option X) (x : X) → (if b then o else None) ≡ Some x → o ≡ Some x
chosen true o x h = h
chosen false o x h = absurd cc

limit_from : (operations : List Operation) (ds : List Data) (e : Event) → event_from operations ds ≡ Some e → client_of e ≤ client_limit
limit_from operations [] e h = absurd cc
limit_from operations (a ∷ []) e h = absurd cc
limit_from operations (a ∷ b ∷ []) e h = absurd cc
limit_from operations (a ∷ b ∷ c ∷ []) e h = mapped_limit Replied (λ n x. refl) a (numbers_in c) e (chosen (is_word (codes "return") b) (respond_from a c) e h)
limit_from operations (a ∷ b ∷ c ∷ d ∷ []) e h = mapped_limit Called (λ n x. refl) a (call_in operations c d) e (chosen (is_word (codes "call") b) (invoke_from operations a c d) e h)
limit_from operations (a ∷ b ∷ c ∷ d ∷ x ∷ ds) e h = absurd cc

array_limit : (operations : List Operation) (o : Option Items) (e : Event) → option_and_then (λ ds. event_from operations (values_in ds)) o ≡ Some e → client_of e ≤ client_limit
array_limit operations None e h = absurd cc
array_limit operations (Some ds) e h = limit_from operations (values_in ds) e h

-- the client of an event is within the limit
pub within_limit : (operations : List Operation) (d : Data) (e : Event) → event_in operations d ≡ Some e → client_of e ≤ client_limit
within_limit operations d e h = array_limit operations (as_array d) e h
