-- Where calls are in a history.
use Rattle.std.proofs.Common.{◌≡◌, ◌≢◌, ℕ, zero, suc, ◌+◌, ◌<◌, ◌≤◌, Bool, true, false, not, ◌==◌, cond, List, [], ◌∷◌, ◌++◌, ℤ, Option, Some, None, option_map, take, slice_get, get_or, set, length, refl, ap, sym, subst, ◌∙◌, inl, inr, add-one, append-nil, arith}
use Rattle.std.proofs.lemmas.Bool.{cases_order}
use Rattle.std.proofs.lemmas.Bool.Decides.{eqb_tells}
use Rattle.std.proofs.lemmas.Option.{slice_get-map, slice_get_read, slice_get_within, slice_get_past}
use Rattle.lc_lemmas.proofs.Numbers.{equal_to_itself}
use Rattle.lc_history.specs.History.{Event, Called, Replied, Entry, is_call, is_return, is_of, count}
use Rattle.lc_history.specs.WellFormed.{client_of, begins}
use Rattle.lc_history.specs.Spans.{places_from, span_at, span_of, calls_of, returns_of, AreClients, HaveSeen, one_more}
use Rattle.lc_history.specs.declared.spans.Client.{Client}
use Rattle.lc_history.specs.declared.spans.Span.{Span}
use Rattle.lc_history.specs.declared.event.Done.{Done}
use Rattle.lc_history.specs.View.{entry_of, entries_in}
use Rattle.lc_seq.specs.Sequential.{Call, Choice}
use Rattle.lc_history.specs.Tests.{named}
use Rattle.lc_history.proofs.Turns.{count-take_suc}

pub slice_get-set : {A : Type 0} (xs : List A) (i : ℕ) (x : A) → i < length xs → slice_get (set xs i x) i ≡ Some x
slice_get-set [] i x lt = absurd (omega arith)
slice_get-set (y ∷ xs) zero x lt = refl
slice_get-set (y ∷ xs) (suc i) x lt = slice_get-set xs i x (omega arith)

pub slice_get-set_other : {A : Type 0} (xs : List A) (i j : ℕ) (x : A) → j ≢ i → slice_get (set xs i x) j ≡ slice_get xs j
slice_get-set_other [] i j x ne = refl
slice_get-set_other (y ∷ xs) zero zero x ne = absurd (ne refl)
slice_get-set_other (y ∷ xs) zero (suc j) x ne = refl
slice_get-set_other (y ∷ xs) (suc i) zero x ne = refl
slice_get-set_other (y ∷ xs) (suc i) (suc j) x ne = slice_get-set_other xs i j x (λ e. ne (ap suc e))

pub slice_get-last : {A : Type 0} (xs : List A) (x : A) (i : ℕ) → i ≡ length xs → slice_get (xs ++ x ∷ []) i ≡ Some x
slice_get-last [] x zero e = refl
slice_get-last [] x (suc i) e = absurd (omega arith)
slice_get-last (y ∷ xs) x zero e = absurd (omega arith)
slice_get-last (y ∷ xs) x (suc i) e = slice_get-last xs x i (omega arith)

pub slice_get-front : {A : Type 0} (xs : List A) (x : A) (i : ℕ) → i < length xs → slice_get (xs ++ x ∷ []) i ≡ slice_get xs i
slice_get-front [] x i lt = absurd (omega arith)
slice_get-front (y ∷ xs) x zero lt = refl
slice_get-front (y ∷ xs) x (suc i) lt = slice_get-front xs x i (omega arith)

-- one more element
pub places_from-take_suc : {A : Type 0} (test : A → Bool) (m : ℕ) (xs : List A) (n : ℕ) (x : A) → slice_get xs n ≡ Some x
    → places_from test m (take (suc n) xs) ≡ places_from test m (take n xs) ++ cond (test x) ((m + n) ∷ []) []
places_from-take_suc test m [] n x at = absurd cc
places_from-take_suc {A = A} test m (y ∷ xs) zero x at =
    let e : y ≡ x = cc in
    let z : m ≡ m + 0 = omega arith in
    let P : A → List ℕ = λ v. cond (test v) (m ∷ []) [] in
    let Q : ℕ → List ℕ = λ k. cond (test x) (k ∷ []) [] in
    ap P e ∙ ap Q z
places_from-take_suc test m (y ∷ xs) (suc n) x at =
    let z : suc m + n ≡ m + suc n = omega arith in
    step (test y) (places_from-take_suc test (suc m) xs n x at ∙ ap (λ k. places_from test (suc m) (take n xs) ++ cond (test x) (k ∷ []) []) z)
  where
    step : (b : Bool) → places_from test (suc m) (take (suc n) xs) ≡ places_from test (suc m) (take n xs) ++ cond (test x) ((m + suc n) ∷ []) []
        → cond b (m ∷ places_from test (suc m) (take (suc n) xs)) (places_from test (suc m) (take (suc n) xs))
        ≡ cond b (m ∷ places_from test (suc m) (take n xs)) (places_from test (suc m) (take n xs)) ++ cond (test x) ((m + suc n) ∷ []) []
    step true h = ap (λ ys. m ∷ ys) h
    step false h = h

calls_itself : (e : Event) → is_call (client_of e) e ≡ begins e
calls_itself (Called c call) = equal_to_itself c
calls_itself (Replied c reply) = refl

returns_itself : (e : Event) → is_return (client_of e) e ≡ not (begins e)
returns_itself (Called c call) = refl
returns_itself (Replied c reply) = equal_to_itself c

other_client : (c d : ℕ) → c ≢ d → (d == c) ≡ false
other_client c d ne = elim (eqb_tells d c) [ inl h ↦ absurd (ne (sym h.1)) | inr h ↦ h.0 ]

calls_not : (c : ℕ) (e : Event) → c ≢ client_of e → is_call c e ≡ false
calls_not c (Called d call) ne = other_client c d ne
calls_not c (Replied d reply) ne = refl

returns_not : (c : ℕ) (e : Event) → c ≢ client_of e → is_return c e ≡ false
returns_not c (Called d call) ne = refl
returns_not c (Replied d reply) ne = other_client c d ne

turned : {A : Type 0} (b : Bool) (x y : A) → cond (not b) x y ≡ cond b y x
turned true x y = refl
turned false x y = refl

calls_next : (h : List Event) (n : ℕ) (e : Event) (clients : List Client) (old new : Client) → AreClients (take n h) clients → slice_get h n ≡ Some e
    → slice_get clients (client_of e) ≡ Some old → client_of e < length clients → new.calls.items ≡ old.calls.items ++ cond (begins e) (n ∷ []) []
    → (c : ℕ) → calls_of (slice_get (set clients (client_of e) new) c) ≡ places_from (is_call c) 0 (take (suc n) h)
calls_next h n e clients old new are at known lt noted c =
    elim (eqb_tells c (client_of e)) [
      | inl same ↦ subst (λ z. calls_of (slice_get (set clients (client_of e) new) z) ≡ places_from (is_call z) 0 (take (suc n) h)) (sym same.1)
          (ap calls_of (slice_get-set clients (client_of e) new lt) ∙ noted
          ∙ ap (λ ys. ys ++ cond (begins e) (n ∷ []) []) (sym (ap calls_of known) ∙ are.calls (client_of e))
          ∙ ap (λ b. places_from (is_call (client_of e)) 0 (take n h) ++ cond b (n ∷ []) []) (sym (calls_itself e))
          ∙ ap (λ k. places_from (is_call (client_of e)) 0 (take n h) ++ cond (is_call (client_of e) e) (k ∷ []) []) zero_more
          ∙ sym (places_from-take_suc (is_call (client_of e)) 0 h n e at))
      | inr other ↦ ap calls_of (slice_get-set_other clients (client_of e) c new other.1) ∙ are.calls c
          ∙ sym (append-nil (places_from (is_call c) 0 (take n h)))
          ∙ ap (λ b. places_from (is_call c) 0 (take n h) ++ cond b ((0 + n) ∷ []) []) (sym (calls_not c e other.1))
          ∙ sym (places_from-take_suc (is_call c) 0 h n e at)
    ]
  where
    zero_more : n ≡ 0 + n
    zero_more = omega arith

returns_next : (h : List Event) (n : ℕ) (e : Event) (clients : List Client) (old new : Client) → AreClients (take n h) clients → slice_get h n ≡ Some e
    → slice_get clients (client_of e) ≡ Some old → client_of e < length clients → new.returns.items ≡ old.returns.items ++ cond (begins e) [] (n ∷ [])
    → (c : ℕ) → returns_of (slice_get (set clients (client_of e) new) c) ≡ places_from (is_return c) 0 (take (suc n) h)
returns_next h n e clients old new are at known lt noted c =
    elim (eqb_tells c (client_of e)) [
      | inl same ↦ subst (λ z. returns_of (slice_get (set clients (client_of e) new) z) ≡ places_from (is_return z) 0 (take (suc n) h)) (sym same.1)
          (ap returns_of (slice_get-set clients (client_of e) new lt) ∙ noted
          ∙ ap (λ ys. ys ++ cond (begins e) [] (n ∷ [])) (sym (ap returns_of known) ∙ are.returns (client_of e))
          ∙ ap (λ ys. places_from (is_return (client_of e)) 0 (take n h) ++ ys) (sym (turned (begins e) (n ∷ []) []))
          ∙ ap (λ b. places_from (is_return (client_of e)) 0 (take n h) ++ cond b (n ∷ []) []) (sym (returns_itself e))
          ∙ ap (λ k. places_from (is_return (client_of e)) 0 (take n h) ++ cond (is_return (client_of e) e) (k ∷ []) []) zero_more
          ∙ sym (places_from-take_suc (is_return (client_of e)) 0 h n e at))
      | inr other ↦ ap returns_of (slice_get-set_other clients (client_of e) c new other.1) ∙ are.returns c
          ∙ sym (append-nil (places_from (is_return c) 0 (take n h)))
          ∙ ap (λ b. places_from (is_return c) 0 (take n h) ++ cond b ((0 + n) ∷ []) []) (sym (returns_not c e other.1))
          ∙ sym (places_from-take_suc (is_return c) 0 h n e at)
    ]
  where
    zero_more : n ≡ 0 + n
    zero_more = omega arith

pub clients_next : (h : List Event) (n : ℕ) (e : Event) (clients : List Client) (old new : Client) → AreClients (take n h) clients → slice_get h n ≡ Some e
    → slice_get clients (client_of e) ≡ Some old → client_of e < length clients
    → new.calls.items ≡ old.calls.items ++ cond (begins e) (n ∷ []) [] → new.returns.items ≡ old.returns.items ++ cond (begins e) [] (n ∷ [])
    → AreClients (take (n + 1) h) (set clients (client_of e) new)
clients_next h n e clients old new are at known lt calls returns =
    rw (add-one n) (record {
      calls = calls_next h n e clients old new are at known lt calls;
      returns = returns_next h n e clients old new are at known lt returns;
    })

-- a client with the same number of entries seen
pub seen_same : (n : ℕ → ℕ) (clients : List Client) (d : ℕ) (old new : Client) → HaveSeen n clients → slice_get clients d ≡ Some old → d < length clients → new.entries ≡ old.entries
    → HaveSeen n (set clients d new)
seen_same n clients d old new seen known lt same c client at =
    elim (eqb_tells c d) [
      | inl e ↦ let one : slice_get (set clients d new) c ≡ Some new = ap (λ z. slice_get (set clients d new) z) e.1 ∙ slice_get-set clients d new lt in
          let two : new ≡ client = cc in
          ap (λ z. z.entries) (sym two) ∙ same ∙ seen d old known ∙ ap n (sym e.1)
      | inr e ↦ seen c client (sym (slice_get-set_other clients d c new e.1) ∙ at)
    ]

pub seen_next : (n : ℕ → ℕ) (clients : List Client) (d : ℕ) (old new : Client) → HaveSeen n clients → slice_get clients d ≡ Some old → d < length clients → new.entries ≡ old.entries + 1
    → HaveSeen (one_more d n) (set clients d new)
seen_next n clients d old new seen known lt more c client at =
    elim (eqb_tells d c) [
      | inl e ↦ let one : slice_get (set clients d new) c ≡ Some new = ap (λ z. slice_get (set clients d new) z) (sym e.1) ∙ slice_get-set clients d new lt in
          let two : new ≡ client = cc in
          let here : new.entries ≡ suc (n c) = more ∙ add-one old.entries ∙ ap suc (seen d old known ∙ ap n e.1) in
          rw e.0 (ap (λ z. z.entries) (sym two) ∙ here)
      | inr e ↦ rw e.0 (seen c client (sym (slice_get-set_other clients d c new (λ same. e.1 (sym same))) ∙ at))
    ]

-- a client beyond the table has no entries that count
pub seen_beyond : (n : ℕ → ℕ) (clients : List Client) (d : ℕ) → HaveSeen n clients → length clients ≤ d → HaveSeen (one_more d n) clients
seen_beyond n clients d seen le c client at =
    elim (eqb_tells d c) [
      | inl e ↦ absurd (let lt = slice_get_within clients c client at in omega (arith, e.1))
      | inr e ↦ rw e.0 (seen c client at)
    ]

-- a client of the same places
pub clients_same : (h : List Event) (clients : List Client) (d : ℕ) (old new : Client) → AreClients h clients → slice_get clients d ≡ Some old → d < length clients
    → new.calls.items ≡ old.calls.items → new.returns.items ≡ old.returns.items → AreClients h (set clients d new)
clients_same h clients d old new are known lt calls returns = record {
  calls = λ c. elim (eqb_tells c d) [
    | inl e ↦ subst (λ z. calls_of (slice_get (set clients d new) z) ≡ places_from (is_call z) 0 h) (sym e.1)
        (ap calls_of (slice_get-set clients d new lt) ∙ calls ∙ sym (ap calls_of known) ∙ are.calls d)
    | inr e ↦ ap calls_of (slice_get-set_other clients d c new e.1) ∙ are.calls c
  ];
  returns = λ c. elim (eqb_tells c d) [
    | inl e ↦ subst (λ z. returns_of (slice_get (set clients d new) z) ≡ places_from (is_return z) 0 h) (sym e.1)
        (ap returns_of (slice_get-set clients d new lt) ∙ returns ∙ sym (ap returns_of known) ∙ are.returns d)
    | inr e ↦ ap returns_of (slice_get-set_other clients d c new e.1) ∙ are.returns c
  ];
}

pub span_known : (h : List Event) (clients : List Client) (d k : ℕ) (client : Client) → AreClients h clients → slice_get clients d ≡ Some client
    → span_at client.calls.items client.returns.items k ≡ span_of h d k
span_known h clients d k client are known =
    ap (λ z. span_at z client.returns.items k) (sym (ap calls_of known) ∙ are.calls d) ∙ ap (λ z. span_at (places_from (is_call d) 0 h) z k) (sym (ap returns_of known) ∙ are.returns d)

pub span_beyond : (h : List Event) (clients : List Client) (d k : ℕ) → AreClients h clients → length clients ≤ d → None ≡ span_of h d k
span_beyond h clients d k are le =
    ap (λ z. span_at z (places_from (is_return d) 0 h) k) (sym (ap calls_of (slice_get_past clients d le)) ∙ are.calls d)

-- what is above the clients of n events is above those of one more, if it rises above the next one's
pub above_next : (h : List Event) (n : ℕ) (x : Event) (old new : ℕ) → ((i : ℕ) (e : Event) → i < n → slice_get h i ≡ Some e → client_of e < old)
    → slice_get h n ≡ Some x → old ≤ new → client_of x < new → (i : ℕ) (e : Event) → i < n + 1 → slice_get h i ≡ Some e → client_of e < new
above_next h n x old new above at le lt i e less is =
    elim (cases_order i n) [
      | inl same ↦ let one : slice_get h n ≡ Some e = ap (λ z. slice_get h z) (sym same) ∙ is in
          let two : x ≡ e = cc in subst (λ z. client_of z < new) two lt
      | inr (inl fewer) ↦ let low = above i e fewer is in omega arith
      | inr (inr more) ↦ absurd (omega arith)
    ]

-- one more span, that of the next entry
pub spans_next : (h : List Event) (order : List Entry) (n : ℕ) (x : Entry) (spans : List (Option Span)) (span : Option Span)
    → length spans ≡ n → ((p : ℕ) (e : Entry) → p < n → slice_get order p ≡ Some e → slice_get spans p ≡ Some (span_of h e.client (named order p e)))
    → slice_get order n ≡ Some x → span ≡ span_of h x.client (count (is_of x.client) (take n order))
    → (p : ℕ) (e : Entry) → p < n + 1 → slice_get order p ≡ Some e → slice_get (spans ++ span ∷ []) p ≡ Some (span_of h e.client (named order p e))
spans_next h order n x spans span size each at is p e less here =
    elim (cases_order p n) [
      | inl same ↦ let one : slice_get order n ≡ Some e = ap (λ z. slice_get order z) (sym same) ∙ here in
          let two : x ≡ e = cc in
          slice_get-last spans span p (same ∙ sym size) ∙ ap Some is
          ∙ ap (λ z. Some (span_of h z.client (count (is_of z.client) (take n order)))) two
          ∙ ap (λ z. Some (span_of h e.client (count (is_of e.client) (take z order)))) (sym same)
      | inr (inl fewer) ↦ slice_get-front spans span p (omega arith) ∙ each p e fewer here
      | inr (inr more) ↦ absurd (omega arith)
    ]

pub seen_of_next : (order : List Entry) (n : ℕ) (x : Entry) (clients : List Client) → slice_get order n ≡ Some x
    → HaveSeen (one_more x.client (λ c. count (is_of c) (take n order))) clients → HaveSeen (λ c. count (is_of c) (take (n + 1) order)) clients
seen_of_next order n x clients at seen c client is =
    seen c client is ∙ sym (count-take_suc (is_of c) order n x at) ∙ ap (λ k. count (is_of c) (take k order)) (sym (add-one n))

pub count-take-le : {A : Type 0} (test : A → Bool) (n : ℕ) (xs : List A) → count test (take n xs) ≤ n
count-take-le test zero xs = omega arith
count-take-le test (suc n) [] = omega arith
count-take-le test (suc n) (x ∷ xs) = step (test x) (count-take-le test n xs)
  where
    step : (b : Bool) → count test (take n xs) ≤ n → cond b (suc (count test (take n xs))) (count test (take n xs)) ≤ suc n
    step true h = omega arith
    step false h = omega arith

-- an entry of the code, by its place
pub entry_at : {C H R : Type 0} (call : C → Call) (choice : H → Choice) (numbers : R → List ℤ) (order : List (Done C H R)) (i : ℕ) (x : Done C H R) → i < length order → x ≡ get_or order i x
    → slice_get (entries_in call choice numbers order) i ≡ Some (entry_of call choice numbers x)
entry_at call choice numbers order i x lt is =
    slice_get-map (entry_of call choice numbers) order i ∙ ap (option_map (entry_of call choice numbers)) (slice_get_read order (length order) i x refl lt is)

pub element_at : {A : Type 0} (xs : List A) (i : ℕ) (x : A) → i < length xs → x ≡ get_or xs i x → slice_get xs i ≡ Some x
element_at xs i x lt is = slice_get_read xs (length xs) i x refl lt is

-- an event noted with its client, by what was read of the event
pub clients_noted : (h : List Event) (n : ℕ) (e : Event) (d : ℕ) (b : Bool) (clients : List Client) (old new : Client) → AreClients (take n h) clients → slice_get h n ≡ Some e
    → d ≡ client_of e → b ≡ begins e → slice_get clients d ≡ Some old → d < length clients
    → new.calls.items ≡ old.calls.items ++ cond b (n ∷ []) [] → new.returns.items ≡ old.returns.items ++ cond b [] (n ∷ [])
    → AreClients (take (n + 1) h) (set clients d new)
clients_noted h n e d b clients old new are at same begin known lt calls returns =
    subst (λ z. AreClients (take (n + 1) h) (set clients z new)) (sym same)
    (clients_next h n e clients old new are at (subst (λ z. slice_get clients z ≡ Some old) same known) (subst (λ z. z < length clients) same lt)
    (calls ∙ ap (λ z. old.calls.items ++ cond z (n ∷ []) []) begin) (returns ∙ ap (λ z. old.returns.items ++ cond z [] (n ∷ [])) begin))
