-- An order linearizes a history exactly if it passes each test.
use Rattle.std.proofs.Common.{◌≡◌, ℕ, zero, suc, ◌<◌, true, ◌==◌, cond, List, [], ◌∷◌, ℤ, Some, None, take, slice_get, length, refl, ap, sym, subst, ◌∙◌, inl, inr, arith}
use Rattle.std.proofs.lemmas.Bool.{cases_order}
use Rattle.std.proofs.Math.Seq.{take-length}
use Rattle.std.proofs.lemmas.Option.{slice_get_within}
use Rattle.lc_lemmas.proofs.Numbers.{equal_other_way, equal_to_itself}
use Rattle.lc_seq.specs.Sequential.{Call, Sequential}
use Rattle.lc_history.specs.History.{Event, Called, Replied, Entry, IsLegal, is_call, is_return, is_of, count, IsPlace, Precedes, entries_of, AreCalls, Linearizes}
use Rattle.lc_history.specs.WellFormed.{IsWellFormed}
use Rattle.lc_history.specs.Tests.{IsCallOf, IsReplyOf, named, NamesItsCall, HasItsReply, IsUnpreceded, IsComplete, PassesEach}
use Rattle.lc_history.specs.declared.reason.Reason.TheVariants.{OtherCall, OtherReply, MissingCall, NoStep, Preceded}
use Rattle.lc_history.proofs.Places.{count_longer_front}
use Rattle.lc_history.proofs.Picked.{picked, length-picked, picked_at, Source, picked_from}
use Rattle.lc_history.proofs.Calls.{call_in, reply_in, calls_of, replies_of, TakesTurns, matching_are_calls, calls_match, matches_by_index, matching_call, matching_reply, matching_length}

-- what an entry says of its client
abbrev said : Entry → Call × List ℤ
said e = (e.call, e.reply)

entries-picked : (c : ℕ) (es : List Entry) → entries_of c es ≡ picked (is_of c) said es
entries-picked c [] = refl
entries-picked c (e ∷ es) = ap (λ ys. cond (e.client == c) ((e.call, e.reply) ∷ ys) ys) (entries-picked c es)

pub turns_of : (h : List Event) → IsWellFormed h → (c : ℕ) → TakesTurns c 0 h
turns_of h w c = record {
  calls = λ i call at. let f = (w.in_turn i (Called c call) at).called c call refl in omega arith;
  returns = λ i reply at. let f = (w.in_turn i (Replied c reply) at).replied c reply refl in omega arith;
}

pub is_called : (c : ℕ) (event : Event) → is_call c event ≡ true → event ≡ Called c (call_in event)
is_called c (Called d call) e = ap (λ z. Called z call) (equal_other_way c d e)
is_called c (Replied d reply) e = absurd cc

pub is_replied : (c : ℕ) (event : Event) → is_return c event ≡ true → event ≡ Replied c (reply_in event)
is_replied c (Called d call) e = absurd cc
is_replied c (Replied d reply) e = ap (λ z. Replied z reply) (equal_other_way c d e)

call_of_picked : (h : List Event) (c k : ℕ) (call : Call) → slice_get (calls_of c h) k ≡ Some call → IsCallOf h c k call
call_of_picked h c k call at =
    let s = picked_from (is_call c) call_in h k call at in
    record { place = s.place; stands = cc (s.stands, is_called c s.element s.passes, ap (λ z. Called c z) s.value); before = s.before }

picked_call_of : (h : List Event) (c k : ℕ) (call : Call) → IsCallOf h c k call → slice_get (calls_of c h) k ≡ Some call
picked_call_of h c k call is = picked_at (is_call c) call_in h is.place k (Called c call) is.stands (equal_to_itself c) is.before

reply_of_picked : (h : List Event) (c k : ℕ) (reply : List ℤ) → slice_get (replies_of c h) k ≡ Some reply → IsReplyOf h c k reply
reply_of_picked h c k reply at =
    let s = picked_from (is_return c) reply_in h k reply at in
    record { place = s.place; stands = cc (s.stands, is_replied c s.element s.passes, ap (λ z. Replied c z) s.value); before = s.before }

picked_reply_of : (h : List Event) (c k : ℕ) (reply : List ℤ) → IsReplyOf h c k reply → slice_get (replies_of c h) k ≡ Some reply
picked_reply_of h c k reply is = picked_at (is_return c) reply_in h is.place k (Replied c reply) is.stands (equal_to_itself c) is.before

-- an entry by its place, seen as the j-th of its client
own : (order : List Entry) (p : ℕ) (e : Entry) → slice_get order p ≡ Some e → slice_get (entries_of e.client order) (named order p e) ≡ Some (said e)
own order p e at = rw (entries-picked e.client order) (picked_at (is_of e.client) said order p (named order p e) e at (equal_to_itself e.client) refl)

-- the j-th entry of a client, by its place
owner : (order : List Entry) (c j : ℕ) (x : Call × List ℤ) → slice_get (entries_of c order) j ≡ Some x → Source (is_of c) said order j x
owner order c j x at = picked_from (is_of c) said order j x (rw (entries-picked c order) at at)

length-entries : (c : ℕ) (order : List Entry) → length (entries_of c order) ≡ count (is_of c) order
length-entries c order = rw (entries-picked c order) (length-picked (is_of c) said order)

-- what the tests of a client's entries say of its j-th entry
call_at : (h : List Event) (order : List Entry) (c j : ℕ) (x : Call × List ℤ)
    → ((p : ℕ) → p < length order → NamesItsCall h order p) → Source (is_of c) said order j x → slice_get (calls_of c h) j ≡ Some x.0
call_at h order c j x names s =
    let is = picked_call_of h s.element.client (named order s.place s.element) s.element.call (names s.place (slice_get_within order s.place s.element s.stands) s.element s.stands) in
    let its : slice_get (calls_of c h) (count (is_of c) (take s.place order)) ≡ Some s.element.call =
    subst (λ z. slice_get (calls_of z h) (count (is_of z) (take s.place order)) ≡ Some s.element.call) (equal_other_way c s.element.client s.passes) is in
    rw s.before at its ∙ ap (λ y. Some y.0) s.value

reply_at : (h : List Event) (order : List Entry) (c j : ℕ) (x : Call × List ℤ) (r : List ℤ)
    → ((p : ℕ) → p < length order → HasItsReply h order p) → Source (is_of c) said order j x → slice_get (replies_of c h) j ≡ Some r → x.1 ≡ r
reply_at h order c j x r replies s at =
    let same : s.element.client ≡ c = equal_other_way c s.element.client s.passes in
    let number : named order s.place s.element ≡ j = ap (λ z. count (is_of z) (take s.place order)) same ∙ s.before in
    let is : IsReplyOf h s.element.client (named order s.place s.element) r =
    subst (λ z. IsReplyOf h z (named order s.place s.element) r) (sym same) (subst (λ n. IsReplyOf h c n r) (sym number) (reply_of_picked h c j r at)) in
    sym (ap (λ y. y.1) s.value) ∙ replies s.place (slice_get_within order s.place s.element s.stands) s.element s.stands r is

-- the calls of a client are kept if the tests of its entries are passed
pub are_calls : (h : List Event) (order : List Entry) → IsWellFormed h
    → ((p : ℕ) → p < length order → NamesItsCall h order p) → ((p : ℕ) → p < length order → HasItsReply h order p) → IsComplete h order
    → (c : ℕ) → AreCalls c None h (entries_of c order)
are_calls h order w names replies complete c =
    matching_are_calls c h None (entries_of c order) (turns_of h w c)
    (matches_by_index (entries_of c order) (calls_of c h) (replies_of c h)
    (λ j x at. call_at h order c j x names (owner order c j x at))
    (λ j x r at is. reply_at h order c j x r replies (owner order c j x at) is)
    (let enough = complete c in omega (arith, length-entries c order, length-picked (is_return c) reply_in h)))

-- a call returns after its beginning
pub returns_behind : (h : List Event) → IsWellFormed h → (c k i j : ℕ) → IsPlace (is_return c) k h i → IsPlace (is_call c) k h j → i < j → ⊥
returns_behind h w c k i j r b lt =
    let e : Event = r.element in
    let is : e ≡ Replied c (reply_in e) = is_replied c e r.passes in
    let turn = (w.in_turn i e r.stands).replied c (reply_in e) is in
    let few = count_longer_front (is_call c) h i j (omega arith) in
    omega (arith, turn, few, r.before, b.before)

pub moved : (h : List Event) (c k d m a i b j : ℕ) → c ≡ a → k ≡ i → d ≡ b → m ≡ j → Precedes h c k d m → Precedes h a i b j
moved h c k d m a i b j e f g l pr =
    let one = subst (λ z. Precedes h z k d m) e pr in
    let two = subst (λ z. Precedes h a z d m) f one in
    let three = subst (λ z. Precedes h a i z m) g two in
    subst (λ z. Precedes h a i b z) l three

-- the number of the entry at a client's place
number_at : (order : List Entry) (c k p : ℕ) (P : IsPlace (is_of c) k order p) → (P.element.client ≡ c) × (named order p P.element ≡ k)
number_at order c k p P =
    let same = equal_other_way c P.element.client P.passes in
    (same, ap (λ z. count (is_of z) (take p order)) same ∙ P.before)

one_place : (h : List Event) (order : List Entry) → IsWellFormed h → (c k d m p : ℕ) → Precedes h c k d m → IsPlace (is_of c) k order p → IsPlace (is_of d) m order p → ⊥
one_place h order w c k d m p pr P Q =
    let of-c = number_at order c k p P in
    let of-d = number_at order d m p Q in
    let same : P.element ≡ Q.element = cc (P.stands, Q.stands) in
    let client : d ≡ c = sym of-d.0 ∙ ap (λ e. e.client) (sym same) ∙ of-c.0 in
    let number : m ≡ k = sym of-d.1 ∙ ap (λ e. named order p e) (sym same) ∙ of-c.1 in
    let own = moved h c k d m c k c k refl refl client number pr in
    returns_behind h w c k own.returns own.begins own.returned own.begun own.earlier

-- places of two entries of calls, one of which precedes the other
pub in_order : (h : List Event) (order : List Entry) → IsWellFormed h → ((p : ℕ) → p < length order → IsUnpreceded h order p)
    → (c k d m p q : ℕ) → Precedes h c k d m → IsPlace (is_of c) k order p → IsPlace (is_of d) m order q → p < q
in_order h order w free c k d m p q pr P Q =
    let of-c = number_at order c k p P in
    let of-d = number_at order d m q Q in
    elim (cases_order p q) [
      | inl same ↦ absurd (one_place h order w c k d m p pr P (subst (λ z. IsPlace (is_of d) m order z) (sym same) Q))
      | inr (inl lt) ↦ lt
      | inr (inr lt) ↦ absurd (free q (slice_get_within order q Q.element Q.stands) Q.element P.element p Q.stands P.stands lt
          (moved h c k d m P.element.client (named order p P.element) Q.element.client (named order q Q.element) (sym of-c.0) (sym of-c.1) (sym of-d.0) (sym of-d.1) pr))
    ]

-- an order is legal if each of its fronts is
whole_legal : {A : Type 0} (step : Sequential A) (s : A) (order : List Entry) → ((p : ℕ) → p < length order → IsLegal step s (take (suc p) order)) → IsLegal step s order
whole_legal step s [] fronts = tt
whole_legal step s (e ∷ es) fronts = rw (take-length es) at (fronts (length es) (omega arith))

front_legal : {A : Type 0} (step : Sequential A) (s : A) (order : List Entry) (n : ℕ) → IsLegal step s order → IsLegal step s (take n order)
front_legal step s order zero l = tt
front_legal step s [] (suc n) l = tt
front_legal step s (e ∷ es) (suc n) l = (l.0, l.1, front_legal step l.0 es n l.2)

pub linearizes_where_passed : {A : Type 0} (step : Sequential A) (start : A) (h : List Event) (order : List Entry) → IsWellFormed h
    → PassesEach step start h order → Linearizes step start h order
linearizes_where_passed step start h order w passed = record {
  legal = whole_legal step start order (passed NoStep);
  calls = are_calls h order w (passed OtherCall) (passed OtherReply) (passed MissingCall (length order) refl);
  precedence = in_order h order w (passed Preceded);
}

names_of : (h : List Event) (order : List Entry) → IsWellFormed h → ((c : ℕ) → AreCalls c None h (entries_of c order))
    → (p : ℕ) (e : Entry) → slice_get order p ≡ Some e → IsCallOf h e.client (named order p e) e.call
names_of h order w kept p e at =
    let m = calls_match e.client h None (entries_of e.client order) (turns_of h w e.client) (kept e.client) in
    call_of_picked h e.client (named order p e) e.call
    (matching_call (entries_of e.client order) (calls_of e.client h) (replies_of e.client h) (named order p e) (said e) m (own order p e at))

replies_to : (h : List Event) (order : List Entry) → IsWellFormed h → ((c : ℕ) → AreCalls c None h (entries_of c order))
    → (p : ℕ) → HasItsReply h order p
replies_to h order w kept p e at reply is =
    let m = calls_match e.client h None (entries_of e.client order) (turns_of h w e.client) (kept e.client) in
    matching_reply (entries_of e.client order) (calls_of e.client h) (replies_of e.client h) (named order p e) (said e) reply m (own order p e at)
    (picked_reply_of h e.client (named order p e) reply is)

complete_where_kept : (h : List Event) (order : List Entry) → IsWellFormed h → ((c : ℕ) → AreCalls c None h (entries_of c order)) → IsComplete h order
complete_where_kept h order w kept c =
    let m = calls_match c h None (entries_of c order) (turns_of h w c) (kept c) in
    let enough = matching_length (entries_of c order) (calls_of c h) (replies_of c h) m in
    omega (arith, enough, length-entries c order, length-picked (is_return c) reply_in h)

entry_place : (order : List Entry) (p : ℕ) (e : Entry) → slice_get order p ≡ Some e → IsPlace (is_of e.client) (named order p e) order p
entry_place order p e at = record { element = e; stands = at; passes = equal_to_itself e.client; before = refl }

pub passed_where_linearizes : {A : Type 0} (step : Sequential A) (start : A) (h : List Event) (order : List Entry) → IsWellFormed h
    → Linearizes step start h order → PassesEach step start h order
passed_where_linearizes step start h order w l OtherCall p tested = λ e at. names_of h order w l.calls p e at
passed_where_linearizes step start h order w l OtherReply p tested = replies_to h order w l.calls p
passed_where_linearizes step start h order w l MissingCall p tested = complete_where_kept h order w l.calls
passed_where_linearizes step start h order w l NoStep p tested = front_legal step start order (suc p) l.legal
passed_where_linearizes step start h order w l Preceded p tested = λ e d q at is lt pr.
    let before = l.precedence d.client (named order q d) e.client (named order p e) q p pr (entry_place order q d is) (entry_place order p e at) in
    omega arith
