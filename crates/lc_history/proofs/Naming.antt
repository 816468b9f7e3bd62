-- Where the calls are that entries name, and which precede which.
use Rattle.std.proofs.Common.{◌≡◌, ℕ, zero, suc, ◌+◌, Bool, true, false, cond, List, [], ◌∷◌, ℤ, Option, Some, None, option_map, take, slice_get, length, refl, ap, sym, subst, ◌∙◌, arith}
use Rattle.lc_lemmas.proofs.Numbers.{equal_to_itself}
use Rattle.lc_lemmas.proofs.Lists.{element_within}
use Rattle.lc_seq.specs.Sequential.{Call}
use Rattle.lc_history.specs.Checked.{called_in, replied_in, call_at, reply_at, AreNames}
use Rattle.lc_history.specs.History.{Event, Called, Replied, Entry, is_call, is_return, count, IsPlace}
use Rattle.lc_history.specs.Spans.{places_from, span_of, is_preceded}
use Rattle.lc_history.specs.Tests.{IsCallOf, IsReplyOf, named, IsUnpreceded}
use Rattle.lc_history.specs.WellFormed.{IsWellFormed}
use Rattle.lc_history.specs.declared.spans.Span.{Span}
use Rattle.lc_history.proofs.Places.{count_of_front}
use Rattle.std.proofs.lemmas.Option.{slice_get_within}
use Rattle.lc_history.proofs.Order.{is_called, is_replied}
use Rattle.lc_history.proofs.Calls.{reply_in}
use Rattle.lc_history.proofs.Preceded.{preceded_is_late, preceded_where}

-- the element that passes as the k-th is found at its place
pub place_at : {A : Type 0} (test : A → Bool) (n : ℕ) (xs : List A) (i k : ℕ) (x : A) → slice_get xs i ≡ Some x → test x ≡ true → count test (take i xs) ≡ k
    → slice_get (places_from test n xs) k ≡ Some (n + i)
place_at test n [] i k x at is before = absurd cc
place_at test n (y ∷ xs) zero k x at is before =
    let e : test y ≡ true = cc (at, is) in
    let z : k ≡ 0 = omega (arith, before) in
    let m : n ≡ n + 0 = omega arith in
    rw (e, z) (ap Some m)
place_at test n (y ∷ xs) (suc i) k x at is before =
    let m : suc n + i ≡ n + suc i = omega arith in
    step (test y) k before (λ j h. place_at test (suc n) xs i j x at is h ∙ ap Some m)
  where
    step : (b : Bool) (k : ℕ) → cond b (suc (count test (take i xs))) (count test (take i xs)) ≡ k → ((j : ℕ) → count test (take i xs) ≡ j → slice_get (places_from test (suc n) xs) j ≡ Some (n + suc i))
        → slice_get (cond b (n ∷ places_from test (suc n) xs) (places_from test (suc n) xs)) k ≡ Some (n + suc i)
    step true zero e h = absurd (omega arith)
    step true (suc k) e h = h k (omega arith)
    step false k e h = h k e

-- a place that is found
pub record Found {A : Type 0} (test : A → Bool) (n : ℕ) (xs : List A) (k j : ℕ) : Type 0 where
  pub index : ℕ
  pub is : j ≡ n + index
  pub place : IsPlace test k xs index

later : {A : Type 0} (test : A → Bool) (n : ℕ) (x : A) (xs : List A) (k j : ℕ) → Found test (suc n) xs k j → (b : Bool) → test x ≡ b → Found test n (x ∷ xs) (cond b (suc k) k) j
later test n x xs k j f b e = record {
  index = suc f.index;
  is = omega (arith, f.is);
  place = record { element = f.place.element; stands = f.place.stands; passes = f.place.passes; before = rw e (ap (λ m. cond b (suc m) m) f.place.before) };
}

pub place_from : {A : Type 0} (test : A → Bool) (n : ℕ) (xs : List A) (k j : ℕ) → slice_get (places_from test n xs) k ≡ Some j → Found test n xs k j
place_from test n [] k j at = absurd cc
place_from test n (x ∷ xs) k j at = step (test x) refl k at (λ i h. place_from test (suc n) xs i j h)
  where
    step : (b : Bool) → test x ≡ b → (k : ℕ) → slice_get (cond b (n ∷ places_from test (suc n) xs) (places_from test (suc n) xs)) k ≡ Some j
        → ((i : ℕ) → slice_get (places_from test (suc n) xs) i ≡ Some j → Found test (suc n) xs i j) → Found test n (x ∷ xs) k j
    step true e zero at h =
        let same : n ≡ j = cc in
        record { index = 0; is = omega (arith, same); place = record { element = x; stands = refl; passes = e; before = refl } }
    step true e (suc k) at h = later test n x xs k j (h k at) true e
    step false e k at h = later test n x xs k j (h k at) false e

pub length-places_from : {A : Type 0} (test : A → Bool) (n : ℕ) (xs : List A) → length (places_from test n xs) ≡ count test xs
length-places_from test n [] = refl
length-places_from test n (x ∷ xs) = step (test x) (length-places_from test (suc n) xs)
  where
    step : (b : Bool) → length (places_from test (suc n) xs) ≡ count test xs → length (cond b (n ∷ places_from test (suc n) xs) (places_from test (suc n) xs)) ≡ cond b (suc (count test xs)) (count test xs)
    step true h = ap suc h
    step false h = h

-- a span that is known, by its beginning
span_there : (h : List Event) (c k i : ℕ) → slice_get (places_from (is_call c) 0 h) k ≡ Some i → span_of h c k ≡ Some (record { called = i; returned = slice_get (places_from (is_return c) 0 h) k })
span_there h c k i at = ap (option_map (λ j. record { called = j; returned = slice_get (places_from (is_return c) 0 h) k })) at

found_place : (test : Event → Bool) (h : List Event) (k i : ℕ) → IsPlace test k h i → slice_get (places_from test 0 h) k ≡ Some i
found_place test h k i p =
    let z : 0 + i ≡ i = omega arith in
    place_at test 0 h i k p.element p.stands p.passes p.before ∙ ap Some z

place_found : (test : Event → Bool) (h : List Event) (k i : ℕ) → slice_get (places_from test 0 h) k ≡ Some i → IsPlace test k h i
place_found test h k i at =
    let f = place_from test 0 h k i at in
    let same : f.index ≡ i = omega (arith, f.is) in
    subst (IsPlace test k h) same f.place

pub call_place : (h : List Event) (c k : ℕ) (call : Call) (is : IsCallOf h c k call) → IsPlace (is_call c) k h is.place
call_place h c k call is = record { element = Called c call; stands = is.stands; passes = equal_to_itself c; before = is.before }

-- the call at a span is the call of that number
pub call_at-span : (h : List Event) (c k : ℕ) (call : Call) → IsCallOf h c k call → call_at h (span_of h c k) ≡ Some call
call_at-span h c k call is =
    ap (call_at h) (span_there h c k is.place (found_place (is_call c) h k is.place (call_place h c k call is))) ∙ ap called_in is.stands

called_there : (h : List Event) (c k : ℕ) (call : Call) (o : Option ℕ) → slice_get (places_from (is_call c) 0 h) k ≡ o
    → call_at h (option_map (λ j. record { called = j; returned = slice_get (places_from (is_return c) 0 h) k }) o) ≡ Some call → IsCallOf h c k call
called_there h c k call None found at = absurd cc
called_there h c k call (Some i) found at =
    let p = place_found (is_call c) h k i found in
    let what = is_called c p.element p.passes in
    let which = sym (ap called_in (p.stands ∙ ap Some what)) ∙ at in
    record { place = i; stands = p.stands ∙ ap Some what ∙ ap (λ z. Some (Called c z)) (cc which); before = p.before }

pub span_of-call : (h : List Event) (c k : ℕ) (call : Call) → call_at h (span_of h c k) ≡ Some call → IsCallOf h c k call
span_of-call h c k call at = called_there h c k call (slice_get (places_from (is_call c) 0 h) k) refl at

pub reply_place : (h : List Event) (c k : ℕ) (reply : List ℤ) (is : IsReplyOf h c k reply) → IsPlace (is_return c) k h is.place
reply_place h c k reply is = record { element = Replied c reply; stands = is.stands; passes = equal_to_itself c; before = is.before }

-- the reply at a span is that of the call of that number
pub reply_at-span : (h : List Event) (c k : ℕ) (call : Call) (reply : List ℤ) → IsCallOf h c k call → IsReplyOf h c k reply → reply_at h (span_of h c k) ≡ Some reply
reply_at-span h c k call reply is r =
    ap (reply_at h) (span_there h c k is.place (found_place (is_call c) h k is.place (call_place h c k call is)))
    ∙ ap (λ o. reply_at h (Some (record { called = is.place; returned = o }))) (found_place (is_return c) h k r.place (reply_place h c k reply r))
    ∙ ap replied_in r.stands

replied_there : (h : List Event) (c k i : ℕ) (reply : List ℤ) (o : Option ℕ) → slice_get (places_from (is_return c) 0 h) k ≡ o → reply_at h (Some (record { called = i; returned = o })) ≡ Some reply → IsReplyOf h c k reply
replied_there h c k i reply None found at = absurd cc
replied_there h c k i reply (Some j) found at =
    let p = place_found (is_return c) h k j found in
    let what = is_replied c p.element p.passes in
    let which = sym (ap replied_in (p.stands ∙ ap Some what)) ∙ at in
    record { place = j; stands = p.stands ∙ ap Some what ∙ ap (λ z. Some (Replied c z)) (cc which); before = p.before }

pub span_of-reply : (h : List Event) (c k : ℕ) (call : Call) (reply : List ℤ) → IsCallOf h c k call → reply_at h (span_of h c k) ≡ Some reply → IsReplyOf h c k reply
span_of-reply h c k call reply is at =
    replied_there h c k is.place reply (slice_get (places_from (is_return c) 0 h) k) refl
    (sym (ap (reply_at h) (span_there h c k is.place (found_place (is_call c) h k is.place (call_place h c k call is)))) ∙ at)

-- a call that returned began
began : (h : List Event) → IsWellFormed h → (c k i : ℕ) → IsPlace (is_return c) k h i → (j : ℕ) × (slice_get (places_from (is_call c) 0 h) k ≡ Some j)
began h w c k i p =
    let turn = (w.in_turn i p.element p.stands).replied c (reply_in p.element) (is_replied c p.element p.passes) in
    let few = count_of_front (is_call c) h i in
    element_within (places_from (is_call c) 0 h) k (omega (arith, turn, few, p.before, length-places_from (is_call c) 0 h))

-- the parts of a span
parts_there : (h : List Event) (c k : ℕ) (s : Span) (o : Option ℕ) → option_map (λ j. record { called = j; returned = slice_get (places_from (is_return c) 0 h) k }) o ≡ Some s
    → (o ≡ Some s.called) × (s.returned ≡ slice_get (places_from (is_return c) 0 h) k)
parts_there h c k s None e = absurd cc
parts_there h c k s (Some i) e = cc_parts h c k s i e
  where
    cc_parts : (h : List Event) (c k : ℕ) (s : Span) (i : ℕ) → Some (record { called = i; returned = slice_get (places_from (is_return c) 0 h) k }) ≡ Some s
        → (Some i ≡ Some s.called) × (s.returned ≡ slice_get (places_from (is_return c) 0 h) k)
    cc_parts h c k s i e =
        let made : Span = record { called = i; returned = slice_get (places_from (is_return c) 0 h) k } in
        let same : made ≡ s = cc in
        (ap (λ z. Some z.called) same, sym (ap (λ z. z.returned) same))

parts : (h : List Event) (c k : ℕ) (s : Span) → span_of h c k ≡ Some s → (slice_get (places_from (is_call c) 0 h) k ≡ Some s.called) × (s.returned ≡ slice_get (places_from (is_return c) 0 h) k)
parts h c k s e = parts_there h c k s (slice_get (places_from (is_call c) 0 h) k) e

entry_of_span : (order : List Entry) (spans : List (Option Span)) (p : ℕ) (s : Option Span) → length spans ≡ length order → slice_get spans p ≡ Some s → (e : Entry) × (slice_get order p ≡ Some e)
entry_of_span order spans p s size at = let lt = slice_get_within spans p s at in element_within order p (omega arith)

-- a place that is reported as preceded is
pub told_preceded : (h : List Event) (order : List Entry) (spans : List (Option Span)) (flags : List Bool) → AreNames h order spans flags → (p : ℕ) → is_preceded spans p ≡ true → IsUnpreceded h order p → ⊥
told_preceded h order spans flags names p told free =
    let l = preceded_is_late spans p told in
    let e = entry_of_span order spans p (Some l.this) names.places l.stands in
    let d = entry_of_span order spans l.later (Some l.other) names.places l.at in
    let this : span_of h e.0.client (named order p e.0) ≡ Some l.this = cc (names.found p e.0 e.1, l.stands) in
    let other : span_of h d.0.client (named order l.later d.0) ≡ Some l.other = cc (names.found l.later d.0 d.1, l.at) in
    let these = parts h e.0.client (named order p e.0) l.this this in
    let those = parts h d.0.client (named order l.later d.0) l.other other in
    free e.0 d.0 l.later e.1 d.1 l.behind (record {
      returns = l.returned;
      begins = l.this.called;
      returned = place_found (is_return d.0.client) h (named order l.later d.0) l.returned (sym those.1 ∙ l.returns);
      begun = place_found (is_call e.0.client) h (named order p e.0) l.this.called these.0;
      earlier = l.before;
    })

-- and a place that is not reported as preceded is not
pub told_free : (h : List Event) (order : List Entry) (spans : List (Option Span)) (flags : List Bool) → AreNames h order spans flags → (p : ℕ) → is_preceded spans p ≡ false → IsUnpreceded h order p
told_free h order spans flags names p told e d q at is lt pr =
    let k = named order p e in
    let m = named order q d in
    let begins = found_place (is_call e.client) h k pr.begins pr.begun in
    let returns = found_place (is_return d.client) h m pr.returns pr.returned in
    let first = began h names.well_formed d.client m pr.returns pr.returned in
    let this : slice_get spans p ≡ Some (Some (record { called = pr.begins; returned = slice_get (places_from (is_return e.client) 0 h) k })) = names.found p e at ∙ ap Some (span_there h e.client k pr.begins begins) in
    let other : slice_get spans q ≡ Some (Some (record { called = first.0; returned = slice_get (places_from (is_return d.client) 0 h) m })) = names.found q d is ∙ ap Some (span_there h d.client m first.0 first.1) in
    absurd (cc (told, preceded_where spans p q (record { called = pr.begins; returned = slice_get (places_from (is_return e.client) 0 h) k }) (record { called = first.0; returned = slice_get (places_from (is_return d.client) 0 h) m }) pr.returns this lt other returns pr.earlier))
