-- A client's entries are its returned calls with their replies, with or without its pending call, exactly if they
-- match its calls and its replies one by one.
use Rattle.std.proofs.Common.{◌≡◌, ℕ, zero, suc, ◌+◌, ◌≤◌, Bool, true, false, ◌==◌, cond, ◌⊎◌, List, [], ◌∷◌, ◌++◌, ℤ, Option, Some, None, take, slice_get, length, refl, ap, inl, inr, arith}
use Rattle.lc_lemmas.proofs.Numbers.{equal_other_way}
use Rattle.lc_seq.specs.Sequential.{Call}
use Rattle.lc_history.specs.History.{Event, Called, Replied, is_call, is_return, count, returned_of, pending_of, AreCalls}
use Rattle.lc_history.proofs.Picked.{picked}

abbrev pub call_in : Event → Call
call_in (Called c call) = call
call_in (Replied c reply) = record { op = 0; numbers = [] }

abbrev pub reply_in : Event → List ℤ
reply_in (Called c call) = []
reply_in (Replied c reply) = reply

-- a client's calls, in order
abbrev pub calls_of : ℕ → List Event → List Call
calls_of c h = picked (is_call c) call_in h

-- the replies that it got, in order
abbrev pub replies_of : ℕ → List Event → List (List ℤ)
replies_of c h = picked (is_return c) reply_in h

-- entries match the calls one by one, and the replies as far as there are any, and there are no fewer than replies
abbrev pub Matches : List (Call × List ℤ) → List Call → List (List ℤ) → Type 0
Matches [] cs [] = Unit {0}
Matches [] cs (r ∷ rs) = ⊥
Matches (x ∷ xs) [] rs = ⊥
Matches (x ∷ xs) (c ∷ cs) [] = (x.0 ≡ c) × Matches xs cs []
Matches (x ∷ xs) (c ∷ cs) (r ∷ rs) = (x.0 ≡ c) × (x.1 ≡ r) × Matches xs cs rs

-- if n calls of c are open before, its calls and returns take turns
pub record TakesTurns (c n : ℕ) (h : List Event) : Type 0 where
  pub calls : (i : ℕ) (call : Call) → slice_get h i ≡ Some (Called c call) → n + count (is_call c) (take i h) ≡ count (is_return c) (take i h)
  pub returns : (i : ℕ) (reply : List ℤ) → slice_get h i ≡ Some (Replied c reply) → n + count (is_call c) (take i h) ≡ suc (count (is_return c) (take i h))

abbrev pub busy : Option Call → ℕ
busy None = 0
busy (Some call) = 1

abbrev pub waiting : Option Call → List Call
waiting None = []
waiting (Some call) = call ∷ []

move : (b : Bool) (n k m : ℕ) → n + cond b (suc k) k ≡ m → cond b (suc n) n + k ≡ m
move true n k m e = omega arith
move false n k m e = e

behind_call : (c d n : ℕ) (call : Call) (h : List Event) (b : Bool) → (d == c) ≡ b → TakesTurns c n (Called d call ∷ h) → TakesTurns c (cond b (suc n) n) h
behind_call c d n call h b e t = record {
  calls = λ i x at. move b n _ _ (rw e at (t.calls (suc i) x at));
  returns = λ i x at. move b n _ _ (rw e at (t.returns (suc i) x at));
}

behind_return : (c d n : ℕ) (reply : List ℤ) (h : List Event) → (d == c) ≡ true → TakesTurns c n (Replied d reply ∷ h) → (n ≡ 1) × TakesTurns c 0 h
behind_return c d n reply h e t =
    let one : n ≡ 1 = omega (arith, t.returns 0 reply (ap (λ z. Some (Replied z reply)) (equal_other_way c d e))) in (
      one,
      record {
        calls = λ i x at. let f = rw e at (t.calls (suc i) x at) in omega arith;
        returns = λ i x at. let f = rw e at (t.returns (suc i) x at) in omega arith;
      },
    )

behind_other : (c d n : ℕ) (reply : List ℤ) (h : List Event) → (d == c) ≡ false → TakesTurns c n (Replied d reply ∷ h) → TakesTurns c n h
behind_other c d n reply h e t = record {
  calls = λ i x at. rw e at (t.calls (suc i) x at);
  returns = λ i x at. rw e at (t.returns (suc i) x at);
}

no_call : (c d n : ℕ) (call : Call) (h : List Event) → (d == c) ≡ true → TakesTurns c n (Called d call ∷ h) → n ≡ 0
no_call c d n call h e t = omega (arith, t.calls 0 call (ap (λ z. Some (Called z call)) (equal_other_way c d e)))

one_more : (c : ℕ) (h : List Event) (x y : Call × List ℤ) (xs : List (Call × List ℤ)) → x ≡ y → AreCalls c None h xs
    → (x ∷ xs ≡ y ∷ returned_of c None h)
    ⊎ ((call : Call) × (reply : List ℤ) × (pending_of c None h ≡ Some call) × (x ∷ xs ≡ (y ∷ returned_of c None h) ++ (call, reply) ∷ []))
one_more c h x y xs same is = elim is [ inl e ↦ inl cc | inr e ↦ inr (e.0, e.1, e.2, cc) ]

abbrev Turning : ℕ → List Event → Type 0
Turning c h = (now : Option Call) (xs : List (Call × List ℤ)) → TakesTurns c (busy now) h → Matches xs (waiting now ++ calls_of c h) (replies_of c h) → AreCalls c now h xs

called : (c d : ℕ) (call : Call) (h : List Event) (now : Option Call) (xs : List (Call × List ℤ)) (b : Bool) → (d == c) ≡ b → TakesTurns c (busy now) (Called d call ∷ h)
    → Matches xs (waiting now ++ calls_of c (Called d call ∷ h)) (replies_of c h) → Turning c h → AreCalls c now (Called d call ∷ h) xs
called c d call h None xs true e t m rest = rw e (rest (Some call) xs (behind_call c d 0 call h true e t) (rw e at m))
called c d call h (Some k) xs true e t m rest = absurd (omega (arith, no_call c d 1 call h e t))
called c d call h now xs false e t m rest = rw e (rest now xs (behind_call c d (busy now) call h false e t) (rw e at m))

replied_here : (c : ℕ) (reply : List ℤ) (h : List Event) (call : Call) (xs : List (Call × List ℤ)) → TakesTurns c 0 h
    → Matches xs (call ∷ calls_of c h) (reply ∷ replies_of c h) → Turning c h
    → (xs ≡ (call, reply) ∷ returned_of c None h)
    ⊎ ((k : Call) × (r : List ℤ) × (pending_of c None h ≡ Some k) × (xs ≡ ((call, reply) ∷ returned_of c None h) ++ (k, r) ∷ []))
replied_here c reply h call [] t m rest = absurd m
replied_here c reply h call (x ∷ xs) t m rest =
    let same : x ≡ (call, reply) = λ i. (m.0 i, m.1 i) in
    one_more c h x (call, reply) xs same (rest None xs t m.2)

replied : (c d : ℕ) (reply : List ℤ) (h : List Event) (now : Option Call) (xs : List (Call × List ℤ)) (b : Bool) → (d == c) ≡ b → TakesTurns c (busy now) (Replied d reply ∷ h)
    → Matches xs (waiting now ++ calls_of c h) (replies_of c (Replied d reply ∷ h)) → Turning c h → AreCalls c now (Replied d reply ∷ h) xs
replied c d reply h None xs true e t m rest = absurd (omega (arith, behind_return c d 0 reply h e t))
replied c d reply h (Some k) xs true e t m rest = rw e (replied_here c reply h k xs (behind_return c d 1 reply h e t).1 (rw e at m) rest)
replied c d reply h now xs false e t m rest = rw e (rest now xs (behind_other c d (busy now) reply h e t) (rw e at m))

at_end : (c : ℕ) (now : Option Call) (xs : List (Call × List ℤ)) → Matches xs (waiting now ++ []) [] → AreCalls c now [] xs
at_end c None [] m = inl refl
at_end c None (x ∷ xs) m = absurd m
at_end c (Some call) [] m = inl refl
at_end c (Some call) (x ∷ []) m = inr (call, x.1, refl, ap (λ k. (k, x.1) ∷ []) m.0)
at_end c (Some call) (x ∷ y ∷ xs) m = absurd m.1

pub matching_are_calls : (c : ℕ) (h : List Event) (now : Option Call) (xs : List (Call × List ℤ)) → TakesTurns c (busy now) h
    → Matches xs (waiting now ++ calls_of c h) (replies_of c h) → AreCalls c now h xs
matching_are_calls c [] now xs t m = at_end c now xs m
matching_are_calls c (Called d call ∷ h) now xs t m = called c d call h now xs (d == c) refl t m (λ k ys u n. matching_are_calls c h k ys u n)
matching_are_calls c (Replied d reply ∷ h) now xs t m = replied c d reply h now xs (d == c) refl t m (λ k ys u n. matching_are_calls c h k ys u n)

-- and the other way

abbrev Matching : ℕ → List Event → Type 0
Matching c h = (now : Option Call) (xs : List (Call × List ℤ)) → TakesTurns c (busy now) h → AreCalls c now h xs → Matches xs (waiting now ++ calls_of c h) (replies_of c h)

end_matches : (c : ℕ) (now : Option Call) (xs : List (Call × List ℤ)) → AreCalls c now [] xs → Matches xs (waiting now ++ []) []
end_matches c None xs is = elim is [ inl e ↦ rw e tt | inr e ↦ absurd cc ]
end_matches c (Some k) xs is = elim is [ inl e ↦ rw e tt | inr e ↦ let same : e.0 ≡ k = cc in rw e.3 (same, tt) ]

called_matches : (c d : ℕ) (call : Call) (h : List Event) (now : Option Call) (xs : List (Call × List ℤ)) (b : Bool) → (d == c) ≡ b → TakesTurns c (busy now) (Called d call ∷ h)
    → AreCalls c now (Called d call ∷ h) xs → Matching c h → Matches xs (waiting now ++ calls_of c (Called d call ∷ h)) (replies_of c h)
called_matches c d call h None xs true e t is rest = rw e (rest (Some call) xs (behind_call c d 0 call h true e t) (rw e at is))
called_matches c d call h (Some k) xs true e t is rest = absurd (omega (arith, no_call c d 1 call h e t))
called_matches c d call h now xs false e t is rest = rw e (rest now xs (behind_call c d (busy now) call h false e t) (rw e at is))

reply_matches : (c : ℕ) (reply : List ℤ) (h : List Event) (call : Call) (xs : List (Call × List ℤ)) → TakesTurns c 0 h
    → (xs ≡ (call, reply) ∷ returned_of c None h)
    ⊎ ((k : Call) × (r : List ℤ) × (pending_of c None h ≡ Some k) × (xs ≡ ((call, reply) ∷ returned_of c None h) ++ (k, r) ∷ []))
    → Matching c h → Matches xs (call ∷ calls_of c h) (reply ∷ replies_of c h)
reply_matches c reply h call xs t is rest = elim is [
  | inl e ↦ rw e (refl, refl, rest None (returned_of c None h) t (inl refl))
  | inr e ↦ rw e.3 (refl, refl, rest None (returned_of c None h ++ (e.0, e.1) ∷ []) t (inr (e.0, e.1, e.2, refl)))
]

replied_matches : (c d : ℕ) (reply : List ℤ) (h : List Event) (now : Option Call) (xs : List (Call × List ℤ)) (b : Bool) → (d == c) ≡ b → TakesTurns c (busy now) (Replied d reply ∷ h)
    → AreCalls c now (Replied d reply ∷ h) xs → Matching c h → Matches xs (waiting now ++ calls_of c h) (replies_of c (Replied d reply ∷ h))
replied_matches c d reply h None xs true e t is rest = absurd (omega (arith, behind_return c d 0 reply h e t))
replied_matches c d reply h (Some k) xs true e t is rest = rw e (reply_matches c reply h k xs (behind_return c d 1 reply h e t).1 (rw e at is) rest)
replied_matches c d reply h now xs false e t is rest = rw e (rest now xs (behind_other c d (busy now) reply h e t) (rw e at is))

pub calls_match : (c : ℕ) (h : List Event) (now : Option Call) (xs : List (Call × List ℤ)) → TakesTurns c (busy now) h
    → AreCalls c now h xs → Matches xs (waiting now ++ calls_of c h) (replies_of c h)
calls_match c [] now xs t is = end_matches c now xs is
calls_match c (Called d call ∷ h) now xs t is = called_matches c d call h now xs (d == c) refl t is (λ k ys u n. calls_match c h k ys u n)
calls_match c (Replied d reply ∷ h) now xs t is = replied_matches c d reply h now xs (d == c) refl t is (λ k ys u n. calls_match c h k ys u n)

-- by index
pub matches_by_index : (xs : List (Call × List ℤ)) (cs : List Call) (rs : List (List ℤ))
    → ((j : ℕ) (x : Call × List ℤ) → slice_get xs j ≡ Some x → slice_get cs j ≡ Some x.0)
    → ((j : ℕ) (x : Call × List ℤ) (r : List ℤ) → slice_get xs j ≡ Some x → slice_get rs j ≡ Some r → x.1 ≡ r)
    → length rs ≤ length xs → Matches xs cs rs
matches_by_index [] cs [] call reply le = tt
matches_by_index [] cs (r ∷ rs) call reply le = absurd (omega arith)
matches_by_index (x ∷ xs) [] rs call reply le = absurd (cc (call 0 x refl))
matches_by_index (x ∷ xs) (c ∷ cs) [] call reply le =
    (cc (call 0 x refl), matches_by_index xs cs [] (λ j y at. call (suc j) y at) (λ j y r at is. absurd cc) (omega arith))
matches_by_index (x ∷ xs) (c ∷ cs) (r ∷ rs) call reply le =
    (cc (call 0 x refl), reply 0 x r refl refl, matches_by_index xs cs rs (λ j y at. call (suc j) y at) (λ j y s at is. reply (suc j) y s at is) (omega arith))

pub matching_call : (xs : List (Call × List ℤ)) (cs : List Call) (rs : List (List ℤ)) (j : ℕ) (x : Call × List ℤ) → Matches xs cs rs → slice_get xs j ≡ Some x → slice_get cs j ≡ Some x.0
matching_call [] cs rs j x m at = absurd cc
matching_call (y ∷ xs) [] rs j x m at = absurd m
matching_call (y ∷ xs) (c ∷ cs) [] zero x m at = let e : y ≡ x = cc in cc (m.0, ap (λ z. z.0) e)
matching_call (y ∷ xs) (c ∷ cs) [] (suc j) x m at = matching_call xs cs [] j x m.1 at
matching_call (y ∷ xs) (c ∷ cs) (r ∷ rs) zero x m at = let e : y ≡ x = cc in cc (m.0, ap (λ z. z.0) e)
matching_call (y ∷ xs) (c ∷ cs) (r ∷ rs) (suc j) x m at = matching_call xs cs rs j x m.2 at

pub matching_reply : (xs : List (Call × List ℤ)) (cs : List Call) (rs : List (List ℤ)) (j : ℕ) (x : Call × List ℤ) (r : List ℤ) → Matches xs cs rs → slice_get xs j ≡ Some x → slice_get rs j ≡ Some r → x.1 ≡ r
matching_reply [] cs rs j x r m at is = absurd cc
matching_reply (y ∷ xs) [] rs j x r m at is = absurd m
matching_reply (y ∷ xs) (c ∷ cs) [] j x r m at is = absurd cc
matching_reply (y ∷ xs) (c ∷ cs) (s ∷ rs) zero x r m at is = let e : y ≡ x = cc in cc (m.1, ap (λ z. z.1) e)
matching_reply (y ∷ xs) (c ∷ cs) (s ∷ rs) (suc j) x r m at is = matching_reply xs cs rs j x r m.2 at is

pub matching_length : (xs : List (Call × List ℤ)) (cs : List Call) (rs : List (List ℤ)) → Matches xs cs rs → length rs ≤ length xs
matching_length [] cs [] m = omega arith
matching_length [] cs (r ∷ rs) m = absurd m
matching_length (x ∷ xs) [] rs m = absurd m
matching_length (x ∷ xs) (c ∷ cs) [] m = omega arith
matching_length (x ∷ xs) (c ∷ cs) (r ∷ rs) m = let h = matching_length xs cs rs m.2 in omega arith
