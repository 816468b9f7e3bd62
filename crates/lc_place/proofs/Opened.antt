-- The innermost list that is open at the end of a text.
use Rattle.std.proofs.Common.{◌≡◌, ℕ, suc, ◌+◌, ◌-◌, ◌≤◌, ◌<◌, Bool, true, false, ◌&&◌, inl, inr, cond, List, [], ◌∷◌, ◌++◌, length, take, drop, Option, Some, None, MatchOption, refl, sym, ap, ◌∙◌, subst, arith, take-append-drop, take_all, length-drop, drop-drop}
use Rattle.std.specs.Prelude.{◌==◌}
use Rattle.std.proofs.lemmas.Bool.{cases_eq, cases_lt}
use Rattle.std.proofs.lemmas.Bool.Decides.{nat_tests}
use Rattle.std.proofs.lemmas.List.{drop_all}
use Rattle.lc_sexp.specs.Reads.{text_of, open_count}
use Rattle.lc_place.specs.Items.{begins_list, IsNeverClosed}
use Rattle.lc_place.specs.Open.{IsClosed, IsInnermostOpen, AreAllClosed}
use Rattle.lc_place.proofs.Texts.{IsStep, length-text}
use Rattle.lc_place.proofs.Depths.{opens, closes, opens_at, closes_at, opens-append, closes-append, opens-cons, closes-cons}

-- with the list after this bracket one list more is opened than closed
abbrev pub IsEven : List ℕ → Type 0
IsEven text = (begins_list text ≡ true) × (opens text ≡ closes text + 1)

abbrev pub AreNotEven : List ℕ → ℕ → ℕ → Type 0
AreNotEven text from to = (k : ℕ) → from ≤ k → k < to → IsEven (drop k text) → ⊥

-- the last such bracket before an offset
abbrev pub IsLastEven : List ℕ → ℕ → Option ℕ → Type 0
IsLastEven text to None = AreNotEven text 0 to
IsLastEven text to (Some o) = (o < to) × IsEven (drop o text) × AreNotEven text (o + 1) to

-- if none is even, no more are opened than closed
not_even_cons : (b : ℕ) (s : List ℕ) → opens s ≤ closes s → ((opens (b ∷ s) ≡ closes (b ∷ s) + 1) → (b == 40) ≡ true → ⊥) → opens (b ∷ s) ≤ closes (b ∷ s)
not_even_cons b s le f = elim (cases_eq b 40) [
  | inl e ↦
      let t : (b == 40) ≡ true = rw e refl in
      let u : (b == 41) ≡ false = rw e refl in
      let o : opens (b ∷ s) ≡ 1 + opens s = opens-cons b s ∙ ap (λ x. cond x 1 0 + opens s) t in
      let c : closes (b ∷ s) ≡ 0 + closes s = closes-cons b s ∙ ap (λ x. cond x 1 0 + closes s) u in
      elim (cases_eq (opens s) (closes s)) [
        | inl same ↦ absurd (f (omega (arith, o, c, same)) t)
        | inr other ↦ omega (arith, o, c, le)
      ]
  | inr n ↦
      let t : (b == 40) ≡ false = grind (arith, nat_tests) in
      let o : opens (b ∷ s) ≡ 0 + opens s = opens-cons b s ∙ ap (λ x. cond x 1 0 + opens s) t in
      let c : closes s ≤ closes (b ∷ s) = omega (arith, closes-cons b s) in
      omega (arith, o, c, le)
]

all_closed : (s : List ℕ) → ((k : ℕ) → IsEven (drop k s) → ⊥) → opens s ≤ closes s
all_closed [] f = omega arith
all_closed (b ∷ s) f = not_even_cons b s (all_closed s (λ k e. f (suc k) e)) (λ e t. f 0 (t, e))

nil_not_even : (s : List ℕ) → s ≡ [] → IsEven s → ⊥
nil_not_even s e h = let b : begins_list [] ≡ true = ap begins_list (sym e) ∙ h.0 in absurd (cc)

-- a part of a text after which none is even
behind_closed : (text : List ℕ) (from j : ℕ) → AreNotEven text from (length text) → from ≤ j → opens (drop j text) ≤ closes (drop j text)
behind_closed text from j f above = all_closed (drop j text) (λ k e.
    let here : IsEven (drop (j + k) text) = subst IsEven (drop-drop k j text) e in
    elim (cases_lt (j + k) (length text)) [
      | inl lt ↦ f (j + k) (omega arith) lt here
      | inr le ↦ nil_not_even (drop (j + k) text) (drop_all (j + k) text le) here
    ])

some_bytes : (s : List ℕ) → begins_list s ≡ true → 0 < length s
some_bytes [] h = absurd (cc)
some_bytes (b ∷ s) h = omega arith

pub list_within : (bytes : List ℕ) (o : ℕ) → begins_list (drop o (text_of bytes)) ≡ true → o ≤ length bytes
list_within bytes o h = omega (arith, some_bytes (drop o (text_of bytes)) h, length-drop o (text_of bytes), length-text bytes)

closed_behind : (text : List ℕ) (from k : ℕ) → AreNotEven text from (length text) → from ≤ k → begins_list (drop k text) ≡ true → IsClosed (drop k text)
closed_behind text from k f above h =
    let s : List ℕ = drop k text in
    let all : take (length s) s ≡ s = take_all (length s) s (omega arith) in
    (length s, some_bytes s h, omega arith, ap open_count all ∙ (let le = behind_closed text from k f above in let e : opens s - closes s ≡ 0 = omega (arith, le) in e))

never_closed : (text : List ℕ) (o : ℕ) → IsEven (drop o text) → AreNotEven text (o + 1) (length text) → IsNeverClosed (drop o text)
never_closed text o even f = λ m some le.
    let s : List ℕ = drop o text in
    let rest : opens (drop m s) ≤ closes (drop m s) = (let P : List ℕ → Type 0 = λ x. opens x ≤ closes x in subst P (sym (drop-drop m o text)) (behind_closed text (o + 1) (o + m) f (omega arith))) in
    let whole : take m s ++ drop m s ≡ s = take-append-drop m s in
    let os : opens s ≡ opens (take m s) + opens (drop m s) = ap opens (sym whole) ∙ opens-append (take m s) (drop m s) in
    let cs : closes s ≡ closes (take m s) + closes (drop m s) = ap closes (sym whole) ∙ closes-append (take m s) (drop m s) in
    let more : closes (take m s) < opens (take m s) = omega (arith, rest, os, cs, even.1) in
    omega (arith, more)

-- the whole text was read
pub innermost_found : (text : List ℕ) (n : ℕ) (found : Option ℕ) → length text ≤ n → IsLastEven text n found → MatchOption found (AreAllClosed text) (IsInnermostOpen text)
innermost_found text n None le f = λ k h. closed_behind text 0 k (λ j a b. f j a (omega arith)) (omega arith) h
innermost_found text n (Some o) le (lt, even, f) =
    let behind : AreNotEven text (o + 1) (length text) = λ j a b. f j a (omega arith) in
    record { begins = even.0; never = never_closed text o even behind; innermost = λ k above h. closed_behind text (o + 1) k behind (omega arith) h }

-- how many are left to come
pub opens_left : (bytes : List ℕ) (i r n : ℕ) (next : Bool) → IsStep bytes i r next → n ≡ opens (drop i (text_of bytes)) → n - opens_at r ≡ opens (drop (i + 1) (text_of bytes))
opens_left bytes i r n next s e = let k : opens (drop i (text_of bytes)) ≡ opens_at r + opens (drop (i + 1) (text_of bytes)) = ap opens s.here ∙ opens-cons r (drop (i + 1) (text_of bytes)) in omega (arith, e, k)

pub closes_left : (bytes : List ℕ) (i r n : ℕ) (next : Bool) → IsStep bytes i r next → n ≡ closes (drop i (text_of bytes)) → n - closes_at r ≡ closes (drop (i + 1) (text_of bytes))
closes_left bytes i r n next s e = let k : closes (drop i (text_of bytes)) ≡ closes_at r + closes (drop (i + 1) (text_of bytes)) = ap closes s.here ∙ closes-cons r (drop (i + 1) (text_of bytes)) in omega (arith, e, k)

even_here : (r : ℕ) (s : List ℕ) → (r == 40) ≡ true → (opens (r ∷ s) ≡ opens s + 1) × (closes (r ∷ s) ≡ closes s)
even_here r s t =
    let is : r ≡ 40 = grind (arith, nat_tests) in
    let u : (r == 41) ≡ false = rw is refl in
    let o : opens (r ∷ s) ≡ 1 + opens s = opens-cons r s ∙ ap (λ x. cond x 1 0 + opens s) t in
    let c : closes (r ∷ s) ≡ 0 + closes s = closes-cons r s ∙ ap (λ x. cond x 1 0 + closes s) u in
    (omega (arith, o), omega (arith, c))

is_even_at : (r : ℕ) (s : List ℕ) (o c : ℕ) → o ≡ opens s → c ≡ closes s → (r == 40 && o == c) ≡ true → IsEven (r ∷ s)
is_even_at r s o c e f h = by_parts (r == 40) (o == c) refl refl h where
  by_parts : (t u : Bool) → (r == 40) ≡ t → (o == c) ≡ u → (t && u) ≡ true → IsEven (r ∷ s)
  by_parts true true a b k =
      let p = even_here r s a in
      let same : o ≡ c = grind (arith, nat_tests) in
      (a, omega (arith, p.0, p.1, same, e, f))
  by_parts true false a b k = absurd (cc)
  by_parts false u a b k = absurd (cc)

not_even_at : (r : ℕ) (s : List ℕ) (o c : ℕ) → o ≡ opens s → c ≡ closes s → (r == 40 && o == c) ≡ false → IsEven (r ∷ s) → ⊥
not_even_at r s o c e f h even = by_parts (r == 40) (o == c) refl refl h where
  by_parts : (t u : Bool) → (r == 40) ≡ t → (o == c) ≡ u → (t && u) ≡ false → ⊥
  by_parts true true a b k = absurd (cc)
  by_parts true false a b k =
      let p = even_here r s a in
      let same : o ≡ c = omega (arith, p.0, p.1, even.1, e, f) in
      let other : (o == c) ≡ true = grind (arith, nat_tests) in
      absurd (cc (other, b))
  by_parts false u a b k = let t = even.0 in absurd (cc (a, t))

no_more_even : (text : List ℕ) (from i : ℕ) → AreNotEven text from i → (IsEven (drop i text) → ⊥) → AreNotEven text from (i + 1)
no_more_even text from i f here k le lt e = elim (cases_eq k i) [
  | inl same ↦ here (subst (λ n. IsEven (drop n text)) same e)
  | inr other ↦ f k le (omega arith) e
]

-- one byte more: a bracket after which as many lists are closed as opened, or none
pub even_more : (bytes : List ℕ) (i r o c : ℕ) (next : Bool) → IsStep bytes i r next → o ≡ opens (drop (i + 1) (text_of bytes)) → c ≡ closes (drop (i + 1) (text_of bytes))
    → (r == 40 && o == c) ≡ true → IsLastEven (text_of bytes) (i + 1) (Some i)
even_more bytes i r o c next s e f h =
    (omega arith, subst IsEven (sym s.here) (is_even_at r (drop (i + 1) (text_of bytes)) o c e f h), λ k le lt. absurd (omega arith))

pub even_same : (bytes : List ℕ) (i r o c : ℕ) (next : Bool) (found : Option ℕ) → IsStep bytes i r next → o ≡ opens (drop (i + 1) (text_of bytes)) → c ≡ closes (drop (i + 1) (text_of bytes))
    → (r == 40 && o == c) ≡ false → IsLastEven (text_of bytes) i found → IsLastEven (text_of bytes) (i + 1) found
even_same bytes i r o c next None s e f h l =
    no_more_even (text_of bytes) 0 i l (λ even. not_even_at r (drop (i + 1) (text_of bytes)) o c e f h (subst IsEven s.here even))
even_same bytes i r o c next (Some p) s e f h l =
    (omega (arith, l.0), l.1, no_more_even (text_of bytes) (p + 1) i l.2 (λ even. not_even_at r (drop (i + 1) (text_of bytes)) o c e f h (subst IsEven s.here even)))
