-- The least number of a proof that no condition has.
use Rattle.std.proofs.Common.{◌≡◌, ℕ, ◌<◌, ◌≤◌, ◌⊎◌, inl, inr, Bool, true, false, cond, List, [], ◌∷◌, Option, Some, None, refl, sym, ◌∙◌, subst, arith}
use Rattle.std.proofs.lemmas.Bool.{and_parts, ltb-true, ltb-false, cond-true, cond-false, eqb-true, eq-eqb, ne_eqb}
use Rattle.std.specs.Prelude.{◌==◌, nat_lt, if◌then◌else◌}
use Rattle.lc_base.specs.declared.refusal.Refusal.{Refusal}
use Rattle.lc_base.specs.declared.refusal.Refusal.TheVariants.{Extra}
use Rattle.lc_kernel.specs.Proofs.{Proof}
use Rattle.lc_cert.specs.Certificates.{Entry, is_above, is_rising, proof_at}
use Rattle.lc_check.specs.Verdicts.{IsExtra, HasNoExtra, IsFirstExtra}

-- if the first entry has this number, and if it has another
pub at_first : (e : Entry) (es : List Entry) (k : ℕ) → e.number ≡ k → proof_at (e ∷ es) k ≡ Some e.proof
at_first e es k same = cond-true _ _ _ (eq-eqb e.number k same)

pub at_other : (e : Entry) (es : List Entry) (k : ℕ) → (e.number ≡ k → ⊥) → proof_at (e ∷ es) k ≡ proof_at es k
at_other e es k other = cond-false _ _ _ (ne_eqb e.number k other)

-- a number that is not that of the first entry
pub extra_later : (n k : ℕ) (e : Entry) (es : List Entry) → (e.number ≡ k → ⊥) → IsExtra n (e ∷ es) k → IsExtra n es k
extra_later n k e es other x = record { proof = x.proof; stands = sym (at_other e es k other) ∙ x.stands; behind = x.behind }

pub extra_before : (n k : ℕ) (e : Entry) (es : List Entry) → (e.number ≡ k → ⊥) → IsExtra n es k → IsExtra n (e ∷ es) k
extra_before n k e es other x = record { proof = x.proof; stands = at_other e es k other ∙ x.stands; behind = x.behind }

-- numbers that rise are above the last one
abbrev pub AboveLast : ℕ → List Entry → Type 0
AboveLast last es = (k : ℕ) (p : Proof) → is_rising (Some last) es ≡ true → proof_at es k ≡ Some p → last < k

above_first : (last : ℕ) (e : Entry) (es : List Entry) (k : ℕ) (p : Proof) → AboveLast e.number es → is_rising (Some e.number) es ≡ true → last < e.number → (b : Bool) → (e.number == k) ≡ b
    → cond b (Some e.proof) (proof_at es k) ≡ Some p → last < k
above_first last e es k p later h lt true same at = let is = eqb-true e.number k same in omega (arith, is, lt)
above_first last e es k p later h lt false same at = let above = later k p h at in omega (arith, above, lt)

pub above_last : (last : ℕ) (es : List Entry) → AboveLast last es
above_last last [] k p h at = absurd (let f : None ≡ Some p = at in cc)
above_last last (e ∷ es) k p h at =
    let parts = and_parts (nat_lt last e.number) (is_rising (Some e.number) es) h in
    above_first last e es k p (above_last e.number es) parts.1 (ltb-true last e.number parts.0) (e.number == k) refl at

-- an extra number is that of the first entry, or above it
pub not_below : (n : ℕ) (e : Entry) (es : List Entry) (j : ℕ) → is_rising (Some e.number) es ≡ true → (x : IsExtra n (e ∷ es) j) → (b : Bool) → (e.number == j) ≡ b → cond b (Some e.proof) (proof_at es j) ≡ Some x.proof → e.number ≤ j
not_below n e es j h x true same at = let is = eqb-true e.number j same in omega (arith, is)
not_below n e es j h x false same at = let later = above_last e.number es j x.proof h at in omega (arith, later)

-- ---- none

-- the first of the numbers that are not below n
abbrev first_behind : ℕ → List Entry → Option ℕ
first_behind n [] = None
first_behind n (e ∷ es) = if nat_lt e.number n then first_behind n es else Some e.number

none_of : (n : ℕ) (e : Entry) (es : List Entry) (k : ℕ) → (first_behind n es ≡ None → HasNoExtra n es) → (b : Bool) → nat_lt e.number n ≡ b → cond b (first_behind n es) (Some e.number) ≡ None
    → IsExtra n (e ∷ es) k → ⊥
none_of n e es k later true below h x =
    let lt = ltb-true e.number n below in
    let le = x.behind in
    later h k (extra_later n k e es (λ same. omega (arith, same, lt, le)) x)
none_of n e es k later false below h x = let f : Some e.number ≡ None = h in cc

none_behind : (n : ℕ) (es : List Entry) → first_behind n es ≡ None → HasNoExtra n es
none_behind n [] h k x = let f : None ≡ Some x.proof = x.stands in cc
none_behind n (e ∷ es) h k x = none_of n e es k (none_behind n es) (nat_lt e.number n) refl h x

-- ---- the least

abbrev IsLeast : ℕ → List Entry → ℕ → Type 0
IsLeast n es k = IsExtra n es k × ((j : ℕ) → IsExtra n es j → k ≤ j)

least_of : (n : ℕ) (e : Entry) (es : List Entry) (k : ℕ) → (first_behind n es ≡ Some k → IsLeast n es k) → is_rising (Some e.number) es ≡ true → (b : Bool) → nat_lt e.number n ≡ b
    → cond b (first_behind n es) (Some e.number) ≡ Some k → IsLeast n (e ∷ es) k
least_of n e es k later rises true below h =
    let lt = ltb-true e.number n below in
    let found = later h in
    let at = found.0.behind in (
      extra_before n k e es (λ same. omega (arith, same, lt, at)) found.0,
      λ j x. (let le = x.behind in found.1 j (extra_later n j e es (λ same. omega (arith, same, lt, le)) x)),
    )
least_of n e es k later rises false below h =
    let is : e.number ≡ k = (let f : Some e.number ≡ Some k = h in cc) in
    let le = ltb-false e.number n below in
    subst (IsLeast n (e ∷ es)) is (
      record { proof = e.proof; stands = at_first e es e.number refl; behind = le },
      λ j x. not_below n e es j rises x (e.number == j) refl x.stands,
    )

least_behind : (n : ℕ) (last : Option ℕ) (es : List Entry) (k : ℕ) → is_rising last es ≡ true → first_behind n es ≡ Some k → IsLeast n es k
least_behind n last [] k rises h = absurd (let f : None ≡ Some k = h in cc)
least_behind n last (e ∷ es) k rises h =
    let risen = (and_parts (is_above last e.number) (is_rising (Some e.number) es) rises).1 in
    least_of n e es k (least_behind n (Some e.number) es k risen) risen (nat_lt e.number n) refl h

-- ---- either

by_first : (n : ℕ) (es : List Entry) → is_rising None es ≡ true → (o : Option ℕ) → first_behind n es ≡ o → HasNoExtra n es ⊎ ((r : Refusal) × IsFirstExtra n es r)
by_first n es rises None h = inl (none_behind n es h)
by_first n es rises (Some k) h = let found = least_behind n None es k rises h in inr (Extra k, (k, found.0, found.1, refl))

pub extra_or_none : (n : ℕ) (es : List Entry) → is_rising None es ≡ true → HasNoExtra n es ⊎ ((r : Refusal) × IsFirstExtra n es r)
extra_or_none n es rises = by_first n es rises (first_behind n es) refl
