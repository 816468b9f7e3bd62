-- What a sink is fed of a file.
use Rattle.std.proofs.Common.{◌≡◌, ℕ, ◌+◌, ◌-◌, ◌≤◌, min, List, [], ◌++◌, length, take, drop, Option, Result, Ok, Err, OnOk, is_err, false, refl, sym, ◌∙◌, subst, arith, append_assoc, append-nil}
use Rattle.std.proofs.KnownBytes.{Consumes-nil, Consumes-trans, Consumes-kept}
use Rattle.std.proofs.lemmas.List.{length-append, length-drop, length-take-le, take-append-le}
use Rattle.std.proofs.Math.Nat.{min-le_left, min-le_right}
use Rattle.std.specs.Io.KnownBytes.{Consumes, Keeps}
use Rattle.lincheck.specs.Reading.{IsFedOn, most_bytes}

-- as it was in between: `left` bytes of the limit are left, and a sink was fed those that were read
abbrev pub IsFedSoFar : {S X : Type 0} → (S → X → List ℕ → Type 0) → S → S → Option (List ℕ) → Option (List ℕ) → ℕ → Type 0
IsFedSoFar WasFed old new before after left =
    (bytes : List ℕ) × (length bytes + left ≡ most_bytes) × Consumes before after bytes × IsFedOn WasFed old new bytes

-- there is as much room as is left, and as the buffer has, which keeps its length if its front is filled
pub filled_front_length : (front piece : List ℕ) (room left : ℕ) → room ≡ min left 16384 → length piece ≡ 16384 → length front ≡ length (take room piece)
    → (room ≤ left) × (length front ≡ room) × (length (front ++ drop room piece) ≡ 16384)
filled_front_length front piece room left is whole same =
    let least : room ≤ left = rw is (min-le_left left 16384) in
    let most : room ≤ 16384 = rw is (min-le_right left 16384) in
    let front_is : length front ≡ room = same ∙ length-take-le room piece (omega (arith, most, whole)) in
    (least, front_is, omega (arith, front_is, most, whole, length-append front (drop room piece), length-drop room piece))

-- what a read gave is the front of the buffer
pub front_given : (n : ℕ) (front rest : List ℕ) → n ≤ length front → take n (front ++ rest) ≡ take n front
front_given n front rest h = take-append-le n front rest h

-- what holds if a call succeeds holds if it did not fail
pub fed_on : {T E : Type 0} (result : Result T E) (P : Type 0) → false ≡ is_err result → OnOk result P → P
fed_on (Ok x) P e h = h
fed_on (Err x) P e h = absurd (cc)

module _ {S X : Type 0} (WasFed : S → X → List ℕ → Type 0) where
  -- one piece more
  pub fed_more : (old sink new : S) (before mid after : Option (List ℕ)) (left n : ℕ) (piece : List ℕ) → IsFedSoFar WasFed old sink before mid left
      → Consumes mid after piece → length piece ≡ n → n ≤ left → IsFedOn WasFed sink new piece → IsFedSoFar WasFed old new before after (left - n)
  fed_more old sink new before mid after left n piece (bytes, count, read, fed) more is most on = (
    bytes ++ piece,
    omega (arith, count, is, most, length-append bytes piece),
    Consumes-trans before mid after bytes piece read more,
    λ about first h. subst (WasFed new about) (append_assoc first bytes piece) (on about (first ++ bytes) (fed about first h)),
  )

  -- a read that gave nothing
  pub fed_kept : (old new : S) (before mid after : Option (List ℕ)) (left : ℕ) → IsFedSoFar WasFed old new before mid left → Keeps mid after → IsFedSoFar WasFed old new before after left
  fed_kept old new before mid after left (bytes, count, read, fed) kept = (bytes, count, Consumes-kept before mid after bytes read kept, fed)
