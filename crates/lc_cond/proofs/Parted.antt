-- Which part is at a place, and what is left after it.
use Rattle.std.proofs.Common.{◌≡◌, ℕ, zero, suc, ◌+◌, ◌-◌, ◌<◌, ◌≤◌, Some, None, List, [], ◌∷◌, ◌++◌, map, drop, length, get_or, slice_get, refl, sym, ap, ◌∙◌, arith, add-zero}
use Rattle.std.proofs.lemmas.Option.{none-some, same_Some, slice_get_past}
use Rattle.lc_term.specs.Lists.{numbered}

module _ {A B C : Type 0} (view : C → A) where
  -- one of the first
  pub numbered_at : (f : ℕ → A → B) (n : ℕ) (xs : List C) (rest : List B) (k : ℕ) (x : C) → k < length xs → x ≡ get_or xs k x → slice_get (numbered f n (map view xs) ++ rest) k ≡ Some (f (n + k) (view x))
  numbered_at f n [] rest k x below is = absurd (omega arith)
  numbered_at f n (y ∷ xs) rest zero x below is = ap (λ z. Some (f n (view z))) (sym is) ∙ ap (λ m. Some (f m (view x))) (sym (add-zero n))
  numbered_at f n (y ∷ xs) rest (suc k) x below is =
      let e : suc n + k ≡ n + suc k = omega arith in numbered_at f (suc n) xs rest k x (omega arith) is ∙ ap (λ m. Some (f m (view x))) e

  pub mapped_at : (f : A → B) (xs : List C) (rest : List B) (k : ℕ) (x : C) → k < length xs → x ≡ get_or xs k x → slice_get (map f (map view xs) ++ rest) k ≡ Some (f (view x))
  mapped_at f [] rest k x below is = absurd (omega arith)
  mapped_at f (y ∷ xs) rest zero x below is = ap (λ z. Some (f (view z))) (sym is)
  mapped_at f (y ∷ xs) rest (suc k) x below is = mapped_at f xs rest k x (omega arith) is

  -- one after them
  pub numbered_behind : (f : ℕ → A → B) (n : ℕ) (xs : List C) (rest : List B) (k : ℕ) → length xs ≤ k → slice_get (numbered f n (map view xs) ++ rest) k ≡ slice_get rest (k - length xs)
  numbered_behind f n [] rest k past = let e : k ≡ k - 0 = omega arith in ap (slice_get rest) e
  numbered_behind f n (y ∷ xs) rest zero past = absurd (omega arith)
  numbered_behind f n (y ∷ xs) rest (suc k) past = let e : k - length xs ≡ suc k - length (y ∷ xs) = omega arith in numbered_behind f (suc n) xs rest k (omega arith) ∙ ap (slice_get rest) e

  pub mapped_behind : (f : A → B) (xs : List C) (rest : List B) (k : ℕ) → length xs ≤ k → slice_get (map f (map view xs) ++ rest) k ≡ slice_get rest (k - length xs)
  mapped_behind f [] rest k past = let e : k ≡ k - 0 = omega arith in ap (slice_get rest) e
  mapped_behind f (y ∷ xs) rest zero past = absurd (omega arith)
  mapped_behind f (y ∷ xs) rest (suc k) past = let e : k - length xs ≡ suc k - length (y ∷ xs) = omega arith in mapped_behind f xs rest k (omega arith) ∙ ap (slice_get rest) e

-- what is from a place on: what is at the place, and what comes after it
pub drop_one : {A : Type 0} (xs : List A) (k : ℕ) (x : A) → slice_get xs k ≡ Some x → drop k xs ≡ x ∷ drop (suc k) xs
drop_one [] k x at = absurd (none-some x at)
drop_one (y ∷ xs) zero x at = ap (λ z. z ∷ xs) (same_Some y x at)
drop_one (y ∷ xs) (suc k) x at = drop_one xs k x at

pub drop_past : {A : Type 0} (xs : List A) (k : ℕ) → slice_get xs k ≡ None → drop k xs ≡ []
drop_past [] zero at = refl
drop_past [] (suc k) at = refl
drop_past (y ∷ xs) zero at = absurd (none-some y (sym at))
drop_past (y ∷ xs) (suc k) at = drop_past xs k at

-- one after the others, and none after it
pub only_first : {A : Type 0} (x : A) (k n : ℕ) → k ≡ n → slice_get (x ∷ []) (k - n) ≡ Some x
only_first x k n is = (let e : k - n ≡ 0 = omega (arith, is) in ap (slice_get (x ∷ [])) e)

past : (k n : ℕ) → n ≤ k → (k ≡ n → ⊥) → 1 ≤ k - n
past k n h other = by (k - n) refl
  where
    by : (m : ℕ) → k - n ≡ m → 1 ≤ k - n
    by zero e = absurd (other (omega (arith, e, h)))
    by (suc m) e = omega (arith, e)

pub none_behind : {A : Type 0} (x : A) (k n : ℕ) → n ≤ k → (k ≡ n → ⊥) → slice_get (x ∷ []) (k - n) ≡ None
none_behind x k n h other = slice_get_past (x ∷ []) (k - n) (past k n h other)
