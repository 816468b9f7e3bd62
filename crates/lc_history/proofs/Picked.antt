-- The values of the elements that pass a test.
use Rattle.std.proofs.Common.{◌≡◌, ℕ, zero, suc, Bool, true, false, cond, List, [], ◌∷◌, Some, take, slice_get, length, refl, ap, arith}
use Rattle.lc_history.specs.History.{count}

-- the values of the elements that pass
abbrev pub picked : {A B : Type 0} → (A → Bool) → (A → B) → List A → List B
picked test f [] = []
picked test f (x ∷ xs) = cond (test x) (f x ∷ picked test f xs) (picked test f xs)

pub length-picked : {A B : Type 0} (test : A → Bool) (f : A → B) (xs : List A) → length (picked test f xs) ≡ count test xs
length-picked test f [] = refl
length-picked test f (x ∷ xs) = step (test x) (length-picked test f xs)
  where
    step : (b : Bool) → length (picked test f xs) ≡ count test xs → length (cond b (f x ∷ picked test f xs) (picked test f xs)) ≡ cond b (suc (count test xs)) (count test xs)
    step true h = ap suc h
    step false h = h

-- the element that passes as the k-th gives the k-th value
pub picked_at : {A B : Type 0} (test : A → Bool) (f : A → B) (xs : List A) (i k : ℕ) (x : A) → slice_get xs i ≡ Some x → test x ≡ true → count test (take i xs) ≡ k
    → slice_get (picked test f xs) k ≡ Some (f x)
picked_at test f [] i k x at is before = absurd cc
picked_at test f (y ∷ xs) zero k x at is before =
    let e : test y ≡ true = cc (at, is) in
    let z : k ≡ 0 = omega (arith, before) in
    rw (e, z) (cc)
picked_at test f (y ∷ xs) (suc i) k x at is before = step (test y) k before (λ j h. picked_at test f xs i j x at is h)
  where
    step : (b : Bool) (k : ℕ) → cond b (suc (count test (take i xs))) (count test (take i xs)) ≡ k → ((j : ℕ) → count test (take i xs) ≡ j → slice_get (picked test f xs) j ≡ Some (f x))
        → slice_get (cond b (f y ∷ picked test f xs) (picked test f xs)) k ≡ Some (f x)
    step true zero e h = absurd (omega arith)
    step true (suc k) e h = h k (omega arith)
    step false k e h = h k e

-- where the k-th value comes from
pub record Source {A B : Type 0} (test : A → Bool) (f : A → B) (xs : List A) (k : ℕ) (y : B) : Type 0 where
  pub place : ℕ
  pub element : A
  pub stands : slice_get xs place ≡ Some element
  pub passes : test element ≡ true
  pub before : count test (take place xs) ≡ k
  pub value : f element ≡ y

later : {A B : Type 0} (test : A → Bool) (f : A → B) (x : A) (xs : List A) (k : ℕ) (y : B) → Source test f xs k y → (b : Bool) → test x ≡ b → Source test f (x ∷ xs) (cond b (suc k) k) y
later test f x xs k y s b e = record {
  place = suc s.place;
  element = s.element;
  stands = s.stands;
  passes = s.passes;
  before = rw e (ap (λ n. cond b (suc n) n) s.before);
  value = s.value;
}

pub picked_from : {A B : Type 0} (test : A → Bool) (f : A → B) (xs : List A) (k : ℕ) (y : B) → slice_get (picked test f xs) k ≡ Some y → Source test f xs k y
picked_from test f [] k y at = absurd cc
picked_from test f (x ∷ xs) k y at = step (test x) refl k at (λ j h. picked_from test f xs j y h)
  where
    step : (b : Bool) → test x ≡ b → (k : ℕ) → slice_get (cond b (f x ∷ picked test f xs) (picked test f xs)) k ≡ Some y → ((j : ℕ) → slice_get (picked test f xs) j ≡ Some y → Source test f xs j y) → Source test f (x ∷ xs) k y
    step true e zero at h = record { place = 0; element = x; stands = refl; passes = e; before = refl; value = cc }
    step true e (suc k) at h = later test f x xs k y (h k at) true e
    step false e k at h = later test f x xs k y (h k at) false e
