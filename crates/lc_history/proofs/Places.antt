-- Places of a list's elements that pass a test.
use Rattle.std.proofs.Common.{◌≡◌, ℕ, zero, suc, ◌<◌, ◌≤◌, Bool, true, false, cond, List, [], ◌∷◌, Some, take, slice_get, arith}
use Rattle.lc_history.specs.History.{count}

-- a longer front has no fewer
pub count_longer_front : {A : Type 0} (test : A → Bool) (xs : List A) (m n : ℕ) → m ≤ n → count test (take m xs) ≤ count test (take n xs)
count_longer_front test xs zero n le = omega arith
count_longer_front test xs (suc m) zero le = absurd (omega arith)
count_longer_front test [] (suc m) (suc n) le = omega arith
count_longer_front test (x ∷ xs) (suc m) (suc n) le = step (test x) (count_longer_front test xs m n (omega arith))
  where
    step : (b : Bool) → count test (take m xs) ≤ count test (take n xs) → cond b (suc (count test (take m xs))) (count test (take m xs)) ≤ cond b (suc (count test (take n xs))) (count test (take n xs))
    step true h = omega arith
    step false h = h

-- a front has no more than the whole
pub count_of_front : {A : Type 0} (test : A → Bool) (xs : List A) (m : ℕ) → count test (take m xs) ≤ count test xs
count_of_front test xs zero = omega arith
count_of_front test [] (suc m) = omega arith
count_of_front test (x ∷ xs) (suc m) = step (test x) (count_of_front test xs m)
  where
    step : (b : Bool) → count test (take m xs) ≤ count test xs → cond b (suc (count test (take m xs))) (count test (take m xs)) ≤ cond b (suc (count test xs)) (count test xs)
    step true h = omega arith
    step false h = h

-- a front that ends after the k-th has more than k
pub count_behind_place : {A : Type 0} (test : A → Bool) (xs : List A) (i n : ℕ) (x : A) → slice_get xs i ≡ Some x → test x ≡ true → i < n → count test (take i xs) < count test (take n xs)
count_behind_place test [] i n x at is lt = absurd cc
count_behind_place test (y ∷ xs) i zero x at is lt = absurd (omega arith)
count_behind_place test (y ∷ xs) zero (suc n) x at is lt = let e : test y ≡ true = cc (at, is) in rw e (omega arith)
count_behind_place test (y ∷ xs) (suc i) (suc n) x at is lt = step (test y) (count_behind_place test xs i n x at is (omega arith))
  where
    step : (b : Bool) → count test (take i xs) < count test (take n xs) → cond b (suc (count test (take i xs))) (count test (take i xs)) < cond b (suc (count test (take n xs))) (count test (take n xs))
    step true h = omega arith
    step false h = h
