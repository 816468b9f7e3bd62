-- Numbers in a row that are distinct.
use Rattle.std.proofs.Common.{◌≡◌, ℕ, zero, suc, ◌+◌, ◌≤◌, ◌<◌, Bool, true, false, ◌||◌, cond, List, [], ◌∷◌, length, refl, sym, ap, ◌∙◌, arith}
use Rattle.std.proofs.lemmas.Bool.{and_parts, or_parts, and_from, not_from_false}
use Rattle.std.proofs.lemmas.Bool.Decides.{nat_tests}
use Rattle.std.specs.Prelude.{not, ◌==◌, ◌&&◌, nat_le, nat_lt}
use Rattle.std.specs.List.{list_all, list_any}
use Rattle.lc_lemmas.proofs.Booleans.{not_true}
use Rattle.lc_object.specs.WellFormed.{are_distinct, numbers_from}

-- numbers from `low` on, below the count
abbrev pub is_between : ℕ → ℕ → ℕ → Bool
is_between low count r = nat_le low r && nat_lt r count

-- a row without the first of its numbers that is this one
abbrev without : ℕ → List ℕ → List ℕ
without x [] = []
without x (r ∷ rs) = cond (r == x) rs (r ∷ without x rs)

abbrev stands_in : ℕ → List ℕ → Bool
stands_in x rs = list_any (λ m. m == x) rs

one_fewer : (x : ℕ) (rs : List ℕ) → length rs ≤ suc (length (without x rs))
one_fewer x [] = omega arith
one_fewer x (r ∷ rs) = by_test (r == x) (one_fewer x rs) where
  by_test : (b : Bool) → length rs ≤ suc (length (without x rs)) → suc (length rs) ≤ suc (length (cond b rs (r ∷ without x rs)))
  by_test true h = omega arith
  by_test false h = omega (arith, h)

all_without : (p : ℕ → Bool) (x : ℕ) (rs : List ℕ) → list_all p rs ≡ true → list_all p (without x rs) ≡ true
all_without p x [] h = refl
all_without p x (r ∷ rs) h = by_test (r == x) (and_parts (p r) (list_all p rs) h) (λ g. all_without p x rs g) where
  by_test : (b : Bool) → (p r ≡ true) × (list_all p rs ≡ true) → (list_all p rs ≡ true → list_all p (without x rs) ≡ true) → list_all p (cond b rs (r ∷ without x rs)) ≡ true
  by_test true h f = h.1
  by_test false h f = and_from (p r) (list_all p (without x rs)) h.0 (f h.1)

any_without : (p : ℕ → Bool) (x : ℕ) (rs : List ℕ) → list_any p rs ≡ false → list_any p (without x rs) ≡ false
any_without p x [] h = refl
any_without p x (r ∷ rs) h = by_test (r == x) (or_parts (p r) (list_any p rs) h) (λ g. any_without p x rs g) where
  by_test : (b : Bool) → (p r ≡ false) × (list_any p rs ≡ false) → (list_any p rs ≡ false → list_any p (without x rs) ≡ false) → list_any p (cond b rs (r ∷ without x rs)) ≡ false
  by_test true h f = h.1
  by_test false h f = ap (λ b. b || list_any p (without x rs)) h.0 ∙ f h.1

still_distinct : (x : ℕ) (rs : List ℕ) → are_distinct rs ≡ true → are_distinct (without x rs) ≡ true
still_distinct x [] h = refl
still_distinct x (r ∷ rs) h = by_test (r == x) (and_parts (not (stands_in r rs)) (are_distinct rs) h) (λ g. still_distinct x rs g) where
  by_test : (b : Bool) → (not (stands_in r rs) ≡ true) × (are_distinct rs ≡ true) → (are_distinct rs ≡ true → are_distinct (without x rs) ≡ true) → are_distinct (cond b rs (r ∷ without x rs)) ≡ true
  by_test true h f = h.1
  by_test false h f = and_from (not (stands_in r (without x rs))) (are_distinct (without x rs)) (not_from_false _ (any_without (λ m. m == r) x rs (not_true _ h.0))) (f h.1)

same : (m n : ℕ) → true ≡ (m == n) → m ≡ n
same m n h = grind (arith, nat_tests)

gone : (x : ℕ) (rs : List ℕ) → are_distinct rs ≡ true → stands_in x (without x rs) ≡ false
gone x [] h = refl
gone x (r ∷ rs) h = by_test (r == x) refl (and_parts (not (stands_in r rs)) (are_distinct rs) h) (λ g. gone x rs g) where
  by_test : (b : Bool) → b ≡ (r == x) → (not (stands_in r rs) ≡ true) × (are_distinct rs ≡ true) → (are_distinct rs ≡ true → stands_in x (without x rs) ≡ false) → stands_in x (cond b rs (r ∷ without x rs)) ≡ false
  by_test true e h f = ap (λ n. stands_in n rs) (sym (same r x e)) ∙ not_true _ h.0
  by_test false e h f = ap (λ b. b || stands_in x (without x rs)) (sym e) ∙ f h.1

no_between : (low r : ℕ) → is_between low (low + 0) r ≡ true → ⊥
no_between low r h = grind (arith, nat_tests)

closer : (low n r : ℕ) → is_between low (low + suc n) r ≡ true → (r == low + n) ≡ false → is_between low (low + n) r ≡ true
closer low n r h g = grind (arith, nat_tests)

narrower : (low n : ℕ) (rs : List ℕ) → list_all (is_between low (low + suc n)) rs ≡ true → stands_in (low + n) rs ≡ false → list_all (is_between low (low + n)) rs ≡ true
narrower low n [] h g = refl
narrower low n (r ∷ rs) h g =
    let a = and_parts (is_between low (low + suc n) r) (list_all (is_between low (low + suc n)) rs) h in
    let b = or_parts (r == low + n) (stands_in (low + n) rs) g in
    and_from (is_between low (low + n) r) (list_all (is_between low (low + n)) rs) (closer low n r a.0 b.0) (narrower low n rs a.1 b.1)

-- there are no more distinct numbers than places for them
pub few_between : (n low : ℕ) (rs : List ℕ) → list_all (is_between low (low + n)) rs ≡ true → are_distinct rs ≡ true → length rs ≤ n
few_between zero low [] h g = omega arith
few_between zero low (r ∷ rs) h g = absurd (no_between low r (and_parts (is_between low (low + 0) r) (list_all (is_between low (low + 0)) rs) h).0)
few_between (suc n) low rs h g =
    let fewer = without (low + n) rs in
    let between = narrower low n fewer (all_without (is_between low (low + suc n)) (low + n) rs h) (gone (low + n) rs g) in
    omega (arith, one_fewer (low + n) rs, few_between n low fewer between (still_distinct (low + n) rs g))

-- numbers one after the other
pub as_many : (n k : ℕ) → length (numbers_from n k) ≡ k
as_many n zero = refl
as_many n (suc k) = ap suc (as_many (suc n) k)

other : (n m : ℕ) → n < m → (m == n) ≡ false
other n m h = grind (arith, nat_tests)

pub not_among : (n m k : ℕ) → n < m → stands_in n (numbers_from m k) ≡ false
not_among n m zero h = refl
not_among n m (suc k) h = ap (λ b. b || stands_in n (numbers_from (suc m) k)) (other n m h) ∙ not_among n (suc m) k (omega (arith, h))

pub one_after_other : (n k : ℕ) → are_distinct (numbers_from n k) ≡ true
one_after_other n zero = refl
one_after_other n (suc k) = and_from (not (stands_in n (numbers_from (suc n) k))) (are_distinct (numbers_from (suc n) k)) (not_from_false _ (not_among n (suc n) k (omega arith))) (one_after_other (suc n) k)
