-- The lists of all clients have as many labels together as there are.
use Rattle.std.proofs.Common.{◌≡◌, ℕ, zero, suc, ◌+◌, ◌<◌, ◌≤◌, ◌==◌, Bool, true, false, cond, nat_lt, List, [], ◌∷◌, Some, map, length, refl, ap, ◌∙◌, arith}
use Rattle.std.specs.Prelude.{slice_get, sum}
use Rattle.std.specs.List.{list_all}
use Rattle.std.proofs.lemmas.Bool.Decides.{nat_tests}
use Rattle.std.proofs.lemmas.List.Sums.{sum_by-cons}
use Rattle.std.proofs.lemmas.Option.{same_Some}
use Rattle.lc_lemmas.proofs.Booleans.{left_true, right_true}
use Rattle.lc_sound.specs.Instrumented.{Label}
use Rattle.lc_run.specs.Labels.{labels_by}
use Rattle.lc_run.specs.Ordering.{has_client}

-- ---- numbers

less : (d k : ℕ) → d < k → (d == k) ≡ false
less d k h = grind (arith, nat_tests)

same-below : (d k : ℕ) → (d == k) ≡ true → d < suc k
same-below d k e = grind (arith, nat_tests)

other-above : (d k : ℕ) → (d == k) ≡ false → k ≤ d → suc k ≤ d
other-above d k e h = grind (arith, nat_tests)

told-below : (d n : ℕ) → nat_lt d n ≡ true → d < 0 + n
told-below d n t = grind (arith, nat_tests)

plus : (a b c d : ℕ) → a ≡ c → b ≡ d → a + b ≡ c + d
plus a b c d e f = omega arith

plus-first : (a b c d : ℕ) → a ≡ suc c → b ≡ d → a + b ≡ suc (c + d)
plus-first a b c d e f = omega arith

plus-second : (a b c d : ℕ) → a ≡ c → b ≡ suc d → a + b ≡ suc (c + d)
plus-second a b c d e f = omega arith

-- ---- how many labels n clients have, from this one on

abbrev together : ℕ → ℕ → List Label → ℕ
together k zero ls = 0
together k (suc n) ls = length (labels_by k ls) + together (suc k) n ls

of-none : (k n : ℕ) → together k n [] ≡ 0
of-none k zero = refl
of-none k (suc n) = plus 0 (together (suc k) n []) 0 0 refl (of-none (suc k) n)

one-more : (c : ℕ) (l : Label) (ls : List Label) (b : Bool) → (l.client == c) ≡ b → length (labels_by c (l ∷ ls)) ≡ cond b (suc (length (labels_by c ls))) (length (labels_by c ls))
one-more c l ls true e = ap (λ b. length (cond b (l ∷ labels_by c ls) (labels_by c ls))) e
one-more c l ls false e = ap (λ b. length (cond b (l ∷ labels_by c ls) (labels_by c ls))) e

-- a label of a client before these
before : (k n : ℕ) (l : Label) (ls : List Label) → l.client < k → together k n (l ∷ ls) ≡ together k n ls
before k zero l ls h = refl
before k (suc n) l ls h =
    plus (length (labels_by k (l ∷ ls))) (together (suc k) n (l ∷ ls)) (length (labels_by k ls)) (together (suc k) n ls) (one-more k l ls false (less l.client k h)) (before (suc k) n l ls (omega arith))

-- a label of one of these
among : (k n : ℕ) (l : Label) (ls : List Label) → k ≤ l.client → l.client < k + n → together k n (l ∷ ls) ≡ suc (together k n ls)
among k zero l ls h m = absurd (omega arith)
among k (suc n) l ls h m = by (l.client == k) refl (λ later. among (suc k) n l ls later (omega arith))
  where
    by : (b : Bool) → (l.client == k) ≡ b → (suc k ≤ l.client → together (suc k) n (l ∷ ls) ≡ suc (together (suc k) n ls)) → together k (suc n) (l ∷ ls) ≡ suc (together k (suc n) ls)
    by true e rest =
        plus-first (length (labels_by k (l ∷ ls))) (together (suc k) n (l ∷ ls)) (length (labels_by k ls)) (together (suc k) n ls) (one-more k l ls true e) (before (suc k) n l ls (same-below l.client k e))
    by false e rest =
        plus-second (length (labels_by k (l ∷ ls))) (together (suc k) n (l ∷ ls)) (length (labels_by k ls)) (together (suc k) n ls) (one-more k l ls false e) (rest (other-above l.client k e h))

all-of : (n : ℕ) (ls : List Label) → list_all (has_client n) ls ≡ true → together 0 n ls ≡ length ls
all-of n [] h = of-none 0 n
all-of n (l ∷ ls) h =
    among 0 n l ls (omega arith) (told-below l.client n (left_true (has_client n l) (list_all (has_client n) ls) h))
    ∙ ap suc (all-of n ls (right_true (has_client n l) (list_all (has_client n) ls) h))

of-lists : (k : ℕ) (lists : List (List Label)) (ls : List Label) → ((c : ℕ) → c < length lists → slice_get lists c ≡ Some (labels_by (k + c) ls)) → sum (map length lists) ≡ together k (length lists) ls
of-lists k [] ls h = refl
of-lists k (x ∷ lists) ls h =
    let first : x ≡ labels_by (k + 0) ls = same_Some x (labels_by (k + 0) ls) (h 0 (omega arith)) in
    let here : k + 0 ≡ k = omega arith in
    sum_by-cons (λ n. n) (length x) (map length lists)
    ∙ plus (length x) (sum (map length lists)) (length (labels_by k ls)) (together (suc k) (length lists) ls) (ap length first ∙ ap (λ c. length (labels_by c ls)) here)
    (of-lists (suc k) lists ls (λ c m. h (suc c) (omega arith) ∙ ap (λ d. Some (labels_by d ls)) (later k c)))
  where
    later : (k c : ℕ) → k + suc c ≡ suc k + c
    later k c = omega arith

-- the lists of all clients
pub sum_of_lengths : (lists : List (List Label)) (ls : List Label) → list_all (has_client (length lists)) ls ≡ true → ((c : ℕ) → c < length lists → slice_get lists c ≡ Some (labels_by c ls)) → sum (map length lists) ≡ length ls
sum_of_lengths lists ls clients h = of-lists 0 lists ls (λ c m. h c m ∙ ap (λ d. Some (labels_by d ls)) (from-none c)) ∙ all-of (length lists) ls clients
  where
    from-none : (c : ℕ) → c ≡ 0 + c
    from-none c = omega arith
