-- Products of whole numbers.
use Rattle.std.proofs.Common.{◌≡◌, zero, suc, ◌+◌, ◌*◌, ap, arith}
use Rattle.std.specs.Prelude.{ℤ, pos, negsuc, ◌+ℤ◌, ◌-ℤ◌, ◌*ℤ◌, ◌≤ℤ◌, ◌<ℤ◌}
use Rattle.std.proofs.lemmas.Nat.{mul-le}
use Rattle.std.proofs.lemmas.Int.{ints}
use borrow.Author.Differences.{up, down}

pub mul-add : (k a b : ℤ) → k *ℤ (a +ℤ b) ≡ k *ℤ a +ℤ k *ℤ b
mul-add k a b =
    let e : up (a +ℤ b) + (down a + down b) ≡ down (a +ℤ b) + (up a + up b) = omega (arith, ints) in
    omega (arith, ints, ap (λ x. up k * x) e, ap (λ x. down k * x) e)

pub mul-sub : (k a b : ℤ) → k *ℤ (a -ℤ b) ≡ k *ℤ a -ℤ k *ℤ b
mul-sub k a b =
    let e : up (a -ℤ b) + (down a + up b) ≡ down (a -ℤ b) + (up a + down b) = omega (arith, ints) in
    omega (arith, ints, ap (λ x. up k * x) e, ap (λ x. down k * x) e)

pub mul_assoc : (a b c : ℤ) → (a *ℤ b) *ℤ c ≡ a *ℤ (b *ℤ c)
mul_assoc a b c =
    let e : up (a *ℤ b) + (up a * down b + down a * up b) ≡ down (a *ℤ b) + (up a * up b + down a * down b) = omega (arith, ints) in
    let g : up (b *ℤ c) + (up b * down c + down b * up c) ≡ down (b *ℤ c) + (up b * up c + down b * down c) = omega (arith, ints) in
    omega (arith, ints, ap (λ x. up c * x) e, ap (λ x. down c * x) e, ap (λ x. up a * x) g, ap (λ x. down a * x) g)

pub mul_comm : (a b : ℤ) → a *ℤ b ≡ b *ℤ a
mul_comm a b = omega (arith, ints)

pub mul-neg : (k a : ℤ) → (pos 0 -ℤ k) *ℤ a ≡ pos 0 -ℤ k *ℤ a
mul-neg k a =
    let e : up (pos 0 -ℤ k) + up k ≡ down (pos 0 -ℤ k) + down k = omega (arith, ints) in
    omega (arith, ints, ap (λ x. up a * x) e, ap (λ x. down a * x) e)

pub mul-one : (a : ℤ) → pos 1 *ℤ a ≡ a
mul-one a = omega (arith, ints)

pub zero-mul : (n a : ℤ) → n ≡ pos 0 → n *ℤ a ≡ pos 0
zero-mul n a is = rw is (omega (arith, ints))

-- a number that is at least 0 times one that is at most 0
pub mul-low : (k a : ℤ) → pos 0 ≤ℤ k → a ≤ℤ pos 0 → (k *ℤ a) ≤ℤ pos 0
mul-low k a h g = grind (arith, ints)

-- a multiple of k below k is one of a number that is at most 0
pub multiple_below : (k a : ℤ) → pos 1 ≤ℤ k → (k *ℤ a) <ℤ k → a ≤ℤ pos 0
multiple_below k (negsuc n) positive below = omega (arith, ints)
multiple_below (pos m) (pos zero) positive below = omega (arith, ints)
multiple_below (pos m) (pos (suc n)) positive below =
    let more = mul-le m 1 m (suc n) (omega arith) (omega arith) in
    absurd (omega (arith, ints, more))
multiple_below (negsuc m) (pos n) positive below = absurd (omega (arith, ints))
