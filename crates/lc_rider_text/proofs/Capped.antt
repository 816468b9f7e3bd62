-- Products up to a cap.
use Rattle.std.proofs.Common.{◌≡◌, ℕ, zero, suc, ◌*◌, ◌≤◌, ◌<◌, Bool, true, false, Option, refl, sym, ap, ◌∙◌, arith}
use Rattle.std.specs.Prelude.{min, nat_le, nat_lt}
use Rattle.std.proofs.Math.Nat.{mul_comm, mul_assoc, le-mul_of_pos_right}
use Rattle.std.proofs.lemmas.Bool.Decides.{nat_tests}
use Rattle.lc_base.specs.Limits.{path_limit}
use Rattle.lc_rider_text.specs.Ons.{path_cap}
use Rattle.lc_sexp.specs.Trees.{Tree, Trees, none, ◌▸◌}
use Rattle.lc_rider_text.specs.Known.{Known, Ways}
use Rattle.lc_rider_text.specs.Paths.{rider_ways, path_count}

both_beyond : (x y : ℕ) → path_cap ≤ x → path_cap ≤ y → min path_cap x ≡ min path_cap y
both_beyond x y h k = omega arith

beyond : (a b : ℕ) → path_cap ≤ a → min path_cap (path_cap * b) ≡ min path_cap (a * b)
beyond a zero h =
    let same : path_cap * zero ≡ a * zero = omega arith in
    ap (min path_cap) same
beyond a (suc b) h =
    let positive : zero < suc b = omega arith in
    both_beyond (path_cap * suc b) (a * suc b) (le-mul_of_pos_right path_cap positive) (large (le-mul_of_pos_right a positive)) where
      large : {x : ℕ} → a ≤ x → path_cap ≤ x
      large {x} k = omega (arith, h, k)

-- a factor up to the cap
pub capped_left : (a b : ℕ) → min path_cap (min path_cap a * b) ≡ min path_cap (a * b)
capped_left a b = by_size (nat_le path_cap a) refl where
  by_size : (t : Bool) → nat_le path_cap a ≡ t → min path_cap (min path_cap a * b) ≡ min path_cap (a * b)
  by_size true e =
      let h : path_cap ≤ a = grind (arith, nat_tests) in
      let same : min path_cap a ≡ path_cap = omega (arith, h) in
      ap (λ n. min path_cap (n * b)) same ∙ beyond a b h
  by_size false e =
      let h : a ≤ path_cap = grind (arith, nat_tests) in
      let same : min path_cap a ≡ a = omega (arith, h) in
      ap (λ n. min path_cap (n * b)) same

turned : (a b c : ℕ) → a * b * c ≡ b * (a * c)
turned a b c = ap (λ n. n * c) (mul_comm a b) ∙ mul_assoc b a c

-- one factor more
pub capped_step : (count ways rest : ℕ) → min path_cap (min path_cap (count * min path_cap ways) * rest) ≡ min path_cap (count * (ways * rest))
capped_step count ways rest =
    capped_left (count * min path_cap ways) rest ∙ ap (min path_cap) (turned count (min path_cap ways) rest) ∙ capped_left ways (count * rest)
    ∙ ap (min path_cap) (sym (turned count ways rest) ∙ mul_assoc count ways rest)

-- the paths that one rider more makes
pub paths_more : (known : Known) (own : Option Ways) (t : Tree) (ts us : Trees) → us ≡ t ▸ ts → path_count known own us ≡ rider_ways known own t * path_count known own ts
paths_more known own t ts us e = rw e refl

pub paths_done : (known : Known) (own : Option Ways) (count all : ℕ) (us : Trees) → us ≡ none → count ≤ path_cap → all ≡ min path_cap (count * path_count known own us) → count ≡ all
paths_done known own count all us e few h =
    let one : path_count known own us ≡ 1 = ap (path_count known own) e in
    let same : min path_cap (count * 1) ≡ count = omega (arith, few) in
    sym (h ∙ ap (λ n. min path_cap (count * n)) one ∙ same)

-- beyond the limit, counted up to the cap
pub over_cap : (n : ℕ) → nat_lt path_limit (min path_cap n) ≡ nat_lt path_limit n
over_cap n = by_size (nat_lt path_limit n) refl where
  by_size : (t : Bool) → nat_lt path_limit n ≡ t → nat_lt path_limit (min path_cap n) ≡ t
  by_size true e =
      let h : path_cap ≤ n = grind (arith, nat_tests) in
      let same : min path_cap n ≡ path_cap = omega (arith, h) in
      ap (nat_lt path_limit) same
  by_size false e =
      let h : n ≤ path_limit = grind (arith, nat_tests) in
      let same : min path_cap n ≡ n = omega (arith, h) in
      ap (nat_lt path_limit) same ∙ e
