-- How many lists a text opens and closes.
use Rattle.std.proofs.Common.{◌≡◌, ℕ, ◌+◌, ◌-◌, ◌≤◌, ◌<◌, Bool, true, false, ◌⊎◌, inl, inr, cond, List, ◌∷◌, ◌++◌, length, take, count_by, refl, sym, ap, ◌∙◌, subst, arith}
use Rattle.std.specs.Prelude.{◌==◌}
use Rattle.std.proofs.lemmas.Bool.{cases_eq}
use Rattle.std.proofs.lemmas.Bool.Decides.{nat_tests}
use Rattle.std.proofs.lemmas.List.Sums.{sum_by-append, sum_by-cons, sum_by_push}
use Rattle.lc_sexp.specs.Reads.{text_of, open_count}
use Rattle.lc_place.specs.Items.{begins_list, IsListOf}
use Rattle.lc_place.proofs.Texts.{IsStep, length-text}

abbrev pub opens : List ℕ → ℕ
opens s = count_by (λ b. b == 40) s

abbrev pub closes : List ℕ → ℕ
closes s = count_by (λ b. b == 41) s

abbrev pub opens_at : ℕ → ℕ
opens_at b = cond (b == 40) 1 0

abbrev pub closes_at : ℕ → ℕ
closes_at b = cond (b == 41) 1 0

pub opens-append : (p q : List ℕ) → opens (p ++ q) ≡ opens p + opens q
opens-append p q = sum_by-append opens_at p q

pub closes-append : (p q : List ℕ) → closes (p ++ q) ≡ closes p + closes q
closes-append p q = sum_by-append closes_at p q

pub opens-cons : (b : ℕ) (s : List ℕ) → opens (b ∷ s) ≡ opens_at b + opens s
opens-cons b s = sum_by-cons opens_at b s

pub closes-cons : (b : ℕ) (s : List ℕ) → closes (b ∷ s) ≡ closes_at b + closes s
closes-cons b s = sum_by-cons closes_at b s

pub opens_step : (bytes : List ℕ) (i r : ℕ) (next : Bool) → IsStep bytes i r next → opens (take (i + 1) (text_of bytes)) ≡ opens (take i (text_of bytes)) + opens_at r
opens_step bytes i r next s = ap opens s.read ∙ sum_by_push opens_at (take i (text_of bytes)) r

pub closes_step : (bytes : List ℕ) (i r : ℕ) (next : Bool) → IsStep bytes i r next → closes (take (i + 1) (text_of bytes)) ≡ closes (take i (text_of bytes)) + closes_at r
closes_step bytes i r next s = ap closes s.read ∙ sum_by_push closes_at (take i (text_of bytes)) r

-- how many lists are open after a byte
abbrev pub depth_next : ℕ → ℕ → ℕ
depth_next depth r = cond (r == 40) (depth + 1) (cond (r == 41) (depth - 1) depth)

moved : (r depth : ℕ) → (0 < depth) ⊎ ((r == 40) ≡ true) → opens_at r + depth ≡ closes_at r + depth_next depth r
moved r depth h = elim (cases_eq r 40) [
  | inl e ↦ rw e (let k : 1 + depth ≡ 0 + (depth + 1) = omega arith in k)
  | inr n ↦
      let t : (r == 40) ≡ false = grind (arith, nat_tests) in
      elim (cases_eq r 41) [
        | inl e ↦
            let some : 0 < depth = elim h [ inl k ↦ k | inr k ↦ absurd (cc (k, t)) ] in
            rw e (let k : 0 + depth ≡ 1 + (depth - 1) = omega arith in k)
        | inr m ↦ let u : (r == 41) ≡ false = grind (arith, nat_tests) in rw (t, u) refl
      ]
]

pub moved_little : (r depth : ℕ) → depth_next depth r ≤ depth + 1
moved_little r depth = grind (arith, nat_tests)

-- what is known of a list that was read up to an offset, and is still open
pub record IsUnderWay (text : List ℕ) (i depth : ℕ) : Type 0 where
  pub depth_is : opens (take i text) ≡ closes (take i text) + depth
  pub never : (m : ℕ) → 0 < m → m ≤ i → 0 < open_count (take m text)
  pub small : depth ≤ i

opened_first : (bytes : List ℕ) (r : ℕ) (next : Bool) → IsStep bytes 0 r next → begins_list (text_of bytes) ≡ true → (r == 40) ≡ true
opened_first bytes r next s h = sym (ap begins_list s.here) ∙ h

some_open : (bytes : List ℕ) (i r depth : ℕ) (next : Bool) → IsStep bytes i r next → begins_list (text_of bytes) ≡ true → IsUnderWay (text_of bytes) i depth → (0 < depth) ⊎ ((r == 40) ≡ true)
some_open bytes i r depth next s h u = elim (cases_eq i 0) [
  | inl e ↦ inr (opened_first bytes r next (subst (λ n. IsStep bytes n r next) e s) h)
  | inr n ↦ let k = u.never i (omega arith) (omega arith) in inl (omega (arith, k, u.depth_is))
]

pub depth_step : (bytes : List ℕ) (i r depth : ℕ) (next : Bool) → IsStep bytes i r next → begins_list (text_of bytes) ≡ true → IsUnderWay (text_of bytes) i depth
    → opens (take (i + 1) (text_of bytes)) ≡ closes (take (i + 1) (text_of bytes)) + depth_next depth r
depth_step bytes i r depth next s h u =
    omega (arith, opens_step bytes i r next s, closes_step bytes i r next s, u.depth_is, moved r depth (some_open bytes i r depth next s h u))

-- one byte more, after which the list is open
pub under_way_more : (bytes : List ℕ) (i r depth after : ℕ) (next : Bool) → IsStep bytes i r next → begins_list (text_of bytes) ≡ true → IsUnderWay (text_of bytes) i depth
    → after ≡ depth_next depth r → 0 < after → IsUnderWay (text_of bytes) (i + 1) after
under_way_more bytes i r depth after next s h u e some =
    let here = depth_step bytes i r depth next s h u in
    record {
      depth_is = omega (arith, here, e);
      never = λ m k le. elim (cases_eq m (i + 1)) [
        | inl same ↦ subst (λ n. 0 < open_count (take n (text_of bytes))) (sym same) (omega (arith, here, e, some))
        | inr other ↦ u.never m k (omega arith)
      ];
      small = omega (arith, e, moved_little r depth, u.small);
    }

-- one byte more, which closes the list
pub closed_here : (bytes : List ℕ) (i r depth after : ℕ) (next : Bool) → IsStep bytes i r next → begins_list (text_of bytes) ≡ true → IsUnderWay (text_of bytes) i depth
    → after ≡ depth_next depth r → after ≡ 0 → IsListOf (text_of bytes) (i + 1)
closed_here bytes i r depth after next s h u e z =
    let here = depth_step bytes i r depth next s h u in
    let within = s.within in
    inl (record {
      some = omega arith;
      within = omega (arith, within);
      closed = omega (arith, here, e, z);
      first = λ m k lt. u.never m k (omega arith);
    })

-- the end, if it is open
pub open_to_end : (bytes : List ℕ) (i depth n : ℕ) → length bytes ≤ i → n ≡ length bytes → IsUnderWay (text_of bytes) i depth → IsListOf (text_of bytes) n
open_to_end bytes i depth n le e u = inr (omega (arith, e, length-text bytes), λ m k short. u.never m k (omega (arith, length-text bytes, short, le)))
