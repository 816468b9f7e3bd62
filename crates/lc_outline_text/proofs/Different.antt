-- How many different numbers are in a list depends only on which ones are in it.
use Rattle.std.proofs.Common.{◌≡◌, ℕ, zero, suc, ◌+◌, ◌<◌, ◌≤◌, Bool, true, false, ◌||◌, ◌==◌, if◌then◌else◌, List, [], ◌∷◌, ◌++◌, refl, sym, ap, ap₂, ◌∙◌, arith}
use Rattle.std.proofs.lemmas.Bool.Decides.{nat_tests}
use Rattle.std.proofs.lemmas.List.Folds.{list_any-append}
use Rattle.std.proofs.lemmas.Bool.{eqb-true}
use mathlib.Core.Path.{fun_ext}
use Rattle.lc_lemmas.proofs.Numbers.{swapped_sum, above_from_test}
use Rattle.lc_term.specs.Lists.{Every}
use Rattle.lc_outline.specs.Sizes.{different}
use Rattle.lc_outline_text.specs.Paths.{stands}

-- 1 where something is not so, and where it is
abbrev pub absent : Bool → ℕ
absent b = if b then 0 else 1

abbrev present : Bool → ℕ
present b = if b then 1 else 0

-- how many of the n numbers from c on are in it
abbrev within : ℕ → ℕ → (ℕ → Bool) → ℕ
within c zero is = 0
within c (suc n) is = present (is c) + within (suc c) n is

none_within : (c n : ℕ) → within c n (stands []) ≡ 0
none_within c zero = refl
none_within c (suc n) = let rest = none_within (suc c) n in omega (arith, rest)

-- a number that is passed
behind : (z : ℕ) (zs : List ℕ) (c n : ℕ) → z < c → within c n (stands (z ∷ zs)) ≡ within c n (stands zs)
behind z zs c zero h = refl
behind z zs c (suc n) h =
    let other : (z == c) ≡ false = grind (arith, nat_tests) in
    ap₂ (λ b m. present (b || stands zs c) + m) other (behind z zs (suc c) n (omega arith))

here : (s : Bool) (m : ℕ) → 1 + m ≡ absent s + (present s + m)
here true m = omega arith
here false m = omega arith

one_more : (z : ℕ) (zs : List ℕ) (c n : ℕ) → c ≤ z → z < c + n → within c n (stands (z ∷ zs)) ≡ absent (stands zs z) + within c n (stands zs)
one_more z zs c zero h g = absurd (omega arith)
one_more z zs c (suc n) h g = by (λ low. one_more z zs (suc c) n low (omega arith)) (z == c) refl
  where
    by : (suc c ≤ z → within (suc c) n (stands (z ∷ zs)) ≡ absent (stands zs z) + within (suc c) n (stands zs)) → (b : Bool) → (z == c) ≡ b → within c (suc n) (stands (z ∷ zs)) ≡ absent (stands zs z) + within c (suc n) (stands zs)
    by later true e =
        ap₂ (λ b m. present (b || stands zs c) + m) e (behind z zs (suc c) n (let eq = eqb-true z c e in omega (arith, eq)))
        ∙ here (stands zs c) (within (suc c) n (stands zs))
        ∙ ap (λ k. absent (stands zs k) + within c (suc n) (stands zs)) (sym (eqb-true z c e))
    by later false e =
        ap₂ (λ b m. present (b || stands zs c) + m) e (later (let gt = above_from_test z c e h in omega (arith, gt)))
        ∙ swapped_sum (present (stands zs c)) (absent (stands zs z)) (within (suc c) n (stands zs))

different_within : (n : ℕ) (zs : List ℕ) → Every (λ c. c < n) zs → within 0 n (stands zs) ≡ different zs
different_within n [] h = none_within 0 n
different_within n (z ∷ zs) h =
    let low = h.0 in
    one_more z zs 0 n (omega arith) (omega (arith, low)) ∙ ap (λ m. absent (stands zs z) + m) (different_within n zs h.1)

-- a number above all in the list
abbrev bound : List ℕ → ℕ
bound [] = 0
bound (c ∷ cs) = suc c + bound cs

all_below : (n : ℕ) (cs : List ℕ) → bound cs ≤ n → Every (λ c. c < n) cs
all_below n [] h = tt
all_below n (c ∷ cs) h = (omega (arith, h), all_below n cs (omega (arith, h)))

pub same_different : (xs ys : List ℕ) → stands xs ≡ stands ys → different xs ≡ different ys
same_different xs ys h =
    let n = bound xs + bound ys in
    sym (different_within n xs (all_below n xs (omega arith))) ∙ ap (within 0 n) h ∙ different_within n ys (all_below n ys (omega arith))

-- ---- what is in joined lists

abbrev either : (ℕ → Bool) → (ℕ → Bool) → ℕ → Bool
either f g k = f k || g k

pub stands_joined : (xs ys : List ℕ) → stands (xs ++ ys) ≡ either (stands xs) (stands ys)
stands_joined xs ys = fun_ext (λ k. list_any-append (λ j. j == k) xs ys)

pub joined_alike : (xs ys us vs : List ℕ) → stands xs ≡ stands ys → stands us ≡ stands vs → stands (xs ++ us) ≡ stands (ys ++ vs)
joined_alike xs ys us vs h g = stands_joined xs us ∙ ap₂ either h g ∙ sym (stands_joined ys vs)

or_swapped : (a b : Bool) → (a || b) ≡ (b || a)
or_swapped true true = refl
or_swapped true false = refl
or_swapped false true = refl
or_swapped false false = refl

pub stands_swapped : (xs ys : List ℕ) → stands (xs ++ ys) ≡ stands (ys ++ xs)
stands_swapped xs ys = fun_ext (λ k. list_any-append (λ j. j == k) xs ys ∙ or_swapped (stands xs k) (stands ys k) ∙ sym (list_any-append (λ j. j == k) ys xs))

-- one number more
pub different_more : (xs : List ℕ) (c : ℕ) → different (xs ++ c ∷ []) ≡ absent (stands xs c) + different xs
different_more xs c = same_different (xs ++ c ∷ []) (c ∷ xs) (stands_swapped xs (c ∷ []))

or_itself : (a b : Bool) → (b ≡ true → a ≡ true) → (a || b) ≡ a
or_itself true b h = refl
or_itself false true h = absurd (let e = h refl in cc)
or_itself false false h = refl

or_none : (b : Bool) → (b || false) ≡ b
or_none true = refl
or_none false = refl

-- a number that is already in the list
pub stands_again : (xs : List ℕ) (c : ℕ) → stands xs c ≡ true → stands (xs ++ c ∷ []) ≡ stands xs
stands_again xs c h = fun_ext (λ k.
    list_any-append (λ j. j == k) xs (c ∷ []) ∙ ap (λ b. stands xs k || b) (or_none (c == k))
    ∙ or_itself (stands xs k) (c == k) (λ e. ap (stands xs) (sym (eqb-true c k e)) ∙ h))
