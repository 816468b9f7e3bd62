-- Columns in which something is stored, and how many different ones they are.
use Rattle.std.proofs.Common.{◌≡◌, ℕ, zero, suc, ◌+◌, ◌<◌, ◌≤◌, Bool, true, false, not, ◌&&◌, ◌||◌, ◌==◌, if◌then◌else◌, List, [], ◌∷◌, ◌++◌, map, length, refl, sym, ap, ap₂, ◌∙◌, arith}
use Rattle.std.proofs.lemmas.Bool.Decides.{nat_tests}
use Rattle.std.proofs.lemmas.List.{length-append}
use Rattle.std.proofs.lemmas.List.Folds.{list_any-append}
use Rattle.std.proofs.lemmas.Bool.{eqb-true}
use Rattle.lc_lemmas.proofs.Booleans.{and_false}
use Rattle.lc_lemmas.proofs.Numbers.{swapped_sum, above_from_test}
use Rattle.lc_term.specs.Lists.{Every}
use Rattle.lc_term.specs.Syntax.{Term, Column, Store, Formula}
use Rattle.lc_term.specs.Updates.{Update}
use Rattle.lc_term.specs.Said.{put, puts, said, after}
use Rattle.lc_cond.specs.Conditions.{Condition, is_base, same_column, column_conditions}
use Rattle.lc_outline.specs.Sizes.{columns_of, stands, different}

-- ---- tests

pub and_true : (b : Bool) → (b && true) ≡ b
and_true true = refl
and_true false = refl

pub not_either : (a b : Bool) → (not a && not b) ≡ not (a || b)
not_either true b = refl
not_either false b = refl

-- ---- what a column holds after stores

put_base : (b : Bool) (c : ℕ) (x : Column) (t v : Term) (r : Bool) → (is_base c (if b then Store x t v else x) && not r) ≡ (is_base c x && not (b || r))
put_base true c x t v r = sym (and_false (is_base c x))
put_base false c x t v r = refl

pub puts_base : (σ : ℕ → Column) (us : List Update) (c : ℕ) → is_base c (puts σ us c) ≡ (is_base c (σ c) && not (stands c (columns_of us)))
puts_base σ [] c = sym (and_true (is_base c (σ c)))
puts_base σ (u ∷ us) c = puts_base (put σ u) us c ∙ put_base (u.column == c) c (σ c) u.index u.value (stands c (columns_of us))

columns_said : (σ : ℕ → Column) (τ : List Term) (us : List Update) → columns_of (map (said σ τ) us) ≡ columns_of us
columns_said σ τ [] = refl
columns_said σ τ (u ∷ us) = ap (λ cs. u.column ∷ cs) (columns_said σ τ us)

pub after_base : (σ : ℕ → Column) (τ : List Term) (us : List Update) (c : ℕ) → is_base c (after σ τ us c) ≡ (is_base c (σ c) && not (stands c (columns_of us)))
after_base σ τ us c = puts_base σ (map (said σ τ) us) c ∙ ap (λ cs. is_base c (σ c) && not (stands c cs)) (columns_said σ τ us)

-- ---- columns that are changed

-- 1 where something is not so, and where it is
abbrev pub absent : Bool → ℕ
absent b = if b then 0 else 1

abbrev pub present : Bool → ℕ
present b = if b then 1 else 0

-- how many of the columns from c on, n of them, are not themselves in both
abbrev pub changed : ℕ → ℕ → (ℕ → Column) → (ℕ → Column) → ℕ
changed c zero σ π = 0
changed c (suc n) σ π = absent (is_base c (σ c) && is_base c (π c)) + changed (suc c) n σ π

one_length : (b : Bool) (x : Condition) → length (if b then [] else x ∷ []) ≡ absent b
one_length true x = refl
one_length false x = refl

pub columns_length : (made : ℕ → Formula → Condition) (c n : ℕ) (σ π : ℕ → Column) → length (column_conditions made c n σ π) ≡ changed c n σ π
columns_length made c zero σ π = refl
columns_length made c (suc n) σ π =
    let b = is_base c (σ c) && is_base c (π c) in
    let x = made c (same_column (σ c) (π c)) in
    let one : List Condition = if b then [] else x ∷ [] in
    length-append one (column_conditions made (suc c) n σ π) ∙ ap₂ (λ k m. k + m) (one_length b x) (columns_length made (suc c) n σ π)

-- ---- numbers in a list

-- how many of the n numbers from c on are in the list
abbrev within : ℕ → ℕ → List ℕ → ℕ
within c zero zs = 0
within c (suc n) zs = present (stands c zs) + within (suc c) n zs

either : (a b : Bool) → absent (not a && not b) ≡ present (a || b)
either true b = refl
either false true = refl
either false false = refl

one_changed : (x y a b s : Bool) → x ≡ not a → y ≡ not b → s ≡ (a || b) → absent (x && y) ≡ present s
one_changed x y a b s e f g = ap₂ (λ p q. absent (p && q)) e f ∙ either a b ∙ ap present (sym g)

changed_within : (σ π : ℕ → Column) (xs ys : List ℕ) → ((c : ℕ) → is_base c (σ c) ≡ not (stands c xs)) → ((c : ℕ) → is_base c (π c) ≡ not (stands c ys)) → (c n : ℕ) → changed c n σ π ≡ within c n (xs ++ ys)
changed_within σ π xs ys h g c zero = refl
changed_within σ π xs ys h g c (suc n) =
    ap₂ (λ k m. k + m) (one_changed (is_base c (σ c)) (is_base c (π c)) (stands c xs) (stands c ys) (stands c (xs ++ ys)) (h c) (g c) (list_any-append (λ k. k == c) xs ys))
    (changed_within σ π xs ys h g (suc c) n)

none_within : (c n : ℕ) → within c n [] ≡ 0
none_within c zero = refl
none_within c (suc n) = let rest = none_within (suc c) n in omega (arith, rest)

-- a number that is passed
behind : (z : ℕ) (zs : List ℕ) (c n : ℕ) → z < c → within c n (z ∷ zs) ≡ within c n zs
behind z zs c zero h = refl
behind z zs c (suc n) h =
    let other : (z == c) ≡ false = grind (arith, nat_tests) in
    ap₂ (λ b m. present (b || stands c zs) + m) other (behind z zs (suc c) n (omega arith))

here : (s : Bool) (m : ℕ) → 1 + m ≡ absent s + (present s + m)
here true m = omega arith
here false m = omega arith

one_more : (z : ℕ) (zs : List ℕ) (c n : ℕ) → c ≤ z → z < c + n → within c n (z ∷ zs) ≡ absent (stands z zs) + within c n zs
one_more z zs c zero h g = absurd (omega arith)
one_more z zs c (suc n) h g = by (λ low. one_more z zs (suc c) n low (omega arith)) (z == c) refl
  where
    by : (suc c ≤ z → within (suc c) n (z ∷ zs) ≡ absent (stands z zs) + within (suc c) n zs) → (b : Bool) → (z == c) ≡ b → within c (suc n) (z ∷ zs) ≡ absent (stands z zs) + within c (suc n) zs
    by later true e =
        ap₂ (λ b m. present (b || stands c zs) + m) e (behind z zs (suc c) n (let eq = eqb-true z c e in omega (arith, eq)))
        ∙ here (stands c zs) (within (suc c) n zs)
        ∙ ap (λ k. absent (stands k zs) + within c (suc n) zs) (sym (eqb-true z c e))
    by later false e =
        ap₂ (λ b m. present (b || stands c zs) + m) e (later (let gt = above_from_test z c e h in omega (arith, gt)))
        ∙ swapped_sum (present (stands c zs)) (absent (stands z zs)) (within (suc c) n zs)

different_within : (n : ℕ) (zs : List ℕ) → Every (λ c. c < n) zs → within 0 n zs ≡ different zs
different_within n [] h = none_within 0 n
different_within n (z ∷ zs) h =
    let low = h.0 in
    one_more z zs 0 n (omega arith) (omega (arith, low)) ∙ ap (λ m. absent (stands z zs) + m) (different_within n zs h.1)

-- those of the first n columns that are changed are the different ones among those in which something is stored
pub changed_different : (σ π : ℕ → Column) (xs ys : List ℕ) (n : ℕ) → ((c : ℕ) → is_base c (σ c) ≡ not (stands c xs)) → ((c : ℕ) → is_base c (π c) ≡ not (stands c ys)) → Every (λ c. c < n) (xs ++ ys) →
    changed 0 n σ π ≡ different (xs ++ ys)
changed_different σ π xs ys n h g below = changed_within σ π xs ys h g 0 n ∙ different_within n (xs ++ ys) below
