-- What several texts say, text by text.
use Rattle.std.proofs.Common.{◌≡◌, ℕ, ◌<◌, zero, suc, ℤ, ◌&&◌, List, [], ◌∷◌, ◌++◌, length, get_or, Option, Some, None, true, refl, ap, ◌∙◌, arith, lit<}
use Rattle.std.proofs.lemmas.Iterator.{YieldsList}
use Rattle.std.proofs.lemmas.Iterator.Splits.{YieldsList-from_str_split}
use Rattle.std.specs.List.{list_all}
use Rattle.std.specs.Prelude.{is_some, option_and_then, option_map}
use Rattle.std.specs.Str.Iter.{split_has_more, split_pattern, split_steps, split_text}
use Rattle.std.specs.Str.Pattern.{FindsChar}
use Rattle.lc_numbers.specs.Numbers.{all_wholes_in, parts, whole_in}

both_there : (z : Option ℤ) (zs : Option (List ℤ)) → (is_some z && is_some zs) ≡ is_some (option_and_then (λ y. option_map (λ ys. y ∷ ys) zs) z)
both_there None zs = refl
both_there (Some z) None = refl
both_there (Some z) (Some zs) = refl

-- each text says a number, if all do
pub each_says : (texts : List (List ℕ)) → list_all (λ text. is_some (whole_in text)) texts ≡ is_some (all_wholes_in texts)
each_says [] = refl
each_says (text ∷ texts) = ap (λ b. is_some (whole_in text) && b) (each_says texts) ∙ both_there (whole_in text) (all_wholes_in texts)

one_more : (r s : Option (List ℤ)) (n : Option ℤ) (zs : List ℤ) (z : ℤ) → ((ys : List ℤ) → r ≡ Some ys → s ≡ Some (ys ++ z ∷ []))
    → option_and_then (λ y. option_map (λ ys. y ∷ ys) r) n ≡ Some zs → option_and_then (λ y. option_map (λ ys. y ∷ ys) s) n ≡ Some (zs ++ z ∷ [])
one_more r s None zs z more h = absurd cc
one_more None s (Some y) zs z more h = absurd cc
one_more (Some ys) s (Some y) zs z more h =
    let e : y ∷ ys ≡ zs = cc in
    rw (more ys refl) (ap (λ xs. Some (xs ++ z ∷ [])) e)

last_more : (texts : List (List ℕ)) (text : List ℕ) (zs : List ℤ) (z : ℤ) → all_wholes_in texts ≡ Some zs → whole_in text ≡ Some z → all_wholes_in (texts ++ text ∷ []) ≡ Some (zs ++ z ∷ [])
last_more [] text zs z all is =
    let none : [] ≡ zs = cc in
    rw (is, ← none) refl
last_more (first ∷ texts) text zs z all is = one_more (all_wholes_in texts) (all_wholes_in (texts ++ text ∷ [])) (whole_in first) zs z (λ ys e. last_more texts text ys z e is) all

-- one text more, at the end
pub wholes-push : (texts next : List (List ℕ)) (text : List ℕ) (zs more : List ℤ) (z : ℤ) → next ≡ texts ++ text ∷ [] → zs ++ z ∷ [] ≡ more
    → all_wholes_in texts ≡ Some zs → whole_in text ≡ Some z → all_wholes_in next ≡ Some more
wholes-push texts next text zs more z one pushed all is = rw (one, ← pushed) (last_more texts text zs z all is)

nothing_behind : (z : Option ℤ) → option_and_then (λ y. option_map (λ ys. y ∷ ys) None) z ≡ None
nothing_behind None = refl
nothing_behind (Some z) = refl

-- a text that says no number
pub wholes-none : (texts : List (List ℕ)) (i : ℕ) (text : List ℕ) → i < length texts → text ≡ get_or texts i text → whole_in text ≡ None → all_wholes_in texts ≡ None
wholes-none [] i text less at none = absurd (omega (arith, less))
wholes-none (first ∷ texts) zero text less at none = rw (← at, none) refl
wholes-none (first ∷ texts) (suc i) text less at none = rw (wholes-none texts i text (omega (arith, less)) at none) (nothing_behind (whole_in first))

-- the parts of a text, from one that is about to be cut
pub parts_yielded : {s : _} (text : List ℕ) → split_text {P = ℕ} s ≡ text → split_has_more s ≡ true → split_pattern s ≡ 44 → YieldsList (split_steps FindsChar (λ a b. b ≡ a)) (λ part. part.now) s (parts text)
parts_yielded text = YieldsList-from_str_split 44 text (lit< tt)
