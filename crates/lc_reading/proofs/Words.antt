-- Words that are the same.
use Rattle.std.proofs.Common.{◌≡◌, ◌≢◌, ℕ, true, false, ◌&&◌, List, [], ◌∷◌, length, refl, ap, ◌∙◌, arith}
use Rattle.std.proofs.lemmas.Bool.{and_parts, eqb-true}
use Rattle.std.specs.Bool.{nat_eq}
use Rattle.lc_lemmas.proofs.Booleans.{and_false}
use Rattle.lc_reading.specs.Words.{is}

pub is-true : (w c : List ℕ) → is w c ≡ true → w ≡ c
is-true [] [] h = refl
is-true [] (y ∷ c) h = cc
is-true (x ∷ w) [] h = cc
is-true (x ∷ w) (y ∷ c) h =
    let p = and_parts _ (is w c) h in
    let first = eqb-true x y p.0 in
    let others = is-true w c p.1 in
    cc

-- words of different lengths are not the same
pub is_other_length : (w c : List ℕ) → length w ≢ length c → is w c ≡ false
is_other_length [] [] h = absurd (h refl)
is_other_length [] (y ∷ c) h = refl
is_other_length (x ∷ w) [] h = refl
is_other_length (x ∷ w) (y ∷ c) h = ap (λ b. nat_eq x y && b) (is_other_length w c (λ e. h (omega (arith, e)))) ∙ and_false (nat_eq x y)
