-- Numbers that are added, one after another.
use Rattle.std.proofs.Common.{◌≡◌, ℕ, suc, ℤ, ◌+ℤ◌, ◌+◌, List, [], ◌∷◌, ◌++◌, length, drop, w64, refl, sym, ap, ap₂, ◌∙◌, subst, append_assoc, arith}
use Rattle.std.specs.Prelude.{FitsSigned}
use Rattle.std.proofs.lemmas.List.{length-append}
use Rattle.lc_machine.specs.Step.{sums}
use Rattle.lc_machine.specs.Fits.{NumbersFit}

-- the first i sums are made; with those that are left they are all
pub record AreSums (xs ys : List ℤ) (i : ℕ) (zs : List ℤ) : Type 0 where
  pub count : length zs ≡ i
  pub made : zs ++ sums (drop i xs) (drop i ys) ≡ sums xs ys
  pub rest_fits : NumbersFit (sums xs ys) → NumbersFit (sums (drop i xs) (drop i ys))
  pub whole_fits : NumbersFit (sums (drop i xs) (drop i ys)) → NumbersFit (sums xs ys)

pub sums_next : (xs ys : List ℤ) (i : ℕ) (x y z : ℤ) (zs new : List ℤ) → drop i xs ≡ x ∷ drop (i + 1) xs → drop i ys ≡ y ∷ drop (i + 1) ys → z ≡ x +ℤ y → FitsSigned w64 (x +ℤ y) →
    new ≡ zs ++ z ∷ [] → AreSums xs ys i zs → AreSums xs ys (i + 1) new
sums_next xs ys i x y z zs new ex ey is fits pushed are =
    let rest = sums (drop (i + 1) xs) (drop (i + 1) ys) in
    let front : sums (drop i xs) (drop i ys) ≡ (x +ℤ y) ∷ rest = ap₂ sums ex ey in
    record {
      count = ap length pushed ∙ length-append zs (z ∷ []) ∙ ap (λ k. k + 1) are.count;
      made = ap (λ l. l ++ rest) pushed ∙ append_assoc zs (z ∷ []) rest ∙ ap (λ k. zs ++ k ∷ rest) is ∙ ap (λ l. zs ++ l) (sym front) ∙ are.made;
      rest_fits = λ h. (subst NumbersFit front (are.rest_fits h)).1;
      whole_fits = λ h. are.whole_fits (subst NumbersFit (sym front) (fits, h));
    }

pub sums_length : (xs ys : List ℤ) → length xs ≡ length ys → length (sums xs ys) ≡ length xs
sums_length [] ys e = refl
sums_length (x ∷ xs) [] e = absurd (omega arith)
sums_length (x ∷ xs) (y ∷ ys) e = ap suc (sums_length xs ys (omega arith))
