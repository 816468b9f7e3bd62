-- Texts without markup.
use lib.Signed.{mag}
use Rattle.std.proofs.Common.{◌≡◌, ℕ, suc, ◌+◌, ◌<◌, ◌%◌, ◌^◌, true, ◌&&◌, List, [], ◌∷◌, ◌++◌, ℤ, pos, negsuc, refl, ap₂, ◌∙◌, arith}
use Rattle.std.specs.Fmt.{decimal, signed_decimal}
use Rattle.std.proofs.lemmas.Bool.Decides.{nat_tests}
use Rattle.std.proofs.lemmas.Fmt.{decimal_by_steps}
use Rattle.std.proofs.lemmas.List.Folds.{list_all-append}
use Rattle.lc_draw.specs.Elements.{are_plain, is_plain}

-- both parts
pub plain_append : (s t : List ℕ) → are_plain s ≡ true → are_plain t ≡ true → are_plain (s ++ t) ≡ true
plain_append s t h k = list_all-append is_plain s t ∙ ap₂ ◌&&◌ h k

digit : (d : ℕ) → d < 10 → are_plain ((48 + d) ∷ []) ≡ true
digit d h = grind (arith, nat_tests)

last_digit : (m : ℕ) → m % 10 < 10
last_digit m = omega arith

pub plain_decimal : (n : ℕ) → n < 2 ^ 64 → are_plain (decimal n) ≡ true
plain_decimal = decimal_by_steps (λ m ds. are_plain ds ≡ true) (λ m l. digit m l) (λ m ds l h. plain_append ds ((48 + m % 10) ∷ []) h (digit (m % 10) (last_digit m)))

pub plain_signed : (z : ℤ) → mag z < 2 ^ 63 → are_plain (signed_decimal z) ≡ true
plain_signed (pos n) fits = plain_decimal n (omega (arith, fits))
plain_signed (negsuc n) fits = plain_append (45 ∷ []) (decimal (suc n)) refl (plain_decimal (suc n) (omega (arith, fits)))
