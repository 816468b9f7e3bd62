-- Numbers in the words of a command line.
use Rattle.std.proofs.Common.{◌≡◌, ℕ, ◌==◌, ◌<◌, ◌≤◌, ◌^◌, Bool, true, false, not, cond, if◌then◌else◌, List, [], ◌∷◌, drop, Some, None, Result, Ok, Err, refl, sym, ◌∙◌, ap, subst, arith}
use Rattle.std.proofs.lemmas.Bool.{eqb-true}
use Rattle.std.proofs.lemmas.Fmt.{decimal_is_IsNumeral}
use Rattle.std.specs.Char.{digit_value}
use Rattle.std.specs.Fmt.{decimal}
use Rattle.std.specs.Result.{result_ok}
use Rattle.std.specs.Str.Parse.{IsNumeral, ParsesUnsigned, digits_value, without_leading_plus}
use Rattle.clap.proofs.ValueTestLemmas.{Accepts-accepts, accepts-Accepts}
use Rattle.clap.specs.Values.{IsUnsignedIn}
use Rattle.clap.specs.ValueTests.{is_unsigned_in}
use Rattle.clap.specs.declared.builder.value_parser.ValueParser.TheVariants.{Unsigned}
use Rattle.lc_words.specs.Reading.{number_in}
use Rattle.lc_words.specs.Tasks.{is_plain}

pub no_digit : (b c : ℕ) → digit_value b < 10 → digit_value c ≡ 36 → (b == c) ≡ false
no_digit b c low high = by (b == c) refl
  where
    by : (t : Bool) → (b == c) ≡ t → t ≡ false
    by false e = refl
    by true e = absurd (let same : digit_value b ≡ 36 = ap digit_value (eqb-true b c e) ∙ high in omega (arith, low, same))

-- no sign comes before it
without_plus : (ds : List ℕ) → IsNumeral 10 ds → without_leading_plus ds ≡ ds
without_plus [] h = refl
without_plus (b ∷ ds) h = ap (λ t. drop (cond t 1 0) (b ∷ ds)) (no_digit b 43 h.1.0 refl)

numeral_is_plain : (ds : List ℕ) → IsNumeral 10 ds → is_plain ds ≡ true
numeral_is_plain [] h = refl
numeral_is_plain (b ∷ ds) h = ap not (no_digit b 45 h.1.0 refl)

pub numbers_are_plain : (n : ℕ) → n < 2 ^ 64 → is_plain (decimal n) ≡ true
numbers_are_plain n small = numeral_is_plain (decimal n) (decimal_is_IsNumeral n small).0

said : (n : ℕ) → n < 2 ^ 64 → digits_value 10 (without_leading_plus (decimal n)) ≡ n
said n small = let num = decimal_is_IsNumeral n small in ap (digits_value 10) (without_plus (decimal n) num.0) ∙ num.1

pub unsigned_in : (low high n : ℕ) → n < 2 ^ 64 → low ≤ n → n ≤ high → IsUnsignedIn low high (decimal n)
unsigned_in low high n small least most =
    let num = decimal_is_IsNumeral n small in
    let value = said n small in (
      subst (IsNumeral 10) (sym (without_plus (decimal n) num.0)) num.0,
      subst (λ v. v < 2 ^ 64) (sym value) small,
      subst (λ v. low ≤ v) (sym value) least,
      subst (λ v. v ≤ high) (sym value) most,
    )

-- a number reads back
pub number_back : (n : ℕ) → n < 2 ^ 64 → number_in (decimal n) ≡ Some n
unfolding number_in
number_back n small =
    let fits : n ≤ 18446744073709551615 = omega (arith, small) in
    let passes : is_unsigned_in 0 18446744073709551615 (decimal n) ≡ true = Accepts-accepts false (Unsigned 0 18446744073709551615) (decimal n) (unsigned_in 0 18446744073709551615 n small (omega arith) fits) in
    ap (λ t. if t then Some (digits_value 10 (without_leading_plus (decimal n))) else None) passes ∙ ap Some (said n small)

-- the number that is parsed of a text is the one that it says
pub parsed_number : {E : Type 0} (text : List ℕ) (r : Result ℕ E) → ParsesUnsigned 64 10 text r → result_ok r ≡ number_in text
unfolding number_in
parsed_number text (Ok n) h =
    let fits : digits_value 10 (without_leading_plus text) ≤ 18446744073709551615 = omega (arith, h.0.1) in
    let passes : is_unsigned_in 0 18446744073709551615 text ≡ true = Accepts-accepts false (Unsigned 0 18446744073709551615) text (h.0.0, h.0.1, omega arith, fits) in
    ap Some h.1 ∙ sym (ap (λ t. if t then Some (digits_value 10 (without_leading_plus text)) else None) passes)
parsed_number text (Err e) h = by (is_unsigned_in 0 18446744073709551615 text) refl
  where
    by : (t : Bool) → is_unsigned_in 0 18446744073709551615 text ≡ t → None ≡ number_in text
    by false fails = sym (ap (λ t. if t then Some (digits_value 10 (without_leading_plus text)) else None) fails)
    by true passes = let is = accepts-Accepts false (Unsigned 0 18446744073709551615) text passes in absurd (h (is.0, is.1))
