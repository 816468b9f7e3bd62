-- The number that is parsed of a text is the one that it says.
use Rattle.std.proofs.Common.{◌≡◌, ◌&&◌, ℤ, pos, negsuc, Bool, true, false, if◌then◌else◌, ℕ, List, Some, None, Result, Ok, Err, refl, sym, ap}
use Rattle.std.proofs.lemmas.Bool.{and_from, and_parts, lt-ltb, ltb-true}
use Rattle.std.proofs.lemmas.Str.Parse.{IsNumeralModel, numerals_by_value, tells_all_ascii_digits}
use Rattle.std.specs.Int.{w64}
use Rattle.std.specs.Prelude.{FitsSigned}
use Rattle.std.specs.Result.{result_ok}
use Rattle.std.specs.Str.{all_ascii_digits}
use Rattle.std.specs.Str.Parse.{IsNumeral, ParsesSigned, digits_value, signed_digits_value, without_leading_sign}
use Rattle.lc_numbers.specs.Numbers.{fits, is_numeral, whole_in}

digits : IsNumeralModel (λ ds. all_ascii_digits ds ≡ true) (digits_value 10)
digits = numerals_by_value (λ ds. all_ascii_digits ds ≡ true) tells_all_ascii_digits

numeral_tested : (ds : List ℕ) → IsNumeral 10 ds → is_numeral ds ≡ true
numeral_tested ds h = and_from _ _ (lt-ltb _ _ h.0) (digits.from ds h.1)

tested_numeral : (ds : List ℕ) → is_numeral ds ≡ true → IsNumeral 10 ds
tested_numeral ds e = let parts = and_parts _ _ e in (ltb-true _ _ parts.0, digits.to ds parts.1)

fit_tested : (z : ℤ) → FitsSigned w64 z → fits z ≡ true
fit_tested (pos n) h = lt-ltb _ _ h.sfits
fit_tested (negsuc n) h = lt-ltb _ _ h.sfits

tested_fit : (z : ℤ) → fits z ≡ true → FitsSigned w64 z
tested_fit (pos n) e = record { sfits = ltb-true _ _ e }
tested_fit (negsuc n) e = record { sfits = ltb-true _ _ e }

pub parsed_whole : {E : Type 0} (text : List ℕ) (r : Result ℤ E) → ParsesSigned w64 10 text r → result_ok r ≡ whole_in text
unfolding whole_in
parsed_whole text (Ok z) h = rw (numeral_tested _ h.0.0, fit_tested _ h.0.1) (ap Some h.1)
parsed_whole text (Err e) h = by (is_numeral (without_leading_sign text) && fits (signed_digits_value 10 text)) refl
  where
    by : (t : Bool) → (is_numeral (without_leading_sign text) && fits (signed_digits_value 10 text)) ≡ t → None ≡ whole_in text
    by false fails = sym (ap (λ t. if t then Some (signed_digits_value 10 text) else None) fails)
    by true passes = let both = and_parts _ _ passes in absurd (h (tested_numeral _ both.0, tested_fit _ both.1))
