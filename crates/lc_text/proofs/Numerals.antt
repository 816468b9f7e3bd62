-- Numbers that are written read back.
use Rattle.std.proofs.Common.{◌≡◌, ℕ, ℤ, zero, suc, pos, negsuc, ◌+◌, ◌-◌, ◌*◌, ◌<◌, ◌^◌, true, ◌&&◌, List, [], ◌∷◌, length, get_or, Some, ap, ◌∙◌, arith, rules}
use Rattle.std.proofs.lemmas.Bool.{and_parts, and_from, or_right, not_from_false, ne_eqb, leb-true, cond-true, cond-false}
use Rattle.std.proofs.lemmas.Fmt.{decimal_digit, decimal_nonempty, first_decimal, digits_decimal, digits_value-decimal}
use Rattle.std.proofs.lemmas.Str.Parse.{IsNumeralModel, numerals_by_fold}
use Rattle.std.specs.Prelude.{option_map, nat_lt, nat_le}
use Rattle.std.specs.Fmt.{decimal, signed_decimal}
use Rattle.lc_sexp.specs.Numerals.{are_digits, value_of_digits, natural_of, integer_of, negative_of}
use Rattle.lc_sexp.specs.Parts.{fits, fits_i64, integer_within}

pub decimal_numeral_model : IsNumeralModel (λ ds. are_digits ds ≡ true) value_of_digits
decimal_numeral_model = numerals_by_fold (λ ds. are_digits ds ≡ true) (search rules) (λ n ds. Rattle.std.specs.Prelude.fold (λ n b. n * 10 + (b - 48)) n ds) (search rules)

natural_at : (ds : List ℕ) (n : ℕ) → are_digits ds ≡ true → value_of_digits ds ≡ n → 0 < length ds → 48 < get_or ds 0 0 → natural_of ds ≡ Some n
natural_at [] n d v l f = absurd (omega arith)
natural_at (b ∷ w) n d v l f =
    let other = ne_eqb b 48 (λ e. omega arith) in
    cond-true _ _ _ (and_from (are_digits (b ∷ w)) _ d (or_right _ _ (not_from_false _ other))) ∙ ap Some v

-- digits that are written of a number write it
pub natural_of-decimal : (n : ℕ) → n < 2 ^ 64 → natural_of (decimal n) ≡ Some n
natural_of-decimal zero h = ap natural_of (decimal_digit 0 (omega arith))
natural_of-decimal (suc n) h =
    natural_at (decimal (suc n)) (suc n) (digits_decimal decimal_numeral_model (suc n) h) (digits_value-decimal decimal_numeral_model (suc n) h) (decimal_nonempty (suc n) h) (first_decimal (suc n) (omega arith) h)

-- no minus before digits
digits_integer : (ds : List ℕ) → are_digits ds ≡ true → 0 < length ds → integer_of ds ≡ option_map pos (natural_of ds)
digits_integer [] d l = absurd (omega arith)
digits_integer (b ∷ w) d l =
    let p = and_parts (nat_le 48 b && nat_le b 57) _ d in
    let q = and_parts (nat_le 48 b) (nat_le b 57) p.0 in
    let low = leb-true 48 b q.0 in
    cond-false _ _ _ (ne_eqb b 45 (λ e. omega arith))

i64_limit : (n : ℕ) → nat_lt n 9223372036854775808 ≡ true → n < 9223372036854775808
i64_limit n h = Rattle.std.proofs.lemmas.Bool.ltb-true n 9223372036854775808 h

pub integer_of-signed : (n : ℤ) → fits_i64 n ≡ true → integer_of (signed_decimal n) ≡ Some n
integer_of-signed (pos n) h =
    let small = i64_limit n h in
    let wide : n < 2 ^ 64 = omega arith in
    digits_integer (decimal n) (digits_decimal decimal_numeral_model n wide) (decimal_nonempty n wide) ∙ ap (option_map pos) (natural_of-decimal n wide)
integer_of-signed (negsuc n) h =
    let small = i64_limit n h in
    let wide : suc n < 2 ^ 64 = omega arith in
    ap negative_of (natural_of-decimal (suc n) wide) ∙ cond-false _ _ _ (ne_eqb (suc n) 0 (λ e. omega arith))

-- a number fits if one is expected
pub integer_fit-signed : (z : ℤ) → fits_i64 z ≡ true → integer_within (integer_of (signed_decimal z)) ≡ fits z
integer_fit-signed z h = ap integer_within (integer_of-signed z h) ∙ cond-true (fits_i64 z) _ _ h
