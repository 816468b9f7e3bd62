-- Numbers are printed as they stood.
use Rattle.std.proofs.Common.{◌≡◌, ℕ, ℤ, zero, suc, pos, negsuc, ◌<◌, ◌^◌, Bool, true, false, cond, not, ◌&&◌, ◌||◌, List, [], ◌∷◌, length, Option, Some, None, refl, sym, ap, ◌∙◌, subst, arith, rules, tests}
use Rattle.std.proofs.lemmas.Bool.{and_parts, ltb-true, eqb-true, ne_eqb, cond-false}
use Rattle.std.proofs.lemmas.Fmt.{decimal-digits_value}
use Rattle.std.specs.Prelude.{option_map, ◌==◌}
use Rattle.std.specs.Fmt.{decimal, signed_decimal}
use Rattle.lc_sexp.specs.Numerals.{are_digits, value_of_digits, is_empty, natural_of, integer_of, negative_of}
use Rattle.lc_sexp.specs.Parts.{fits, beyond, fits_i64, integer_within}
use Rattle.lc_sexp.specs.Trees.{Tree, atom, list}
use Rattle.lc_reading.proofs.Fine.{IfFine, if_fine_weaker, of_fine}
use Rattle.lc_reading.specs.Readings.{fine}
use Rattle.lc_text.proofs.Numerals.{decimal_numeral_model}
use Rattle.lc_text.specs.Terms.{fit_reading, number_reading}

-- a single digit, or a first digit that is not 0
no_leading : (b : ℕ) (w : List ℕ) → (is_empty w || not (b == 48)) ≡ true → b ≡ 48 → length (b ∷ w) ≡ 1
no_leading b [] h e = refl
no_leading b (x ∷ w) h e = absurd (search (rules, tests, h, e))

natural_as : (b : ℕ) (w : List ℕ) (n : ℕ) (both : Bool) → (are_digits (b ∷ w) && (is_empty w || not (b == 48))) ≡ both → n < 2 ^ 64
    → cond both (Some (value_of_digits (b ∷ w))) None ≡ Some n → decimal n ≡ b ∷ w
natural_as b w n true h small e =
    let p = and_parts (are_digits (b ∷ w)) (is_empty w || not (b == 48)) h in
    let value : value_of_digits (b ∷ w) ≡ n = cc in
    ap decimal (sym value) ∙ decimal-digits_value decimal_numeral_model (b ∷ w) p.0 (omega arith) (no_leading b w p.1) (omega (arith, value, small))
natural_as b w n false h small e = absurd (cc)

-- digits are those of their number
pub natural_as_stood : (w : List ℕ) (n : ℕ) → n < 2 ^ 64 → natural_of w ≡ Some n → decimal n ≡ w
natural_as_stood [] n small e = absurd (cc)
natural_as_stood (b ∷ w) n small e = natural_as b w n _ refl small e

positive_as : (w : List ℕ) (z : ℤ) (o : Option ℕ) → natural_of w ≡ o → fits_i64 z ≡ true → option_map pos o ≡ Some z → signed_decimal z ≡ w
positive_as w z None is small e = absurd (cc)
positive_as w z (Some n) is small e =
    let same : pos n ≡ z = cc in
    let fits = subst (λ z. fits_i64 z ≡ true) (sym same) small in
    let lt = ltb-true n 9223372036854775808 fits in
    subst (λ z. signed_decimal z ≡ w) same (natural_as_stood w n (omega (arith, lt)) is)

negative_some : (w : List ℕ) (z : ℤ) (n : ℕ) → natural_of w ≡ Some (suc n) → fits_i64 z ≡ true → negsuc n ≡ z → signed_decimal z ≡ 45 ∷ w
negative_some w z n is small same =
    let fits = subst (λ z. fits_i64 z ≡ true) (sym same) small in
    let lt = ltb-true n 9223372036854775808 fits in
    subst (λ z. signed_decimal z ≡ 45 ∷ w) same (ap (λ ds. 45 ∷ ds) (natural_as_stood w (suc n) (omega (arith, lt)) is))

negative_as : (w : List ℕ) (z : ℤ) (o : Option ℕ) → natural_of w ≡ o → fits_i64 z ≡ true → negative_of o ≡ Some z → signed_decimal z ≡ 45 ∷ w
negative_as w z None is small e = absurd (cc)
negative_as w z (Some zero) is small e = absurd (cc)
negative_as w z (Some (suc n)) is small e =
    let some : Some (negsuc n) ≡ Some z = sym (cond-false (suc n == 0) None (Some (negsuc n)) (ne_eqb (suc n) 0 (λ e. omega arith))) ∙ e in
    negative_some w z n is small cc

integer_as : (b : ℕ) (w : List ℕ) (z : ℤ) (minus : Bool) → (b == 45) ≡ minus → fits_i64 z ≡ true → cond minus (negative_of (natural_of w)) (option_map pos (natural_of (b ∷ w))) ≡ Some z → signed_decimal z ≡ b ∷ w
integer_as b w z true m small e = negative_as w z (natural_of w) refl small e ∙ ap (λ b. b ∷ w) (sym (eqb-true b 45 m))
integer_as b w z false m small e = positive_as (b ∷ w) z (natural_of (b ∷ w)) refl small e

-- a numeral is that of its number
pub integer_as_stood : (w : List ℕ) (z : ℤ) → integer_of w ≡ Some z → fits_i64 z ≡ true → signed_decimal z ≡ w
integer_as_stood [] z e small = absurd (cc)
integer_as_stood (b ∷ w) z e small = integer_as b w z (b == 45) refl small e

fitting_as : (n : ℕ) (w : List ℕ) (z : ℤ) (b : Bool) → integer_of w ≡ Some z → fits_i64 z ≡ b → IfFine (fit_reading n (cond b (fits z) beyond)) (λ z. signed_decimal z ≡ w)
fitting_as n w z true e small = integer_as_stood w z e small
fitting_as n w z false e small = tt

number_of : (n : ℕ) (w : List ℕ) (o : Option ℤ) → integer_of w ≡ o → IfFine (fit_reading n (integer_within o)) (λ z. signed_decimal z ≡ w)
number_of n w None e = tt
number_of n w (Some z) e = fitting_as n w z (fits_i64 z) e refl

pub number_as_stood : (n : ℕ) (w : List ℕ) → IfFine (number_reading n (atom w)) (λ z. signed_decimal z ≡ w)
number_as_stood n w = number_of n w (integer_of w) refl

pub numbers_as : (n : ℕ) (t : Tree) → IfFine (number_reading n t) (λ z. atom (signed_decimal z) ≡ t)
numbers_as n (atom w) = if_fine_weaker (λ z. signed_decimal z ≡ w) (λ z. atom (signed_decimal z) ≡ atom w) (number_reading n (atom w)) (λ z e. ap atom e) (number_as_stood n w)
numbers_as n (list ts) = tt

pub printed_number : (n : ℕ) (t : Tree) (z : ℤ) → number_reading n t ≡ fine z → atom (signed_decimal z) ≡ t
printed_number n t z e = of_fine (λ z. atom (signed_decimal z) ≡ t) (number_reading n t) z (numbers_as n t) e
