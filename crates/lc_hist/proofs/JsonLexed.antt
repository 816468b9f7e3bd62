-- The tokens of a text, by its first bytes.
use Rattle.std.proofs.Common.{◌≡◌, ℕ, suc, ◌+◌, ◌-◌, ◌*◌, ◌^◌, ◌<◌, ◌≤◌, inl, inr, List, [], ◌∷◌, ◌++◌, length, take, drop, get_or, Bool, true, false, cond, ◌==◌, Option, Some, None, option_and_then, refl, sym, ap, ap₂, subst, ◌∙◌, arith, zero, ℤ, pos, neg_ℤ, ◌-ℤ◌, to_z, of_z, w64, decimal, lt-ltb, append_assoc, get_or-drop, ne_eqb, eq-eqb, eqb-true, le-ltb, le-leb, length-append}
use Rattle.std.proofs.lemmas.Int.{ints}
use Rattle.std.proofs.lemmas.Int.Digits.{digits_value_push}
use Rattle.std.proofs.lemmas.List.{drop_more, drop_all}
use Rattle.std.proofs.lemmas.Str.{digit_value_digit}
use Rattle.std.proofs.lemmas.Fmt.{decimal-digits_value}
use Rattle.std.proofs.lemmas.Str.Parse.{numerals_by_value, tells_digits, digit_from_value}
use Rattle.std.specs.List.{prefix_len}
use Rattle.std.specs.Char.{is_ascii_digit, digit_value}
use Rattle.std.specs.Int.{IsInRange}
use Rattle.std.specs.Str.Parse.{AllDigits, digits_value}
use Rattle.json.specs.Token.{Token}
use Rattle.json.specs.Text.{content, plain, prepend}
use Rattle.json.specs.Word.{is_operator, is_space, ends_word, after_number, after_digits, after_whole, after_fraction, after_exponent, number_before, word}
use Rattle.json.specs.Lex.{Lexeme, token, Class, quote, backslash, operator, space, other, class, Mode, between, in_word, in_string, lex_byte, lex, string_token, begins_colon, fresh, after_value, after_comma, punctuate}
use Rattle.json.specs.Align.{is_blank}
use Rattle.serde_json.proofs.Numbers.{number_of-decimal, number_of-negative}
use Rattle.serde_json.specs.Data.{unsigned, negative}
use Rattle.serde_json.specs.Find.{as_i64}
use Rattle.serde_json.specs.Read.{number_of}
use Rattle.lc_hist.proofs.JsonEvents.{take_front}
use Rattle.lc_hist.specs.JsonCursor.{tokens_at, begins_at, closes_at, IsPlain, ArePlain, Ends, ArePlainBetween, IsNumeralBetween}
use Rattle.lc_hist.specs.declared.cursor.Place.{Place}
use Rattle.lc_hist.specs.declared.cursor.Place.TheVariants.{Fresh, AfterValue, AfterComma}

-- ---- brackets, braces, commas and spaces

pub opens_array : (p : Place) (xs : List ℕ) → begins_at p ≡ true → tokens_at p (91 ∷ xs) ≡ Token.begin_array ∷ tokens_at Fresh xs
unfolding lex punctuate
opens_array Fresh xs may = refl
opens_array AfterValue xs may = absurd cc
opens_array AfterComma xs may = refl

pub opens_object : (p : Place) (xs : List ℕ) → begins_at p ≡ true → tokens_at p (123 ∷ xs) ≡ Token.begin_object ∷ tokens_at Fresh xs
unfolding lex punctuate
opens_object Fresh xs may = refl
opens_object AfterValue xs may = absurd cc
opens_object AfterComma xs may = refl

pub closes_array : (p : Place) (xs : List ℕ) → closes_at p ≡ true → tokens_at p (93 ∷ xs) ≡ Token.end_array ∷ tokens_at AfterValue xs
unfolding lex punctuate
closes_array Fresh xs may = refl
closes_array AfterValue xs may = refl
closes_array AfterComma xs may = absurd cc

pub closes_object : (p : Place) (xs : List ℕ) → closes_at p ≡ true → tokens_at p (125 ∷ xs) ≡ Token.end_object ∷ tokens_at AfterValue xs
unfolding lex punctuate
closes_object Fresh xs may = refl
closes_object AfterValue xs may = refl
closes_object AfterComma xs may = absurd cc

pub passes_comma : (xs : List ℕ) → tokens_at AfterValue (44 ∷ xs) ≡ tokens_at AfterComma xs
unfolding lex punctuate
passes_comma xs = refl

pub tokens_at_end : tokens_at AfterValue [] ≡ []
unfolding lex punctuate
tokens_at_end = refl

blank_byte : (c : Class) (x : ℕ) (xs : List ℕ) (k : Mode → List Lexeme) → is_blank c ≡ true → lex_byte between c x xs k ≡ k between
blank_byte quote x xs k is = absurd cc
blank_byte backslash x xs k is = absurd cc
blank_byte operator x xs k is = absurd cc
blank_byte space x xs k is = refl
blank_byte other x xs k is = absurd cc

lex-blank : (x : ℕ) (xs : List ℕ) → is_blank (class x) ≡ true → lex between (x ∷ xs) ≡ lex between xs
unfolding lex
lex-blank x xs is = blank_byte (class x) x xs (λ m. lex m xs) is

pub passes_space : (p : Place) (x : ℕ) (xs : List ℕ) → is_blank (class x) ≡ true → tokens_at p (x ∷ xs) ≡ tokens_at p xs
passes_space Fresh x xs is = ap (punctuate fresh) (lex-blank x xs is)
passes_space AfterValue x xs is = ap (punctuate after_value) (lex-blank x xs is)
passes_space AfterComma x xs is = ap (punctuate after_comma) (lex-blank x xs is)

-- ---- texts

inner_byte : (o s : Bool) (x : ℕ) (xs : List ℕ) (k : Mode → List Lexeme) → lex_byte in_string (cond o operator (cond s space other)) x xs k ≡ k in_string
inner_byte true s x xs k = refl
inner_byte false true x xs k = refl
inner_byte false false x xs k = refl

lex-plain : (x : ℕ) (xs : List ℕ) → IsPlain x → lex in_string (x ∷ xs) ≡ lex in_string xs
unfolding lex
lex-plain x xs is = rw (ne_eqb x 34 is.0, ne_eqb x 92 is.1) (inner_byte (is_operator x) (is_space x) x xs (λ m. lex m xs))

lex-text : (s rest : List ℕ) → ArePlain s → lex in_string (s ++ 34 ∷ rest) ≡ lex between rest
unfolding lex
lex-text [] rest are = refl
lex-text (x ∷ s) rest are = lex-plain x (s ++ 34 ∷ rest) are.0 ∙ lex-text s rest are.1

content-byte : (x : ℕ) (xs : List ℕ) → IsPlain x → content plain (x ∷ xs) ≡ prepend (x ∷ []) (content plain xs)
unfolding content
content-byte x xs is = rw (ne_eqb x 34 is.0, ne_eqb x 92 is.1, le-ltb x 32 is.2) refl

content-text : (s rest : List ℕ) → ArePlain s → content plain (s ++ 34 ∷ rest) ≡ Some s
unfolding content
content-text [] rest are = refl
content-text (x ∷ s) rest are = content-byte x (s ++ 34 ∷ rest) are.0 ∙ ap (prepend (x ∷ [])) (content-text s rest are.1)

lexed : (s rest : List ℕ) → ArePlain s → lex between (34 ∷ (s ++ 34 ∷ rest)) ≡ token (Token.string s) ∷ lex between rest
unfolding lex
lexed s rest are = ap₂ (λ o l. token (string_token o) ∷ l) (content-text s rest are) (lex-text s rest are)

placed : (s : List ℕ) (ls : List Lexeme) → begins_colon ls ≡ false → (punctuate fresh (token (Token.string s) ∷ ls) ≡ Token.string s ∷ punctuate after_value ls) × (punctuate after_comma (token (Token.string s) ∷ ls) ≡ Token.string s ∷ punctuate after_value ls)
unfolding punctuate
placed s ls apart = (rw apart refl, rw apart refl)

pub is_text : (p : Place) (s rest : List ℕ) → begins_at p ≡ true → ArePlain s → begins_colon (lex between rest) ≡ false → tokens_at p (34 ∷ (s ++ 34 ∷ rest)) ≡ Token.string s ∷ tokens_at AfterValue rest
is_text Fresh s rest may are apart = ap (punctuate fresh) (lexed s rest are) ∙ (placed s (lex between rest) apart).0
is_text AfterValue s rest may are apart = absurd cc
is_text AfterComma s rest may are apart = ap (punctuate after_comma) (lexed s rest are) ∙ (placed s (lex between rest) apart).1

pub is_key : (p : Place) (s rest : List ℕ) → begins_at p ≡ true → ArePlain s → tokens_at p (34 ∷ (s ++ 34 ∷ 58 ∷ rest)) ≡ Token.key s ∷ tokens_at Fresh rest
unfolding lex punctuate
is_key Fresh s rest may are = ap (punctuate fresh) (lexed s (58 ∷ rest) are)
is_key AfterValue s rest may are = absurd cc
is_key AfterComma s rest may are = ap (punctuate after_comma) (lexed s (58 ∷ rest) are)

-- ---- numerals

digit_class : (x : ℕ) → IsInRange 48 57 x → class x ≡ other
digit_class x is =
    let least = is.0 in
    let most = is.1 in rw (
      ne_eqb x 34 (λ e. omega arith),
      ne_eqb x 92 (λ e. omega arith),
      ne_eqb x 123 (λ e. omega arith),
      ne_eqb x 125 (λ e. omega arith),
      ne_eqb x 91 (λ e. omega arith),
      ne_eqb x 93 (λ e. omega arith),
      ne_eqb x 58 (λ e. omega arith),
      ne_eqb x 44 (λ e. omega arith),
      ne_eqb x 32 (λ e. omega arith),
      ne_eqb x 9 (λ e. omega arith),
      ne_eqb x 10 (λ e. omega arith),
      ne_eqb x 13 (λ e. omega arith),
    ) refl

lex-digit : (x : ℕ) (xs : List ℕ) → IsInRange 48 57 x → lex in_word (x ∷ xs) ≡ lex in_word xs
unfolding lex
lex-digit x xs is = ap (λ c. lex_byte in_word c x xs (λ m. lex m xs)) (digit_class x is)

lex-end : (x : ℕ) (xs : List ℕ) → Ends x → lex in_word (x ∷ xs) ≡ lex between (x ∷ xs)
unfolding lex
lex-end x xs (inl e) = rw e refl
lex-end x xs (inr e) = rw e refl

lex-digits : (ds : List ℕ) (x : ℕ) (xs : List ℕ) → AllDigits 10 ds → Ends x → lex in_word (ds ++ x ∷ xs) ≡ lex between (x ∷ xs)
lex-digits [] x xs are over = lex-end x xs over
lex-digits (d ∷ ds) x xs are over = lex-digit d (ds ++ x ∷ xs) (digit_from_value d are.0) ∙ lex-digits ds x xs are.1 over

no_digit : (x : ℕ) → Ends x → is_ascii_digit x ≡ false
no_digit x (inl e) = rw e refl
no_digit x (inr e) = rw e refl

is_digit : (x : ℕ) → digit_value x < 10 → is_ascii_digit x ≡ true
is_digit x is =
    let range = digit_from_value x is in
    let least = range.0 in
    let most = range.1 in
    rw (le-leb 48 x least, le-leb x 57 most) refl

prefix_digits : (ds : List ℕ) (x : ℕ) (xs : List ℕ) → AllDigits 10 ds → Ends x → prefix_len is_ascii_digit (ds ++ x ∷ xs) ≡ length ds
prefix_digits [] x xs are over = ap (λ b. cond b (1 + prefix_len is_ascii_digit xs) 0) (no_digit x over)
prefix_digits (d ∷ ds) x xs are over =
    let more = prefix_digits ds x xs are.1 over in
    ap (λ b. cond b (1 + prefix_len is_ascii_digit (ds ++ x ∷ xs)) 0) (is_digit d are.0) ∙ omega (arith, more)

drop_front : (ds xs : List ℕ) → drop (length ds) (ds ++ xs) ≡ xs
drop_front [] xs = refl
drop_front (d ∷ ds) xs = drop_front ds xs

take_digits : (ds xs : List ℕ) → take (length (ds ++ xs) - length xs) (ds ++ xs) ≡ ds
take_digits ds xs =
    let e : length (ds ++ xs) - length xs ≡ length ds = omega (arith, length-append ds xs) in
    ap (λ n. take n (ds ++ xs)) e ∙ take_front ds xs

after_end : (x : ℕ) (xs : List ℕ) → Ends x → option_and_then after_exponent (after_fraction (x ∷ xs)) ≡ Some (x ∷ xs)
after_end x xs (inl e) = rw e refl
after_end x xs (inr e) = rw e refl

ends_there : (x : ℕ) (xs : List ℕ) → Ends x → ends_word (x ∷ xs) ≡ true
ends_there x xs (inl e) = rw e refl
ends_there x xs (inr e) = rw e refl

-- what comes after a number without a sign
abbrev after_rest : List ℕ → Option (List ℕ)
after_rest text = option_and_then after_exponent (option_and_then after_fraction (after_whole text))

after_zero : (ds : List ℕ) (x : ℕ) (xs : List ℕ) → length ds ≡ 0 → Ends x → after_rest (48 ∷ (ds ++ x ∷ xs)) ≡ Some (x ∷ xs)
after_zero [] x xs none over = after_end x xs over
after_zero (d ∷ ds) x xs none over = absurd (omega arith)

after_some : (d : ℕ) (ds : List ℕ) (x : ℕ) (xs : List ℕ) → AllDigits 10 (d ∷ ds) → (d ≡ 48 → ⊥) → Ends x → after_digits (d ∷ (ds ++ x ∷ xs)) ≡ Some (x ∷ xs)
after_some d ds x xs are some over =
    let count = prefix_digits (d ∷ ds) x xs are over in
    ap (λ n. cond (n == 0) None (Some (drop n (d ∷ (ds ++ x ∷ xs))))) count ∙ rw (ne_eqb (length (d ∷ ds)) 0 (λ e. omega arith)) (ap Some (drop_front (d ∷ ds) (x ∷ xs)))

after_natural : (d : ℕ) (ds : List ℕ) (x : ℕ) (xs : List ℕ) → AllDigits 10 (d ∷ ds) → (d ≡ 48 → ⊥) → Ends x → after_rest (d ∷ (ds ++ x ∷ xs)) ≡ Some (x ∷ xs)
after_natural d ds x xs are some over =
    let found : after_whole (d ∷ (ds ++ x ∷ xs)) ≡ Some (x ∷ xs) = rw (ne_eqb d 48 some) (after_some d ds x xs are some over) in
    ap (λ o. option_and_then after_exponent (option_and_then after_fraction o)) found ∙ after_end x xs over

-- what comes after digits, the first being 0 only if it is alone
after_short : (d : ℕ) (ds : List ℕ) (x : ℕ) (xs : List ℕ) (b : Bool) → (d == 48) ≡ b → AllDigits 10 (d ∷ ds) → (d ≡ 48 → length ds ≡ 0) → Ends x → after_rest (d ∷ (ds ++ x ∷ xs)) ≡ Some (x ∷ xs)
after_short d ds x xs true is are lead over =
    let first = eqb-true d 48 is in
    ap (λ k. after_rest (k ∷ (ds ++ x ∷ xs))) first ∙ after_zero ds x xs (lead first) over
after_short d ds x xs false is are lead over = after_natural d ds x xs are (λ e. let yes = eq-eqb d 48 e in absurd (cc (is, yes))) over

word_short : (d : ℕ) (ds : List ℕ) (x : ℕ) (xs : List ℕ) → IsInRange 48 57 d → after_rest (d ∷ (ds ++ x ∷ xs)) ≡ Some (x ∷ xs) → Ends x → word (d ∷ (ds ++ x ∷ xs)) ≡ Token.number (d ∷ ds)
unfolding word after_number
word_short d ds x xs is after over =
    let least = is.0 in
    let most = is.1 in
    let t = d ∷ (ds ++ x ∷ xs) in
    let behind : after_number t ≡ Some (x ∷ xs) = rw (ne_eqb d 45 (λ e. omega arith)) after in
    rw (ne_eqb d 116 (λ e. omega arith), ne_eqb d 102 (λ e. omega arith), ne_eqb d 110 (λ e. omega arith))
    (ap (number_before t) behind ∙ rw (ends_there x xs over) (ap Token.number (take_digits (d ∷ ds) (x ∷ xs))))

-- digits after a minus sign
word_below : (ds : List ℕ) (x : ℕ) (xs : List ℕ) → after_rest (ds ++ x ∷ xs) ≡ Some (x ∷ xs) → Ends x → word (45 ∷ (ds ++ x ∷ xs)) ≡ Token.number (45 ∷ ds)
unfolding word after_number
word_below ds x xs after over = ap (number_before (45 ∷ (ds ++ x ∷ xs))) after ∙ rw (ends_there x xs over) (ap Token.number (take_digits (45 ∷ ds) (x ∷ xs)))

lexed_word : (d : ℕ) (ds : List ℕ) (x : ℕ) (xs s : List ℕ) → class d ≡ other → AllDigits 10 ds → Ends x → word (d ∷ (ds ++ x ∷ xs)) ≡ Token.number s → lex between (d ∷ (ds ++ x ∷ xs)) ≡ token (Token.number s) ∷ lex between (x ∷ xs)
unfolding lex
lexed_word d ds x xs s is are over said =
    ap (λ c. lex_byte between c d (ds ++ x ∷ xs) (λ m. lex m (ds ++ x ∷ xs))) is ∙ ap₂ (λ t l. token t ∷ l) said (lex-digits ds x xs are over)

at_number : (p : Place) (text s rest : List ℕ) → begins_at p ≡ true → lex between text ≡ token (Token.number s) ∷ lex between rest → tokens_at p text ≡ Token.number s ∷ tokens_at AfterValue rest
unfolding punctuate
at_number Fresh text s rest may is = ap (punctuate fresh) is
at_number AfterValue text s rest may is = absurd cc
at_number AfterComma text s rest may is = ap (punctuate after_comma) is

short_rest : (ds : List ℕ) (x : ℕ) (xs : List ℕ) → AllDigits 10 ds → 0 < length ds → (get_or ds 0 0 ≡ 48 → length ds ≡ 1) → Ends x → after_rest (ds ++ x ∷ xs) ≡ Some (x ∷ xs)
short_rest [] x xs are some lead over = absurd (omega arith)
short_rest (d ∷ ds) x xs are some lead over = after_short d ds x xs (d == 48) refl are (λ e. let one = lead e in omega arith) over

pub is_natural : (p : Place) (ds : List ℕ) (x : ℕ) (xs : List ℕ) → begins_at p ≡ true → AllDigits 10 ds → 0 < length ds → (get_or ds 0 0 ≡ 48 → length ds ≡ 1) → Ends x
    → tokens_at p (ds ++ x ∷ xs) ≡ Token.number ds ∷ tokens_at AfterValue (x ∷ xs)
is_natural p [] x xs may are some lead over = absurd (omega arith)
is_natural p (d ∷ ds) x xs may are some lead over =
    let range = digit_from_value d are.0 in
    let after = short_rest (d ∷ ds) x xs are some lead over in
    at_number p (d ∷ (ds ++ x ∷ xs)) (d ∷ ds) (x ∷ xs) may (lexed_word d ds x xs (d ∷ ds) (digit_class d range) are.1 over (word_short d ds x xs range after over))

pub is_below : (p : Place) (ds : List ℕ) (x : ℕ) (xs : List ℕ) → begins_at p ≡ true → AllDigits 10 ds → 0 < length ds → (get_or ds 0 0 ≡ 48 → length ds ≡ 1) → Ends x
    → tokens_at p (45 ∷ (ds ++ x ∷ xs)) ≡ Token.number (45 ∷ ds) ∷ tokens_at AfterValue (x ∷ xs)
is_below p ds x xs may are some lead over =
    at_number p (45 ∷ (ds ++ x ∷ xs)) (45 ∷ ds) (x ∷ xs) may (lexed_word 45 ds x xs (45 ∷ ds) refl are over (word_below ds x xs (short_rest ds x xs are some lead over) over))

-- digits with no 0 before another are a number
pub natural_of : (ds : List ℕ) → AllDigits 10 ds → 0 < length ds → (get_or ds 0 0 ≡ 48 → length ds ≡ 1) → digits_value 10 ds < 2 ^ 64 → number_of ds ≡ Some (unsigned (digits_value 10 ds))
natural_of ds are some lead small =
    ap number_of (sym (decimal-digits_value (numerals_by_value (AllDigits 10) tells_digits) ds are some lead small)) ∙ number_of-decimal (digits_value 10 ds) small

-- after a minus sign, if they are not 0
pub below_of : (ds : List ℕ) (z : ℤ) → AllDigits 10 ds → 0 < length ds → (get_or ds 0 0 ≡ 48 → length ds ≡ 1) → 0 < digits_value 10 ds → digits_value 10 ds < 2 ^ 63 → z ≡ neg_ℤ (pos (digits_value 10 ds)) → number_of (45 ∷ ds) ≡ Some (negative z)
below_of ds z are some lead more small is =
    let written = decimal-digits_value (numerals_by_value (AllDigits 10) tells_digits) ds are some lead (omega arith) in
    below_value ds (digits_value 10 ds) z (sym written) more small is
  where
    below_value : (ds : List ℕ) (n : ℕ) (z : ℤ) → ds ≡ decimal n → 0 < n → n < 2 ^ 63 → z ≡ neg_ℤ (pos n) → number_of (45 ∷ ds) ≡ Some (negative z)
    below_value ds zero z written more small is = absurd (omega arith)
    below_value ds (suc n) z written more small is = ap (λ s. number_of (45 ∷ s)) written ∙ number_of-negative n (omega arith) ∙ ap (λ k. Some (negative k)) (sym is)

-- what is computed of a number after a minus sign
pub given_of : (n : ℕ) (z : ℤ) → n < 2 ^ 63 → as_i64 (unsigned n) ≡ Some z → z ≡ pos n
given_of n z small is = let same = rw (lt-ltb n (2 ^ 63) small) at is in cc (same)

pub some_of : (n : ℕ) (z : ℤ) → z ≡ pos n → (of_z w64 z ≡ 0 → ⊥) → 0 < n
some_of zero z is more = absurd (more (ap (of_z w64) is))
some_of (suc n) z is more = omega arith

pub wrapped_negated : (n : ℕ) (z : ℤ) → n < 2 ^ 63 → z ≡ pos n → to_z w64 (of_z w64 (pos 0 -ℤ to_z w64 (of_z w64 z))) ≡ neg_ℤ (pos n)
wrapped_negated n z small is = omega (arith, ints)

-- ---- at a place of a text

here : (text : List ℕ) (i x : ℕ) → i < length text → get_or text i 0 ≡ x → drop i text ≡ x ∷ drop (i + 1) text
here text i x lt is = drop_more text i 0 lt ∙ ap (λ y. y ∷ drop (i + 1) text) is

pub at_array : (p : Place) (text : List ℕ) (i : ℕ) → i < length text → get_or text i 0 ≡ 91 → begins_at p ≡ true → tokens_at p (drop i text) ≡ Token.begin_array ∷ tokens_at Fresh (drop (i + 1) text)
at_array p text i lt is may = ap (tokens_at p) (here text i 91 lt is) ∙ opens_array p (drop (i + 1) text) may

pub at_object : (p : Place) (text : List ℕ) (i : ℕ) → i < length text → get_or text i 0 ≡ 123 → begins_at p ≡ true → tokens_at p (drop i text) ≡ Token.begin_object ∷ tokens_at Fresh (drop (i + 1) text)
at_object p text i lt is may = ap (tokens_at p) (here text i 123 lt is) ∙ opens_object p (drop (i + 1) text) may

pub at_end : (p : Place) (text : List ℕ) (i : ℕ) → i < length text → get_or text i 0 ≡ 93 → closes_at p ≡ true → tokens_at p (drop i text) ≡ Token.end_array ∷ tokens_at AfterValue (drop (i + 1) text)
at_end p text i lt is may = ap (tokens_at p) (here text i 93 lt is) ∙ closes_array p (drop (i + 1) text) may

pub at_last : (p : Place) (text : List ℕ) (i end : ℕ) → i < length text → get_or text i 0 ≡ 125 → closes_at p ≡ true → tokens_at AfterValue (drop end text) ≡ tokens_at AfterValue (drop (i + 1) text) → length text ≤ end
    → tokens_at p (drop i text) ≡ Token.end_object ∷ []
at_last p text i end lt is may same past =
    ap (tokens_at p) (here text i 125 lt is) ∙ closes_object p (drop (i + 1) text) may ∙ ap (λ ts. Token.end_object ∷ ts) (sym same ∙ ap (tokens_at AfterValue) (drop_all end text past) ∙ tokens_at_end)

pub at_comma : (text : List ℕ) (i : ℕ) → i < length text → get_or text i 0 ≡ 44 → tokens_at AfterValue (drop i text) ≡ tokens_at AfterComma (drop (i + 1) text)
at_comma text i lt is = ap (tokens_at AfterValue) (here text i 44 lt is) ∙ passes_comma (drop (i + 1) text)

pub spaces_next : (p : Place) (text : List ℕ) (i from : ℕ) → i < length text → is_blank (class (get_or text i 0)) ≡ true → tokens_at p (drop i text) ≡ tokens_at p (drop from text) → tokens_at p (drop (i + 1) text) ≡ tokens_at p (drop from text)
spaces_next p text i from lt is before = sym (ap (tokens_at p) (drop_more text i 0 lt) ∙ passes_space p (get_or text i 0) (drop (i + 1) text) is) ∙ before

plain_push : (xs : List ℕ) (x : ℕ) → ArePlain xs → IsPlain x → ArePlain (xs ++ x ∷ [])
plain_push [] x are is = (is, tt)
plain_push (y ∷ xs) x are is = (are.0, plain_push xs x are.1 is)

pub plain_begins : (text : List ℕ) (from : ℕ) → ArePlainBetween text from from
plain_begins text from = record { bytes = []; plain = tt; count = omega arith; stand = refl }

longer : (xs : List ℕ) (x : ℕ) → length (xs ++ x ∷ []) ≡ length xs + 1
longer xs x = omega (arith, length-append xs (x ∷ []))

stands_next : (text xs : List ℕ) (from end : ℕ) → end < length text → drop from text ≡ xs ++ drop end text → drop from text ≡ (xs ++ get_or text end 0 ∷ []) ++ drop (end + 1) text
stands_next text xs from end lt stand = stand ∙ ap (λ l. xs ++ l) (drop_more text end 0 lt) ∙ sym (append_assoc xs (get_or text end 0 ∷ []) (drop (end + 1) text))

pub plain_next : (text : List ℕ) (from end : ℕ) → end < length text → IsPlain (get_or text end 0) → ArePlainBetween text from end → ArePlainBetween text from (end + 1)
plain_next text from end lt is run =
    let count = run.count in
    let more = longer run.bytes (get_or text end 0) in
    record { bytes = run.bytes ++ get_or text end 0 ∷ []; plain = plain_push run.bytes (get_or text end 0) run.plain is; count = omega (arith, count, more); stand = stands_next text run.bytes from end lt run.stand }

-- a text in quotes
pub quoted_found : (text : List ℕ) (at start end : ℕ) → at < length text → get_or text at 0 ≡ 34 → start ≡ at + 1 → ArePlainBetween text start end → end < length text → get_or text end 0 ≡ 34
    → ArePlain (take (end - start) (drop start text)) × (drop at text ≡ 34 ∷ (take (end - start) (drop start text) ++ 34 ∷ drop (end + 1) text))
quoted_found text at start end lt is next run under closes =
    let count = run.count in
    let n : end - start ≡ length run.bytes = omega (arith, count) in
    let found : take (end - start) (drop start text) ≡ run.bytes = ap₂ take n run.stand ∙ take_front run.bytes (drop end text) in (
      subst ArePlain (sym found) run.plain,
      here text at 34 lt is ∙ ap (λ k. 34 ∷ drop k text) (sym next) ∙ ap (λ l. 34 ∷ l) (run.stand ∙ ap₂ (λ l r. l ++ r) (sym found) (here text end 34 under closes)),
    )

no_colon : (x : ℕ) (xs : List ℕ) → Ends x → begins_colon (lex between (x ∷ xs)) ≡ false
unfolding lex
no_colon x xs (inl e) = rw e refl
no_colon x xs (inr e) = rw e refl

pub at_text : (p : Place) (text s : List ℕ) (at end : ℕ) → begins_at p ≡ true → ArePlain s → drop at text ≡ 34 ∷ (s ++ 34 ∷ drop end text) → end < length text → Ends (get_or text end 0)
    → tokens_at p (drop at text) ≡ Token.string s ∷ tokens_at AfterValue (drop end text)
at_text p text s at end may are stand under over =
    ap (tokens_at p) stand ∙ is_text p s (drop end text) may are (ap (λ t. begins_colon (lex between t)) (drop_more text end 0 under) ∙ no_colon (get_or text end 0) (drop (end + 1) text) over)

pub at_key : (p : Place) (text s : List ℕ) (at end : ℕ) → begins_at p ≡ true → ArePlain s → drop at text ≡ 34 ∷ (s ++ 34 ∷ drop end text) → end < length text → get_or text end 0 ≡ 58
    → tokens_at p (drop at text) ≡ Token.key s ∷ tokens_at Fresh (drop (end + 1) text)
at_key p text s at end may are stand under colon =
    ap (tokens_at p) (stand ∙ ap (λ l. 34 ∷ (s ++ 34 ∷ l)) (here text end 58 under colon)) ∙ is_key p s (drop (end + 1) text) may are

-- digits from one place to another, and the number that they write
pub record AreDigitsBetween (text : List ℕ) (from number end : ℕ) : Type 0 where
  pub digits : List ℕ
  pub are : AllDigits 10 digits
  pub value : number ≡ digits_value 10 digits
  pub count : from + length digits ≡ end
  pub stand : drop from text ≡ digits ++ drop end text

pub digits_begin : (text : List ℕ) (from : ℕ) → AreDigitsBetween text from 0 from
digits_begin text from = record { digits = []; are = tt; value = refl; count = omega arith; stand = refl }

digits_push : (ds : List ℕ) (x : ℕ) → AllDigits 10 ds → digit_value x < 10 → AllDigits 10 (ds ++ x ∷ [])
digits_push [] x are is = (is, tt)
digits_push (d ∷ ds) x are is = (are.0, digits_push ds x are.1 is)

pub digits_next : (text : List ℕ) (from number end next : ℕ) → end < length text → 48 ≤ get_or text end 0 → get_or text end 0 ≤ 57 → AreDigitsBetween text from number end → next ≡ 10 * number + (get_or text end 0 - 48)
    → AreDigitsBetween text from next (end + 1)
digits_next text from number end next lt least most run more =
    let x = get_or text end 0 in
    let range : IsInRange 48 57 x = (least, most) in
    let value = digit_value_digit x range in
    let digit : digit_value x < 10 = omega (arith, value, least, most) in
    let before = run.value in
    let count = run.count in
    let pushed = digits_value_push 10 run.digits x in
    let long = longer run.digits x in record {
      digits = run.digits ++ x ∷ [];
      are = digits_push run.digits x run.are digit;
      value = omega (arith, pushed, value, before, more, least);
      count = omega (arith, count, long);
      stand = stands_next text run.digits from end lt run.stand;
    }

first_of_digits : (text ds rest : List ℕ) (from : ℕ) → drop from text ≡ ds ++ rest → 0 < length ds → get_or text from 0 ≡ get_or ds 0 0
first_of_digits text [] rest from stand some = absurd (omega arith)
first_of_digits text (d ∷ ds) rest from stand some = ap (λ k. get_or text k 0) (let plain : from ≡ from + 0 = omega arith in plain) ∙ sym (get_or-drop from text 0 0) ∙ ap (λ l. get_or l 0 0) stand

pub numeral_found : (text : List ℕ) (from number end : ℕ) → AreDigitsBetween text from number end → (end ≡ from → ⊥) → (get_or text from 0 ≡ 48 → end ≤ from + 1) → number < 2 ^ 63 → end < length text → Ends (get_or text end 0)
    → IsNumeralBetween text from number end
numeral_found text from number end run moved lead small under over =
    let count = run.count in
    let some : 0 < length run.digits = omega (arith, count) in
    let first = first_of_digits text run.digits (drop end text) from run.stand some in record {
      digits = run.digits;
      are = run.are;
      some = some;
      short = λ zero_first. let least = lead (first ∙ zero_first) in omega (arith, least, count, some);
      value = run.value;
      small = small;
      next = get_or text end 0;
      ends = over;
      stand = run.stand;
      behind = drop_more text end 0 under;
    }

pub at_natural : (p : Place) (text : List ℕ) (from number end : ℕ) → begins_at p ≡ true → (found : IsNumeralBetween text from number end) → tokens_at p (drop from text) ≡ Token.number found.digits ∷ tokens_at AfterValue (drop end text)
at_natural p text from number end may found =
    ap (tokens_at p) (found.stand ∙ ap (λ l. found.digits ++ l) found.behind) ∙ is_natural p found.digits found.next (drop (end + 1) text) may found.are found.some found.short found.ends
    ∙ ap (λ l. Token.number found.digits ∷ tokens_at AfterValue l) (sym found.behind)

pub at_below : (p : Place) (text : List ℕ) (at from number end : ℕ) → begins_at p ≡ true → at < length text → get_or text at 0 ≡ 45 → from ≡ at + 1 → (found : IsNumeralBetween text from number end)
    → tokens_at p (drop at text) ≡ Token.number (45 ∷ found.digits) ∷ tokens_at AfterValue (drop end text)
at_below p text at from number end may lt is next found =
    ap (tokens_at p) (here text at 45 lt is ∙ ap (λ k. 45 ∷ drop k text) (sym next) ∙ ap (λ l. 45 ∷ l) (found.stand ∙ ap (λ l. found.digits ++ l) found.behind))
    ∙ is_below p found.digits found.next (drop (end + 1) text) may found.are found.some found.short found.ends ∙ ap (λ l. Token.number (45 ∷ found.digits) ∷ tokens_at AfterValue l) (sym found.behind)
