-- Ranges of numbers in the words of a command line.
use Rattle.std.proofs.Common.{◌≡◌, ℕ, suc, ◌+◌, ◌==◌, ◌<◌, ◌^◌, true, false, not, cond, nat_lt, List, [], ◌∷◌, ◌++◌, take, drop, length, Option, Some, None, refl, sym, ◌∙◌, ap, ap₂, arith}
use Rattle.std.proofs.lemmas.Bool.{le-ltb, lt-ltb}
use Rattle.std.proofs.lemmas.Fmt.{decimal_is_IsNumeral}
use Rattle.std.proofs.lemmas.List.{length-append}
use Rattle.std.specs.Borrow.{Bor}
use Rattle.std.specs.Fmt.{decimal}
use Rattle.std.specs.List.{after_first, before_first, position_or_len}
use Rattle.std.specs.Prelude.{if◌then◌else◌, MatchOption, option_and_then, option_map}
use Rattle.std.specs.Str.Parse.{AllDigits}
use Rattle.lc_words.specs.Reading.{is_stop, number_in, parted, range_in, range_of}
use Rattle.lc_words.specs.Tasks.{is_plain, range_text}
use Rattle.lc_words.proofs.Numbers.{no_digit, number_back}

-- digits, and then a full stop
first_stop : (ds rest : List ℕ) → AllDigits 10 ds → position_or_len is_stop (ds ++ 46 ∷ rest) ≡ length ds
first_stop [] rest h = refl
first_stop (d ∷ ds) rest h =
    let more : 1 + length ds ≡ suc (length ds) = omega arith in
    ap (λ t. cond (not t) (1 + position_or_len is_stop (ds ++ 46 ∷ rest)) 0) (no_digit d 46 h.0 refl) ∙ ap (λ n. 1 + n) (first_stop ds rest h.1) ∙ more

take-front : (ds rest : List ℕ) → take (length ds) (ds ++ rest) ≡ ds
take-front [] rest = refl
take-front (d ∷ ds) rest = ap (λ l. d ∷ l) (take-front ds rest)

drop-front : (ds rest : List ℕ) (b : ℕ) → drop (length ds + 1) (ds ++ b ∷ rest) ≡ rest
drop-front [] rest b = refl
drop-front (d ∷ ds) rest b =
    let more : suc (length ds) + 1 ≡ suc (length ds + 1) = omega arith in
    ap (λ n. drop n (d ∷ (ds ++ b ∷ rest))) more ∙ drop-front ds rest b

within_front : (ds rest : List ℕ) (b : ℕ) → nat_lt (length ds) (length (ds ++ b ∷ rest)) ≡ true
within_front ds rest b =
    let n = length-append ds (b ∷ rest) in
    lt-ltb (length ds) (length (ds ++ b ∷ rest)) (omega (arith, n))

parted_back : (ds rest : List ℕ) → AllDigits 10 ds → parted (ds ++ 46 ∷ rest) ≡ Some (ds, rest)
parted_back ds rest h =
    let at = first_stop ds rest h in
    ap (λ n. if nat_lt n (length (ds ++ 46 ∷ rest)) then Some (take n (ds ++ 46 ∷ rest), drop (n + 1) (ds ++ 46 ∷ rest)) else None) at
    ∙ ap (λ t. if t then Some (take (length ds) (ds ++ 46 ∷ rest), drop (length ds + 1) (ds ++ 46 ∷ rest)) else None) (within_front ds rest 46)
    ∙ ap₂ (λ x y. Some (x, y)) (take-front ds (46 ∷ rest)) (drop-front ds rest 46)

-- a range reads back
pub range_back : (first end : ℕ) → first < 2 ^ 64 → end < 2 ^ 64 → range_in (range_text first end) ≡ Some (first, end)
range_back first end small small' =
    let digits = (decimal_is_IsNumeral first small).0.1 in
    ap (option_and_then (λ p. option_and_then (range_of p.0) (parted p.1))) (parted_back (decimal first) (46 ∷ decimal end) digits)
    ∙ ap (option_and_then (range_of (decimal first))) (parted_back [] (decimal end) tt)
    ∙ ap₂ (λ x y. option_and_then (λ a. option_map (λ b. (a, b)) y) x) (number_back first small) (number_back end small')

plain_front : (ds rest : List ℕ) → AllDigits 10 ds → is_plain (ds ++ 46 ∷ rest) ≡ true
plain_front [] rest h = refl
plain_front (d ∷ ds) rest h = ap not (no_digit d 45 h.0 refl)

pub ranges_are_plain : (first end : ℕ) → first < 2 ^ 64 → is_plain (range_text first end) ≡ true
ranges_are_plain first end small = plain_front (decimal first) (46 ∷ decimal end) (decimal_is_IsNumeral first small).0.1

-- ---- what the code reads

-- a text that is cut at its first full stop
pub parted_cut : (text : List ℕ) (o : Option (Bor (List ℕ) × Bor (List ℕ)))
    → MatchOption o (position_or_len is_stop text ≡ length text) (λ x. (x.0.now ≡ before_first is_stop text) × (x.1.now ≡ after_first is_stop text) × (position_or_len is_stop text < length text))
    → option_map (λ x. (x.0.now, x.1.now)) o ≡ parted text
parted_cut text None h =
    let beyond : nat_lt (position_or_len is_stop text) (length text) ≡ false = le-ltb (position_or_len is_stop text) (length text) (omega (arith, h)) in
    sym (ap (λ t. if t then Some (before_first is_stop text, after_first is_stop text) else None) beyond)
parted_cut text (Some x) h =
    ap₂ (λ a b. Some (a, b)) h.0 h.1 ∙ sym (ap (λ t. if t then Some (before_first is_stop text, after_first is_stop text) else None) (lt-ltb (position_or_len is_stop text) (length text) h.2))

-- what is cut nowhere, or once, is no range
pub range_uncut : (text : List ℕ) → None ≡ parted text → None ≡ range_in text
range_uncut text uncut = ap (option_and_then (λ p. option_and_then (range_of p.0) (parted p.1))) uncut

pub range_cut_once : (text first rest : List ℕ) → Some (first, rest) ≡ parted text → None ≡ parted rest → None ≡ range_in text
range_cut_once text first rest cut uncut =
    ap (option_and_then (range_of first)) uncut ∙ ap (option_and_then (λ p. option_and_then (range_of p.0) (parted p.1))) cut

-- a range by the parts that it is cut into
pub range_cut : (text first rest between end : List ℕ) → Some (first, rest) ≡ parted text → Some (between, end) ≡ parted rest → range_of first (between, end) ≡ range_in text
range_cut text first rest between end cut again =
    ap (option_and_then (range_of first)) again ∙ ap (option_and_then (λ p. option_and_then (range_of p.0) (parted p.1))) cut

-- with something between the full stops it is none
pub range_between : (first between end : List ℕ) → (length between == 0) ≡ false → None ≡ range_of first (between, end)
range_between first between end some = sym (ap (λ t. if t then option_and_then (λ a. option_map (λ b. (a, b)) (number_in end)) (number_in first) else None) some)

-- and else it has the numbers that its texts say, if they do
pub range_said : (first between end : List ℕ) (a b : Option ℕ) → (length between == 0) ≡ true → a ≡ number_in first → b ≡ number_in end
    → option_and_then (λ x. option_map (λ y. (x, y)) b) a ≡ range_of first (between, end)
range_said first between end a b none is is' =
    ap₂ (λ a b. option_and_then (λ x. option_map (λ y. (x, y)) b) a) is is'
    ∙ sym (ap (λ t. if t then option_and_then (λ a. option_map (λ b. (a, b)) (number_in end)) (number_in first) else None) none)
