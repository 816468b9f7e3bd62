-- The whole numbers of a text with commas between them: `0,1,-5`.
use Rattle.std.specs.Prelude.{◌==◌, ◌&&◌, ◌^◌, ℕ, ℤ, pos, negsuc, Bool, if◌then◌else◌, nat_lt, length, List, [], ◌∷◌, Option, Some, None, option_and_then, option_map}
use Rattle.std.specs.List.{slice_split}
use Rattle.std.specs.Str.{all_ascii_digits}
use Rattle.std.specs.Str.Parse.{signed_digits_value, without_leading_sign}

-- a comma
abbrev pub is_comma : ℕ → Bool
is_comma b = b == 44

-- what stands between the commas: one part at least, and a part may be empty
abbrev pub parts : List ℕ → List (List ℕ)
parts text = slice_split is_comma text

-- one digit or more, and nothing else
abbrev pub is_numeral : List ℕ → Bool
is_numeral digits = nat_lt 0 (length digits) && all_ascii_digits digits

-- a number of 64 bits with a sign
abbrev pub fits : ℤ → Bool
fits (pos n) = nat_lt n (2 ^ 63)
fits (negsuc n) = nat_lt n (2 ^ 63)

-- the number that a text says: digits, behind a plus or a minus or behind no sign, of a number that fits
unfoldable pub whole_in : List ℕ → Option ℤ
whole_in text = if is_numeral (without_leading_sign text) && fits (signed_digits_value 10 text) then Some (signed_digits_value 10 text) else None

-- what the texts say, in order, if each says a number
abbrev pub all_wholes_in : List (List ℕ) → Option (List ℤ)
all_wholes_in [] = Some []
all_wholes_in (text ∷ texts) = option_and_then (λ z. option_map (λ zs. z ∷ zs) (all_wholes_in texts)) (whole_in text)

-- the numbers of a text with commas between them
abbrev pub whole_numbers_in : List ℕ → Option (List ℤ)
whole_numbers_in text = all_wholes_in (parts text)
