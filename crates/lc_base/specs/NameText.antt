-- Which texts are names.
use Rattle.std.specs.Prelude.{ℕ, Bool, false, ◌&&◌, ◌||◌, ◌==◌, nat_le, List, [], ◌∷◌}
use Rattle.std.specs.List.{list_all}

-- an ASCII letter
abbrev pub is_letter : ℕ → Bool
is_letter b = nat_le 65 b && nat_le b 90 || nat_le 97 b && nat_le b 122

-- an ASCII digit
abbrev pub is_digit : ℕ → Bool
is_digit b = nat_le 48 b && nat_le b 57

-- a letter or `_`
unfoldable pub begins_name : ℕ → Bool
begins_name b = is_letter b || b == 95

-- a letter, a digit, `_`, `-` or `.`
unfoldable pub continues_name : ℕ → Bool
continues_name b = is_letter b || is_digit b || b == 95 || b == 45 || b == 46

-- a letter or `_`, then letters, digits, `_`, `-` and `.`
abbrev pub is_name : List ℕ → Bool
is_name [] = false
is_name (b ∷ bytes) = begins_name b && list_all continues_name bytes
