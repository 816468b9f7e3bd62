-- JSON text without markup.
use Rattle.std.specs.Prelude.{◌≡◌, ℕ, Bool, false, ◌||◌, ◌==◌, if◌then◌else◌, List, [], ◌∷◌, codes}
use Rattle.std.specs.List.{flat_map, list_any}

-- it is `&`, `<` or `>`
abbrev pub is_markup : ℕ → Bool
is_markup b = b == 38 || b == 60 || b == 62

abbrev pub has_markup : List ℕ → Bool
has_markup bytes = list_any is_markup bytes

-- the byte, or the escape that a text of JSON has for it
abbrev pub unmarked_byte : ℕ → List ℕ
unmarked_byte b =
    if b == 38 then codes "\\u0026"
    else (if b == 60 then codes "\\u003c"
    else (if b == 62 then codes "\\u003e" else b ∷ []))

abbrev pub unmarked : List ℕ → List ℕ
unmarked bytes = flat_map unmarked_byte bytes

-- no text has markup then
abbrev pub NoneHasMarkup : Type 0
NoneHasMarkup = (bytes : List ℕ) → has_markup (unmarked bytes) ≡ false
