-- Where a reader of a text is, and the tokens that it has still to read.
use Rattle.std.specs.Prelude.{◌≡◌, ℕ, ◌+◌, ◌<◌, ◌≤◌, ◌^◌, ◌⊎◌, List, [], ◌∷◌, ◌++◌, Bool, true, false, length, drop, slice_index_or, ⊤}
use Rattle.std.specs.Str.Parse.{AllDigits, digits_value}
use Rattle.json.specs.Token.{Token}
use Rattle.json.specs.Lex.{between, fresh, after_value, after_comma, lex, punctuate}
use Rattle.lc_hist.specs.declared.cursor.Place.{Place}
use Rattle.lc_hist.specs.declared.cursor.Place.TheVariants.{Fresh, AfterValue, AfterComma}

-- the tokens of a text from a place on
abbrev pub tokens_at : Place → List ℕ → List Token
tokens_at Fresh text = punctuate fresh (lex between text)
tokens_at AfterValue text = punctuate after_value (lex between text)
tokens_at AfterComma text = punctuate after_comma (lex between text)

-- a value may begin there
abbrev pub begins_at : Place → Bool
begins_at Fresh = true
begins_at AfterValue = false
begins_at AfterComma = true

-- a bracket may close there
abbrev pub closes_at : Place → Bool
closes_at Fresh = true
closes_at AfterValue = true
closes_at AfterComma = false

-- a byte that no text in quotes has to escape
abbrev pub IsPlain : ℕ → Type 0
IsPlain x = (x ≡ 34 → ⊥) × (x ≡ 92 → ⊥) × (32 ≤ x)

abbrev pub ArePlain : List ℕ → Type 0
ArePlain [] = ⊤
ArePlain (x ∷ xs) = IsPlain x × ArePlain xs

-- a comma, or a bracket that closes
abbrev pub Ends : ℕ → Type 0
Ends x = (x ≡ 44) ⊎ (x ≡ 93)

-- there are plain bytes from one place to another
pub record ArePlainBetween (text : List ℕ) (from end : ℕ) : Type 0 where
  pub bytes : List ℕ
  pub plain : ArePlain bytes
  pub count : from + length bytes ≡ end
  pub stand : drop from text ≡ bytes ++ drop end text

-- from one place to another there is a number in as few digits as it can be written, and an item ends after it
pub record IsNumeralBetween (text : List ℕ) (from number end : ℕ) : Type 0 where
  pub digits : List ℕ
  pub are : AllDigits 10 digits
  pub some : 0 < length digits
  pub short : slice_index_or digits 0 0 ≡ 48 → length digits ≡ 1
  pub value : number ≡ digits_value 10 digits
  pub small : number < 2 ^ 63
  pub next : ℕ
  pub ends : Ends next
  pub stand : drop from text ≡ digits ++ drop end text
  pub behind : drop end text ≡ next ∷ drop (end + 1) text
