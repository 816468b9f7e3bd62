-- What the tokens of a JSON text say from a place on: a value, or the values of an array up to its bracket.
use Rattle.std.specs.Prelude.{◌≡◌, List, [], length, Option, Some, option_map, option_and_then, unwrap_or, IsUtf8, IsSome, ℕ, ◌≤◌}
use Rattle.json.specs.Token.{Token}
use Rattle.json.specs.Json as json
use Rattle.json.specs.Lex.{tokens}
use Rattle.serde_json.specs.Data.{Data, null}
use Rattle.serde_json.specs.Read.{of_json, of_items}
use Rattle.lc_base.specs.Limits.{file_limit}
use Rattle.lc_hist.specs.JsonValues.{values_in}

-- the value that begins there, if one does
abbrev pub begun_at : List Token → Option Data
begun_at ts = option_and_then (λ p. of_json p.0) (json.value (length ts) ts)

abbrev pub data_at : List Token → Data
data_at ts = unwrap_or (begun_at ts) null

-- one does
abbrev pub IsData : List Token → Type 0
IsData ts = begun_at ts ≡ Some (data_at ts)

-- the values from there to the bracket that closes their array, if there are such
abbrev pub listed_at : List Token → Option (List Data)
listed_at ts = option_and_then (λ p. option_map values_in (of_items p.0)) (json.items (json.value (length ts)) (length ts) ts)

abbrev pub values_at : List Token → List Data
values_at ts = unwrap_or (listed_at ts) []

-- there are
abbrev pub AreData : List Token → Type 0
AreData ts = listed_at ts ≡ Some (values_at ts)

-- the tokens are those of these bytes, which are within the limit of a file, UTF-8, and a document of the grammar of JSON
pub record AreTokensOf (bytes : List ℕ) (ts : List Token) : Type 0 where
  pub limit : length bytes ≤ file_limit
  pub utf8 : IsUtf8 bytes
  pub same : ts ≡ tokens bytes
  pub some : IsSome (json.document bytes)
