-- Elements of SVG, as text.
use Rattle.std.specs.Prelude.{◌≡◌, ℕ, Bool, true, false, not, ◌||◌, ◌&&◌, ◌==◌, nat_le, List, [], ◌∷◌, ◌++◌, codes, Option, Some, None, IfSome}
use Rattle.std.specs.List.{flat_map, list_all, list_any}
use Rattle.std.specs.Str.{bytes_eq}

-- a name, attributes with their values, and the text between its tags, if it has any
pub record Element : Type 0 where
  pub name : List ℕ
  pub attributes : List (List ℕ × List ℕ)
  pub text : Option (List ℕ)

-- ` NAME="VALUE"`
abbrev pub attribute_text : List ℕ × List ℕ → List ℕ
attribute_text a = codes " " ++ a.0 ++ codes "=\"" ++ a.1 ++ codes "\""

abbrev pub ending : List ℕ → Option (List ℕ) → List ℕ
ending name None = codes "/>\n"
ending name (Some t) = codes ">" ++ t ++ codes "</" ++ name ++ codes ">\n"

-- `<NAME ATTRIBUTES/>` or `<NAME ATTRIBUTES>TEXT</NAME>`, and the end of the line
abbrev pub element_text : Element → List ℕ
element_text e = codes "<" ++ e.name ++ flat_map attribute_text e.attributes ++ ending e.name e.text

abbrev pub elements_text : List Element → List ℕ
elements_text es = flat_map element_text es

-- it stands for itself in a text and in a value: it is printed, and none of `"`, `&`, `<` and `>`
abbrev pub is_plain : ℕ → Bool
is_plain b = nat_le 32 b && nat_le b 126 && not (b == 34 || b == 38 || b == 60 || b == 62)

abbrev pub are_plain : List ℕ → Bool
are_plain t = list_all is_plain t

-- a letter of a name
abbrev pub is_letter : ℕ → Bool
is_letter b = nat_le 97 b && nat_le b 122

abbrev pub is_name : List ℕ → Bool
is_name [] = false
is_name (b ∷ bs) = is_letter b && list_all is_letter bs

-- no two attributes have one name
abbrev pub names_differ : List (List ℕ × List ℕ) → Bool
names_differ [] = true
names_differ (a ∷ others) = not (list_any (λ b. bytes_eq a.0 b.0) others) && names_differ others

-- each attribute has a name, and a value without markup
abbrev pub AreAttributes : List (List ℕ × List ℕ) → Type 0
AreAttributes [] = Unit {0}
AreAttributes (a ∷ others) = (is_name a.0 ≡ true) × (are_plain a.1 ≡ true) × AreAttributes others

-- its names are names, no two attributes have one, and its values and its text have no markup
pub record IsWellFormed (e : Element) : Type 0 where
  pub name : is_name e.name ≡ true
  pub attributes : AreAttributes e.attributes
  pub differ : names_differ e.attributes ≡ true
  pub text : IfSome e.text (λ t. are_plain t ≡ true)

abbrev pub AreWellFormed : List Element → Type 0
AreWellFormed [] = Unit {0}
AreWellFormed (e ∷ es) = IsWellFormed e × AreWellFormed es

-- these elements were written after a text, and are well-formed
abbrev pub HasWritten : List Element → (before after : List ℕ) → Type 0
HasWritten es before after = (after ≡ before ++ elements_text es) × AreWellFormed es
