-- A sentence of a place, with the line of the file.
use Rattle.std.specs.Prelude.{◌≡◌, ℕ, List, ◌++◌, codes, map}
use Rattle.std.specs.Fmt.{decimal}
use Rattle.lc_place.specs.Excerpt.{IsExcerpt}
use Rattle.lc_place.specs.declared.place.Place.{Place}
use Rattle.lc_explain.specs.declared.label.Label.{Label}
use Rattle.lc_explain.specs.declared.label.Label.TheVariants.{Error, Note}

-- what a sentence is: what is wrong, or what else has to be seen
abbrev pub word_of : Label → List ℕ
word_of Error = codes "error"
word_of Note = codes "note"

-- the path, the line and the column
abbrev pub position : List ℕ → Place → List ℕ
position path place = path ++ codes ":" ++ decimal place.line ++ codes ":" ++ decimal place.column

-- what a sentence is, and the sentence
abbrev pub said : Label → List ℕ → List ℕ
said label sentence = codes ": " ++ word_of label ++ codes ": " ++ sentence ++ codes "\n"

-- a space in place of each digit
abbrev pub blanks : List ℕ → List ℕ
blanks digits = map (λ b. 32) digits

-- a line after a margin, which holds the number of the line or spaces
abbrev pub behind_margin : List ℕ → List ℕ → List ℕ
behind_margin margin line = codes "    " ++ margin ++ codes " | " ++ line ++ codes "\n"

-- The text says the sentence of the place, and then shows the line of the place, or a part of it, with marks under the place.
pub record IsLocated (path bytes : List ℕ) (place : Place) (label : Label) (sentence text : List ℕ) : Type 0 where
  pub line : List ℕ
  pub marks : List ℕ
  pub excerpt : IsExcerpt bytes place.offset place.length line marks
  pub text_is : text ≡ position path place ++ said label sentence ++ behind_margin (decimal place.line) line ++ behind_margin (blanks (decimal place.line)) marks
