-- Where items, bytes and open lists are in a file.
use Rattle.std.specs.Prelude.{◌≡◌, ℕ, ◌≤◌, ◌-◌, min, List, ◌++◌, length, drop, slice_get, Some}
use Rattle.lc_sexp.specs.Trees.{Tree, Trees, Token, tokens_of, items_of_all}
use Rattle.lc_sexp.specs.Text.{lexed}
use Rattle.lc_sexp.specs.Reads.{text_of}
use Rattle.lc_place.specs.Items.{Begins, IsItemOf}
use Rattle.lc_place.specs.Lines.{line_of, column_of}
use Rattle.lc_place.specs.Open.{IsInnermostOpen}
use Rattle.lc_place.specs.declared.place.Place.{Place}

-- the place of `length` bytes from the offset on
pub record IsPlaceOf (bytes : List ℕ) (offset length : ℕ) (p : Place) : Type 0 where
  pub offset_is : p.offset ≡ offset
  pub length_is : p.length ≡ length
  pub line : p.line ≡ line_of bytes offset
  pub column : p.column ≡ column_of bytes offset

-- the place of the item of this number
pub record IsItem (bytes : List ℕ) (number : ℕ) (p : Place) : Type 0 where
  pub begins : Begins bytes number p.offset
  pub spans : IsItemOf (drop p.offset (text_of bytes)) p.length
  pub lies : IsPlaceOf bytes p.offset p.length p

-- the place of the byte at the offset, or of the end
abbrev pub IsByte : List ℕ → ℕ → Place → Type 0
IsByte bytes offset p = (offset ≤ length bytes) × IsPlaceOf bytes offset (min 1 (length bytes - offset)) p

-- the place of the innermost list that is open at the end
pub record IsOpenList (bytes : List ℕ) (p : Place) : Type 0 where
  pub stays : IsInnermostOpen (text_of bytes) p.offset
  pub lies : IsPlaceOf bytes p.offset (length bytes - p.offset) p

-- If a file reads as trees, what begins at the place is the item of this number, by its tokens.
pub record StandsAt (bytes : List ℕ) (trees : Trees) (number : ℕ) (p : Place) : Type 0 where
  pub item : Tree
  pub is : slice_get (items_of_all trees) number ≡ Some item
  pub behind : List Token
  pub tokens : lexed (drop p.offset (text_of bytes)) ≡ tokens_of item ++ behind
