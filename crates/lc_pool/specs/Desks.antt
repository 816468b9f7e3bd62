-- What a worker has before it.
use Rattle.std.specs.Prelude.{◌≡◌, ℕ, suc, ◌≤◌, map}
use Rattle.lc_outline.specs.Development.{Development}
use Rattle.lc_outline.specs.DevelopmentView.{development_view}
use Rattle.lc_cert.specs.ColumnNames.{names_with}
use Rattle.lc_cert.specs.OneByOne.{names_known, piece_at}
use Rattle.lc_cert.specs.declared.entry_reader.EntryReader.{EntryReader}
use Rattle.lc_cond.specs.Conditions.{conditions}
use Rattle.lc_cond.specs.ConditionView.{condition_in, AreConditions}
use Rattle.lc_cond.specs.Numbering.{IsNumbering, StandFrom}
use Rattle.lc_outline.specs.ColumnNames.{column_names}
use Rattle.lc_pool.specs.Known.{IsKnown, at_place}
use Rattle.lc_pool.specs.declared.desk.Files.{Files}
use Rattle.lc_pool.specs.declared.desk.Piece.{Piece}
use Rattle.lc_pool.specs.declared.laid.Laid.{Laid}

-- the conditions of a part lie in the table, and are in the list from the number of the first on
pub record IsLaid (D : Development) (l : Laid) : Type 0 where
  pub are : AreConditions l.terms l.part.conditions.items
  pub stand : StandFrom l.part.first (map (condition_in l.terms) l.part.conditions.items) (conditions D)

abbrev pub development_in : Files → Development
development_in f = development_view f.development.now

-- where the file is cut, and the items that come after the cuts
abbrev pub cuts_in : Files → ℕ → ℕ
cuts_in f = at_place f.places.now

abbrev pub items_in : Files → ℕ → ℕ
items_in f = at_place f.items.now

-- what is known of a number by these files
abbrev pub IsKnownIn : Files → ℕ → Type 0
IsKnownIn f k = IsKnown (development_in f) f.file.now (cuts_in f) (items_in f) k

-- the piece of number k
pub record IsPieceIn (f : Files) (k : ℕ) (p : Piece) : Type 0 where
  pub order : cuts_in f k ≤ cuts_in f (suc k)
  pub text_is : p.text.now ≡ piece_at f.file.now (cuts_in f) k
  pub item_is : p.item ≡ items_in f k
  pub behind_is : p.behind ≡ items_in f (suc k)

-- The files are of one development; what is known by them of a number holds of it; the reader reads entries of certificates of the
-- development, and a part of its conditions is laid out.
pub record IsDesk (holds : ℕ → Type 0) (f : Files) (r : EntryReader) (l : Laid) : Type 0 where
  pub numbering : IsNumbering (development_in f) f.numbering.now
  pub known : (k : ℕ) → IsKnownIn f k → holds k
  pub reader_is : names_known r ≡ names_with (column_names (development_in f))
  pub laid : IsLaid (development_in f) l
