-- Entries of a certificate that are read one by one, each from a text of its own.
use Rattle.std.specs.Prelude.{◌≡◌, ◌≢◌, ℕ, zero, suc, ◌+◌, ◌-◌, ◌≤◌, true, codes, List, [], ◌∷◌, length, take, drop, Option, Some, None}
use Rattle.lc_base.specs.Limits.{file_limit}
use Rattle.lc_sexp.specs.Trees.{Tree, atom, none, ◌▸◌, item_count}
use Rattle.lc_sexp.specs.CutFiles.{IsPieceOf, IsHead, IsTail, BeginsOpen}
use Rattle.lc_reading.specs.Readings.{Reading, fine}
use Rattle.lc_reading.specs.Words.{is}
use Rattle.lc_reading.specs.TableView.{listed}
use Rattle.lc_text.specs.Names.{Names}
use Rattle.lc_outline.specs.Development.{Development}
use Rattle.lc_cert.specs.Certificates.{Entry}
use Rattle.lc_cert.specs.EntryView.{entry_of}
use Rattle.lc_outline.specs.ColumnNames.{column_names}
use Rattle.lc_cert.specs.ColumnNames.{names_with}
use Rattle.lc_cert.specs.Files.{Certifies}
use Rattle.lc_cert.specs.Readings.{entry_reading}
use Rattle.lc_cert.specs.declared.entry.Entry.{Entry as Read}
use Rattle.lc_cert.specs.declared.entry_reader.EntryReader.{EntryReader}
use Rattle.lc_cert.specs.declared.entry_reader.Single.{Single}

-- the number before this one, if there is one
abbrev pub number_before : ℕ → Option ℕ
number_before zero = None
number_before (suc k) = Some k

-- the text from the k-th place up to the next one
abbrev pub piece_at : List ℕ → (ℕ → ℕ) → ℕ → List ℕ
piece_at file at k = take (at (suc k) - at k) (drop (at k) file)

-- The k-th piece of a file that is cut at these places reads as this entry, which has number k: as its own item if the pieces are
-- these items, and after the entry before it. The next piece is the item after it.
pub record IsReadAlone (names : Names) (file : List ℕ) (at items : ℕ → ℕ) (k : ℕ) (e : Entry) : Type 0 where
  pub tree : Tree
  pub order : at k ≤ at (suc k)
  pub piece : IsPieceOf tree (piece_at file at k)
  pub reads : entry_reading names (number_before k) (items k) tree ≡ fine e
  pub number : e.number ≡ k
  pub follows : items (suc k) ≡ items k + item_count tree

-- the pieces from number k on read as these entries
abbrev pub AreReadAlone : Names → List ℕ → (ℕ → ℕ) → (ℕ → ℕ) → ℕ → List Entry → Type 0
AreReadAlone names file at items k [] = Unit {0}
AreReadAlone names file at items k (e ∷ es) = IsReadAlone names file at items k e × AreReadAlone names file at items (suc k) es

-- The bytes before the one place and after the other are those that a certificate of this development has around its entries.
pub record IsFrame (D : Development) (file : List ℕ) (from to : ℕ) : Type 0 where
  pub word : List ℕ
  pub name : List ℕ
  pub is_word : is word (codes "certificate") ≡ true
  pub is_name : is name D.object.name ≡ true
  pub head : IsHead (atom word ▸ (atom name ▸ none)) (take from file)
  pub opens : BeginsOpen (drop from file)
  pub tail : IsTail (drop to file)
  pub size : length file ≤ file_limit

-- a file whose pieces read as these entries, in the frame of a certificate with the first entry as item 3, is a certificate of them
abbrev pub ReadAloneIsReadWhole : Type 0
ReadAloneIsReadWhole = (D : Development) (file : List ℕ) (at items : ℕ → ℕ) (es : List Entry) →
    IsFrame D file (at 0) (at (length es)) → items 0 ≡ 3 → AreReadAlone (names_with (column_names D)) file at items 0 es → Certifies D file es

-- the names that a reader of entries knows
abbrev pub names_known : EntryReader → Names
names_known r = names_with (listed r.columns)

-- what is returned for a reading: its entry, if it is fine
abbrev pub IsGiven : Reading Entry → Option Read → Type 0
IsGiven r None = (e : Entry) → r ≢ fine e
IsGiven r (Some e) = r ≡ fine (entry_of e)

-- The text is a piece whose tree reads as this entry, of this number: as the item of the file that it is, after the number before.
pub record IsEntryText (names : Names) (text : List ℕ) (number item : ℕ) (t : Tree) (e : Entry) : Type 0 where
  pub piece : IsPieceOf t text
  pub reads : entry_reading names (number_before number) item t ≡ fine e
  pub number_is : e.number ≡ number

-- what is returned for a text: its entry and how many items it has, if it is one
abbrev pub IsSingleRead : Names → List ℕ → ℕ → ℕ → Option Single → Type 0
IsSingleRead names text number item None = (t : Tree) (e : Entry) → IsEntryText names text number item t e → ⊥
IsSingleRead names text number item (Some s) = (t : Tree) × IsEntryText names text number item t (entry_of s.entry) × (s.items ≡ item_count t)
