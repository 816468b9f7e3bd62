-- The line of a place, with marks under it.
use Rattle.std.specs.Prelude.{◌≡◌, ℕ, ◌+◌, ◌-◌, ◌≤◌, Bool, true, false, not, ◌||◌, ◌&&◌, ◌==◌, nat_le, min, if◌then◌else◌, List, [], ◌∷◌, ◌++◌, length, drop, map, filter, count_by, slice_range, slice_get, Option, Some, None}
use Rattle.std.specs.List.{list_any}
use Rattle.lc_place.specs.Lines.{begins_character}

-- a line feed or a carriage return
abbrev pub is_break : ℕ → Bool
is_break b = b == 10 || b == 13

-- A byte as it is shown: a question mark if it is no character that takes a column, but for a tab.
abbrev pub shown : ℕ → ℕ
shown b = if (nat_le b 31 && not (b == 9)) || b == 127 then 63 else b

-- what is shown under a byte: a space, or a tab under a tab
abbrev pub blank : ℕ → ℕ
blank b = if b == 9 then 9 else 32

-- a mark under a byte of the item, or a tab under a tab
abbrev pub caret : ℕ → ℕ
caret b = if b == 9 then 9 else 94

-- what is shown under bytes before the item, and under those of the item, which has a mark even if it has no bytes
abbrev pub under_before : List ℕ → List ℕ
under_before bytes = map blank (filter begins_character bytes)

abbrev pub carets : List ℕ → List ℕ
carets bytes = map caret (filter begins_character bytes)

abbrev pub under_item : List ℕ → List ℕ
under_item bytes = 94 ∷ carets (drop 1 bytes)

-- whether there is a byte, and it is no line break
abbrev pub goes_on : Option ℕ → Bool
goes_on None = false
goes_on (Some b) = not (is_break b)

-- three dots, or three spaces, if the line is cut
abbrev pub cut_mark : ℕ → Bool → List ℕ
cut_mark b true = b ∷ b ∷ b ∷ []
cut_mark b false = []

-- whether the line goes on before an offset, and from one on
abbrev pub is_cut_before : List ℕ → ℕ → Bool
is_cut_before bytes offset = not (offset == 0) && goes_on (slice_get (drop (offset - 1) bytes) 0)

abbrev pub is_cut_at : List ℕ → ℕ → Bool
is_cut_at bytes offset = goes_on (slice_get (drop offset bytes) 0)

-- no byte of these is a break
abbrev pub IsInLine : List ℕ → Type 0
IsInLine bytes = list_any is_break bytes ≡ false

-- how many characters begin in these bytes
abbrev pub characters_in : List ℕ → ℕ
characters_in bytes = count_by begins_character bytes

-- the bytes from one offset to another as they are shown
abbrev pub shown_line : List ℕ → ℕ → ℕ → List ℕ
shown_line bytes from to = cut_mark 46 (is_cut_before bytes from) ++ map shown (slice_range bytes from to) ++ cut_mark 46 (is_cut_at bytes to)

-- what is shown under them: marks under the item, which begins and ends at offsets between
abbrev pub shown_marks : List ℕ → ℕ → ℕ → ℕ → List ℕ
shown_marks bytes from start until = cut_mark 32 (is_cut_before bytes from) ++ under_before (slice_range bytes from start) ++ under_item (slice_range bytes start until)

-- The line of the item at the offset, or 160 characters of it, with at most 100 of them before the item, and marks under the item as far as it goes
-- there.
pub record IsExcerpt (bytes : List ℕ) (offset size : ℕ) (line marks : List ℕ) : Type 0 where
  pub from : ℕ
  pub to : ℕ
  pub before : from ≤ min offset (length bytes)
  pub behind : min offset (length bytes) ≤ to
  pub within : to ≤ length bytes
  pub in_line : IsInLine (slice_range bytes from to)
  pub short : characters_in (slice_range bytes from to) ≤ 160
  pub line_is : line ≡ shown_line bytes from to
  pub marks_are : marks ≡ shown_marks bytes from (min offset (length bytes)) (min offset (length bytes) + min size (to - min offset (length bytes)))
