-- Lines and columns.
use Rattle.std.specs.Prelude.{◌≡◌, ◌<◌, ℕ, ◌+◌, Bool, false, not, ◌||◌, ◌==◌, nat_le, List, take, count_by, take_while, reverse, slice_index}

abbrev pub is_feed : ℕ → Bool
is_feed b = b == 10

-- a byte that does not go on with a character of UTF-8
abbrev pub begins_character : ℕ → Bool
begins_character b = nat_le b 127 || nat_le 192 b

-- The line of an offset: one more than the line feeds before it.
abbrev pub line_of : List ℕ → ℕ → ℕ
line_of bytes offset = count_by is_feed (take offset bytes) + 1

-- what comes before the offset in its line, backwards
abbrev pub back_to_line : List ℕ → ℕ → List ℕ
back_to_line bytes offset = take_while (λ b. not (is_feed b)) (reverse (take offset bytes))

-- The column of an offset: one more than characters begin before it in its line.
abbrev pub column_of : List ℕ → ℕ → ℕ
column_of bytes offset = count_by begins_character (back_to_line bytes offset) + 1

-- no line feed is before the offset
abbrev pub HasNoFeed : List ℕ → ℕ → Type 0
HasNoFeed bytes offset = (k : ℕ) → k < offset → is_feed (slice_index bytes k) ≡ false
