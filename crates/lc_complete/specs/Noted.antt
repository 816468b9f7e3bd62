-- A text with a comment at the end of lines that are marked.
use Rattle.std.specs.Prelude.{ℕ, suc, ◌==◌, Bool, true, false, if◌then◌else◌, List, [], ◌∷◌, ◌++◌, codes, Some, None, slice_get}

-- whether the line of this number, from 0 on, is marked
abbrev pub is_marked : List Bool → ℕ → Bool
is_marked marks line = elim (slice_get marks line) [ Some mark ↦ mark | None ↦ false ]

-- a byte of a line, with the comment before it if it ends the line
abbrev pub noted_byte : Bool → ℕ → List ℕ
noted_byte mark b = if b == 10 then (if mark then codes "  ; inferred" else []) ++ (10 ∷ []) else b ∷ []

abbrev pub line_behind : ℕ → ℕ → ℕ
line_behind line b = if b == 10 then suc line else line

-- the text from a line on
abbrev pub noted_from : List Bool → ℕ → List ℕ → List ℕ
noted_from marks line [] = []
noted_from marks line (b ∷ s) = noted_byte (is_marked marks line) b ++ noted_from marks (line_behind line b) s

abbrev pub noted : List Bool → List ℕ → List ℕ
noted marks s = noted_from marks 0 s
