-- Files in memory.
use Rattle.std.specs.Prelude.{ℕ, if◌then◌else◌, codes, List, Option, Some, None}
use Rattle.std.specs.Str.{bytes_eq}

-- the file at a path, of four at the paths `a`, `b`, `c` and `d`
abbrev pub file_at : (a b c d path : List ℕ) → Option (List ℕ)
file_at a b c d path =
    if bytes_eq path (codes "a")
    then Some a
    else (if bytes_eq path (codes "b") then Some b else (if bytes_eq path (codes "c") then Some c else (if bytes_eq path (codes "d") then Some d else None)))
