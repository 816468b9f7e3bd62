-- Lists with only the first word looked at.
use Rattle.std.specs.Prelude.{ℕ, List}
use Rattle.lc_sexp.specs.Trees.{Tree, Trees}
use Rattle.lc_reading.specs.Readings.{Reading, fine, behind_reading}

abbrev pub nothing_more : ℕ → ℕ → Trees → Reading (Unit {0})
nothing_more n m ts = fine tt

-- the item n, where a list is expected that begins with this word
abbrev pub headed_reading : List ℕ → ℕ → Tree → Reading (Unit {0})
headed_reading word n t = behind_reading word nothing_more n t
