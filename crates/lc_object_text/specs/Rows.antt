-- What items in a row read as, each after those before it.
use Rattle.std.specs.Prelude.{ℕ, ◌+◌, List, [], ◌∷◌, if◌then◌else◌}
use Rattle.lc_sexp.specs.Trees.{Tree, Trees, none, ◌▸◌, item_count}
use Rattle.lc_reading.specs.Parts.{begins}
use Rattle.lc_reading.specs.Readings.{Reading, fine, both}

abbrev pub cons : {X : Type 0} → X → List X → List X
cons x xs = x ∷ xs

-- items from m on, the first being the i-th of its row
abbrev pub placed_reading : {X : Type 0} → (ℕ → ℕ → Tree → Reading X) → ℕ → ℕ → Trees → Reading (List X)
placed_reading read i m none = fine []
placed_reading read i m (t ▸ ts) = both cons (read i m t) (placed_reading read (i + 1) (m + item_count t) ts)

-- the same for the lists at the beginning that begin with this word
abbrev pub lists_reading : {X : Type 0} → List ℕ → (ℕ → ℕ → Tree → Reading X) → ℕ → ℕ → Trees → Reading (List X)
lists_reading word read i m none = fine []
lists_reading word read i m (t ▸ ts) = if begins word t then both cons (read i m t) (lists_reading word read (i + 1) (m + item_count t) ts) else fine []
