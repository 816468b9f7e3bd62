-- Names in a row, and the place of each one's first occurrence.
use Rattle.std.specs.Prelude.{ℕ, suc, List, [], ◌∷◌, ◌++◌, Option, Some, None, option_map, if◌then◌else◌}
use Rattle.lc_sexp.specs.Trees.{Tree, Trees, atom, list, none, ◌▸◌}
use Rattle.lc_reading.specs.Words.{is}

-- the place at which a name occurs first
abbrev pub place_of : List (List ℕ) → List ℕ → Option ℕ
place_of [] w = None
place_of (v ∷ vs) w = if is w v then Some 0 else option_map suc (place_of vs w)

-- the name that an item declares, where names are declared
abbrev pub declared_by : Tree → List (List ℕ)
declared_by (atom w) = w ∷ []
declared_by (list ts) = []

-- the names that items in a row declare
abbrev pub names_among : Trees → List (List ℕ)
names_among none = []
names_among (t ▸ ts) = declared_by t ++ names_among ts
