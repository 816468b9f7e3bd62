-- Which columns are in a list, the ways past riders by their columns, and paths by their numbers.
use Rattle.std.specs.Prelude.{ℕ, ◌+◌, ◌*◌, ◌==◌, ◌/◌, ◌%◌, Bool, true, false, if◌then◌else◌, List, [], ◌∷◌, ◌++◌, map, length, get_or}
use Rattle.std.specs.List.{list_any}
use Rattle.lc_outline.specs.Sizes.{Way, no_way}

-- whether a number is in the list
abbrev pub stands : List ℕ → ℕ → Bool
stands cs k = list_any (λ j. j == k) cs

-- what is asked on a way, and whether a column is stored in on it
abbrev pub way_kept : Way → ℕ × (ℕ → Bool)
way_kept w = (w.asked, stands w.columns)

abbrev pub ways_kept : List Way → List (ℕ × (ℕ → Bool))
ways_kept ws = map way_kept ws

-- how many paths pass these riders
abbrev pub path_number : List (List Way) → ℕ
path_number [] = 1
path_number (ws ∷ rs) = length ws * path_number rs

-- one way, and then another
abbrev pub then_way : Way → Way → Way
then_way v w = record { asked = v.asked + w.asked; columns = v.columns ++ w.columns }

-- the path of a number: its last digit says the way past the first rider, the other digits the path past the others
abbrev pub path_at : List (List Way) → ℕ → Way
path_at [] n = no_way
path_at (ws ∷ rs) n = then_way (get_or ws (n % length ws) no_way) (path_at rs (n / length ws))

-- the only way past a rider, if there is only one
abbrev pub only_way : List Way → Way
only_way [] = no_way
only_way (w ∷ []) = w
only_way (v ∷ w ∷ ws) = no_way

-- what is done on each path alike, past the riders that leave no choice
abbrev pub common_way : List (List Way) → Way
common_way [] = no_way
common_way (ws ∷ rs) = then_way (only_way ws) (common_way rs)

-- there is more than one way past a rider, or none
abbrev pub leaves_choice : List Way → Bool
leaves_choice [] = true
leaves_choice (w ∷ []) = false
leaves_choice (v ∷ w ∷ ws) = true

-- the riders that leave a choice
abbrev pub branching : List (List Way) → List (List Way)
branching [] = []
branching (ws ∷ rs) = if leaves_choice ws then ws ∷ branching rs else branching rs
