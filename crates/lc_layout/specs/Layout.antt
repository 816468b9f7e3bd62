-- The text of trees that are laid out over lines. It is a function of the trees alone.
use Rattle.std.specs.Prelude.{ℕ, ◌+◌, ◌-◌, min, Bool, true, false, nat_le, if◌then◌else◌, List, [], ◌∷◌, ◌++◌, length, replicate, Option, Some, None}
use Rattle.lc_sexp.specs.Trees.{Tree, Trees, atom, list, none, ◌▸◌}
use Rattle.lc_sexp.specs.Printed.{printed_tree}
use Rattle.lc_layout.specs.declared.stage.Stage.{Stage}
use Rattle.lc_layout.specs.declared.stage.Stage.TheVariants.{Lead, Flat, Fresh, Head, Named, Below}
use Rattle.lc_layout.specs.declared.stage.Gap.{Gap}
use Rattle.lc_layout.specs.declared.stage.Gap.TheVariants.{Nothing, Space, Line}
use Rattle.lc_layout.specs.declared.stage.Spot.{Spot}

-- how many columns a tree takes on one line
abbrev pub width_of : Tree → ℕ
width_of t = length (printed_tree t)

-- how many of these are of the tree without its parts
abbrev pub own_width : Tree → ℕ
own_width (atom w) = length w
own_width (list ts) = 2

-- the room that is left when this much of it is taken
abbrev pub room_left : ℕ → ℕ → Option ℕ
room_left room taken = if nat_le taken room then Some (room - taken) else None

-- whether a tree that begins at a column ends within the 100 columns of a line, with `brackets` brackets after it
abbrev pub fits : ℕ → ℕ → Tree → Bool
fits column brackets t = nat_le (column + width_of t + brackets) 100

abbrev pub is_atom_tree : Tree → Bool
is_atom_tree (atom w) = true
is_atom_tree (list ts) = false

abbrev pub are_atoms : Trees → Bool
are_atoms none = true
are_atoms (atom w ▸ ts) = are_atoms ts
are_atoms (list us ▸ ts) = false

-- an atom, or a list of atoms
abbrev pub is_short : Tree → Bool
is_short (atom w) = true
is_short (list ts) = are_atoms ts

-- where an item is: on the line of the item before it, and on a line of its own
abbrev pub on_line : Gap → ℕ → Stage → ℕ → Spot
on_line gap column stage behind = record { gap = gap; column = column; stage = stage; behind = behind }

abbrev pub on_its_own : ℕ → Spot
on_its_own indent = record { gap = Line; column = indent; stage = Below; behind = 0 }

-- the column `bytes` bytes after another; columns beyond the line are not distinguished
abbrev pub right_of : ℕ → ℕ → ℕ
right_of column bytes = min (column + bytes) 101

-- after a list of atoms only atoms stay on the line
abbrev pub stage_behind : Tree → Stage
stage_behind (atom w) = Named
stage_behind (list ts) = Head

-- after the item before it, if it fits there
abbrev pub spot_behind : ℕ → ℕ → ℕ → Tree → Spot
spot_behind column indent brackets t = if fits column brackets t then on_line Space column (stage_behind t) (column + width_of t) else on_its_own indent

-- the first item of a list that is broken: an atom comes after the bracket, and so does a list unless that is too far
abbrev pub first_spot : ℕ → ℕ → Tree → Spot
first_spot column indent (atom w) = on_line Nothing column Head (right_of column (length w))
first_spot column indent (list ts) = if nat_le column 60 then on_line Nothing column Below 0 else on_its_own indent

-- Where the next item of a list is: the list is laid out so far, its line goes up to `column`, its items are indented by `indent`, and
-- `brackets` brackets come right after the item.
abbrev pub spot_of : Stage → ℕ → ℕ → ℕ → Tree → Spot
spot_of Lead column indent brackets t = on_line Nothing 0 Flat 0
spot_of Flat column indent brackets t = on_line Space 0 Flat 0
spot_of Fresh column indent brackets t = first_spot column indent t
spot_of Head column indent brackets t = if is_atom_tree t then spot_behind (right_of column 1) indent brackets t else on_its_own indent
spot_of Named column indent brackets t = if is_short t then spot_behind (right_of column 1) indent brackets t else on_its_own indent
spot_of Below column indent brackets t = on_its_own indent

-- a list that begins at a column is on one line if it fits
abbrev pub stage_at : ℕ → ℕ → Tree → Stage
stage_at column brackets t = if fits column brackets t then Lead else Fresh

-- and so is one in a list that is on one line
abbrev pub stage_within : Stage → ℕ → ℕ → Tree → Stage
stage_within Lead column brackets t = Lead
stage_within Flat column brackets t = Lead
stage_within Fresh column brackets t = stage_at column brackets t
stage_within Head column brackets t = stage_at column brackets t
stage_within Named column brackets t = stage_at column brackets t
stage_within Below column brackets t = stage_at column brackets t

-- The indentation of a list's items, by the column of its bracket: 2 more, or 1 if it begins with a list, and 60 at most.
abbrev pub indent_of : ℕ → Trees → ℕ
indent_of column none = min (column + 2) 60
indent_of column (atom w ▸ ts) = min (column + 2) 60
indent_of column (list us ▸ ts) = min (column + 1) 60

-- how many brackets come right after the last item of a list that has `brackets` brackets after it; if these are 30, the list's own is on
-- another line
abbrev pub brackets_more : ℕ → ℕ
brackets_more brackets = if nat_le 30 brackets then 0 else brackets + 1

-- how many brackets come right after an item, before these trees
abbrev pub brackets_behind : ℕ → Trees → ℕ
brackets_behind brackets none = brackets_more brackets
brackets_behind brackets (t ▸ ts) = 0

abbrev pub gap_text : Gap → ℕ → List ℕ
gap_text Nothing indent = []
gap_text Space indent = 32 ∷ []
gap_text Line indent = 10 ∷ replicate indent 32

abbrev pub own_line : ℕ → Gap
own_line brackets = if nat_le 30 brackets then Line else Nothing

-- what comes before the bracket that closes a list: on one line nothing
abbrev pub closing_gap : Stage → ℕ → Gap
closing_gap Lead brackets = Nothing
closing_gap Flat brackets = Nothing
closing_gap Fresh brackets = own_line brackets
closing_gap Head brackets = own_line brackets
closing_gap Named brackets = own_line brackets
closing_gap Below brackets = own_line brackets

abbrev mutual
  -- the items of a list that are left, and the bracket that closes it
  pub laid_items : Stage → ℕ → ℕ → ℕ → Trees → List ℕ
  laid_items stage column indent brackets none = gap_text (closing_gap stage brackets) indent ++ (41 ∷ [])
  laid_items stage column indent brackets (t ▸ ts) =
      laid_at stage indent (brackets_behind brackets ts) t (spot_of stage column indent (brackets_behind brackets ts) t)
      ++ laid_items (spot_of stage column indent (brackets_behind brackets ts) t).stage (spot_of stage column indent (brackets_behind brackets ts) t).behind indent brackets ts

  -- an item at a spot of such a list, and what comes before it
  pub laid_at : Stage → ℕ → ℕ → Tree → Spot → List ℕ
  laid_at stage indent brackets (atom w) spot = gap_text spot.gap indent ++ w
  laid_at stage indent brackets (list ts) spot =
      gap_text spot.gap indent
      ++ (40 ∷ laid_items (stage_within stage spot.column brackets (list ts)) (right_of spot.column 1) (indent_of spot.column ts) brackets ts)

-- where a tree is that begins a line
abbrev pub line_start : Spot
line_start = on_line Nothing 0 Below 0

-- each tree begins a line
abbrev pub laid_out : Trees → List ℕ
laid_out none = []
laid_out (t ▸ ts) = laid_at Below 0 0 t line_start ++ (10 ∷ laid_out ts)
