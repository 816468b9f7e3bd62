-- What an item is, and where it is.
use Rattle.std.specs.Prelude.{◌≡◌, ℕ, ◌+◌}
use Rattle.lc_sexp.specs.Shown.{number_of, owner_of, atom_number, rest_of, text_of}
use Rattle.lc_sexp.specs.Trees.{Tree, atom, list}
use Rattle.lc_sexp.specs.declared.cursor.Item.{Item}
use Rattle.lc_sexp.specs.declared.cursor.Item.TheVariants.{Atom, List as ListItem}

-- the tree that it is
abbrev pub tree_of_item : Item → Tree
tree_of_item (Atom a) = atom (text_of a)
tree_of_item (ListItem c) = list (rest_of c)

-- its number
abbrev pub item_number : Item → ℕ
item_number (Atom a) = atom_number a
item_number (ListItem c) = owner_of c

-- the number of the item after it; for a list, that of the first item in it
abbrev pub number_behind : Item → ℕ
number_behind (Atom a) = atom_number a + 1
number_behind (ListItem c) = number_of c

-- the cursor of a list is at its beginning
abbrev pub IsPlaced : Item → Type 0
IsPlaced item = number_behind item ≡ item_number item + 1
