-- The parts of lists.
use Rattle.std.specs.Prelude.{◌≡◌, ℕ, ◌+◌, Bool, true, false, List, Result, Ok, Err}
use Rattle.std.specs.Borrow.{Bor}
use Rattle.lc_sexp.specs.Trees.{Tree, Trees, atom, list, none, ◌▸◌, item_count}
use Rattle.lc_sexp.specs.Shown.{rest_of, number_of, owner_of, IsBehindWord as IsWithin}
use Rattle.lc_reading.specs.Placed.{item_number}
use Rattle.lc_reading.specs.Words.{is}
use Rattle.lc_sexp.specs.declared.cursor.Cursor.{Cursor}
use Rattle.lc_sexp.specs.declared.misfit.Misfit.{Misfit}
use Rattle.lc_sexp.specs.declared.misfit.Misfit.TheVariants.{Shape}
use Rattle.lc_reading.specs.Placed.{tree_of_item}
use Rattle.lc_reading.specs.declared.part.Part.{Part}

-- the tree of a part, and its number
abbrev pub tree_of : Part → Tree
tree_of p = tree_of_item p.item

abbrev pub place_of : Part → ℕ
place_of p = item_number p.item

-- the cursor has gone on from the first one after this tree, to the second one
pub record IsBehind (old : Cursor) (t : Tree) (new : Cursor) : Type 0 where
  pub rest : rest_of old ≡ t ▸ rest_of new
  pub number : number_of new ≡ number_of old + item_count t
  pub owner : owner_of new ≡ owner_of old

-- the next part; or none is left
abbrev pub IsNext : Cursor → Result Part Misfit → Cursor → Type 0
IsNext old (Ok part) new = (place_of part ≡ number_of old) × IsBehind old (tree_of part) new
IsNext old (Err misfit) new = (misfit ≡ Shape (owner_of old)) × (rest_of old ≡ none)

-- the first item is no word, or there is none
abbrev pub IsHeadless : Trees → Type 0
IsHeadless none = Unit {0}
IsHeadless (atom w ▸ ts) = ⊥
IsHeadless (list us ▸ ts) = Unit {0}

-- the first word of a list, and the rest after it
abbrev pub IsHeaded : Cursor → Result (Bor (List ℕ) × Cursor) Misfit → Type 0
IsHeaded old (Ok r) = IsBehind old (atom r.0.now) r.1
IsHeaded old (Err misfit) = (misfit ≡ Shape (owner_of old)) × IsHeadless (rest_of old)

-- a list that begins with this word
abbrev pub begins : List ℕ → Tree → Bool
begins word (list (atom w ▸ ts)) = is w word
begins word _ = false

-- the first part of a list, and the rest after it; or there is none
abbrev pub IsOne : Cursor → Result (Part × Cursor) Misfit → Type 0
IsOne old (Ok r) =
    (rest_of old ≡ tree_of r.0 ▸ rest_of r.1) × (place_of r.0 ≡ number_of old) × (number_of r.1 ≡ number_of old + item_count (tree_of r.0))
IsOne old (Err misfit) = (misfit ≡ Shape (owner_of old)) × (rest_of old ≡ none)

-- fewer than two
abbrev pub IsShortOfTwo : Trees → Type 0
IsShortOfTwo (t ▸ u ▸ ts) = ⊥
IsShortOfTwo _ = Unit {0}

-- the first two parts of a list, and the rest after them
abbrev pub IsTwo : Cursor → Result (Part × Part × Cursor) Misfit → Type 0
IsTwo old (Ok r) =
    (rest_of old ≡ tree_of r.0 ▸ tree_of r.1 ▸ rest_of r.2) × (place_of r.0 ≡ number_of old) × (place_of r.1 ≡ number_of old + item_count (tree_of r.0))
    × (number_of r.2 ≡ number_of old + item_count (tree_of r.0) + item_count (tree_of r.1))
IsTwo old (Err misfit) = (misfit ≡ Shape (owner_of old)) × IsShortOfTwo (rest_of old)

-- fewer than three
abbrev pub IsShortOfThree : Trees → Type 0
IsShortOfThree (t ▸ u ▸ v ▸ ts) = ⊥
IsShortOfThree _ = Unit {0}

-- the first three parts of a list, and the rest after them
abbrev pub IsThree : Cursor → Result (Part × Part × Part × Cursor) Misfit → Type 0
IsThree old (Ok r) =
    (rest_of old ≡ tree_of r.0 ▸ tree_of r.1 ▸ tree_of r.2 ▸ rest_of r.3) × (place_of r.0 ≡ number_of old) × (place_of r.1 ≡ number_of old + item_count (tree_of r.0))
    × (place_of r.2 ≡ number_of old + item_count (tree_of r.0) + item_count (tree_of r.1))
    × (number_of r.3 ≡ number_of old + item_count (tree_of r.0) + item_count (tree_of r.1) + item_count (tree_of r.2))
IsThree old (Err misfit) = (misfit ≡ Shape (owner_of old)) × IsShortOfThree (rest_of old)

-- the rest of the part, which is a list, after this word; or it is none that begins with it
abbrev pub IsBehindWord : List ℕ → Part → Result Cursor Misfit → Type 0
IsBehindWord word part (Ok c) = (ts : Trees) × (w : List ℕ) × (tree_of part ≡ list (atom w ▸ ts)) × (is w word ≡ true) × IsWithin (place_of part) ts c
IsBehindWord word part (Err misfit) = (misfit ≡ Shape (place_of part)) × (begins word (tree_of part) ≡ false)
