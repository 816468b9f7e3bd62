-- What a walk over items shows.
use Rattle.std.specs.Prelude.{◌≡◌, ℕ, ◌+◌, List, Result, Ok, Err, IsOk}
use Rattle.std.specs.Borrow.{Bor}
use Rattle.lc_sexp.specs.Trees.{Tree, Trees, atom, list, none, ◌▸◌, item_count}
use Rattle.lc_sexp.specs.Flat.{trees_of}
use Rattle.lc_sexp.specs.TreeCode.{tree_count}
use Rattle.lc_sexp.specs.Parts.{Fit, fits, misshapen, beyond}
use Rattle.lc_sexp.specs.declared.misfit.Misfit.{Misfit}
use Rattle.lc_sexp.specs.declared.misfit.Misfit.TheVariants.{Shape, Bound}
use Rattle.lc_sexp.specs.declared.cursor.Cursor.{Cursor}
use Rattle.lc_sexp.specs.declared.cursor.Atom.{Atom}
use Rattle.lc_sexp.specs.declared.cursor.Item.{Item}
use Rattle.lc_sexp.specs.declared.cursor.Item.TheVariants.{Atom as AtomItem, List as ListItem}

-- the trees that are left
unfoldable pub rest_of : Cursor → Trees
rest_of c = trees_of c.text.now c.nodes.now

-- the number of trees in a row
abbrev pub part_count : Trees → ℕ
part_count ts = tree_count ts

-- the item number of the first of them, or of what comes after the last item
abbrev pub number_of : Cursor → ℕ
number_of c = c.number

-- the item number at which a missing part is reported: the list's own, or for a file how many items it has
abbrev pub owner_of : Cursor → ℕ
owner_of c = c.owner

-- the text of an atom, and its item number
abbrev pub text_of : Atom → List ℕ
text_of a = a.text.now

abbrev pub atom_number : Atom → ℕ
atom_number a = a.number

-- the tree that an item is
abbrev pub item_tree : Item → Tree
item_tree (AtomItem a) = atom (text_of a)
item_tree (ListItem c) = list (rest_of c)

-- the trees in it: those of the list, none of an atom
abbrev pub item_parts : Item → Trees
item_parts (AtomItem a) = none
item_parts (ListItem c) = rest_of c

-- the two are the same number
abbrev pub Same : {X : Type 0} → X → X → Type 0
Same x y = x ≡ y

-- the reference is to this text
abbrev pub IsText : List ℕ → Bor (List ℕ) → Type 0
IsText w text = text.now ≡ w

abbrev pub ShowsText : ℕ → List ℕ → Bor (List ℕ) → Type 0
ShowsText number w text = IsText w text

abbrev pub ShowsNumber : {X : Type 0} → ℕ → X → X → Type 0
ShowsNumber number x y = Same x y

-- the cursor is at the beginning of the list of these trees, which is the item of this number
pub record IsWithin (number : ℕ) (trees : Trees) (c : Cursor) : Type 0 where
  pub rest : rest_of c ≡ trees
  pub first : number_of c ≡ number + 1
  pub owner : owner_of c ≡ number

-- the cursor comes after the first word of the list of this number, before these trees
pub record IsBehindWord (number : ℕ) (trees : Trees) (c : Cursor) : Type 0 where
  pub rest : rest_of c ≡ trees
  pub first : number_of c ≡ number + 2
  pub owner : owner_of c ≡ number

-- the atom has this text and this number
pub record ShowsAtom (number : ℕ) (w : List ℕ) (a : Atom) : Type 0 where
  pub text : text_of a ≡ w
  pub number_is : atom_number a ≡ number

-- the item is this tree and has this number
abbrev pub ShowsItem : ℕ → Tree → Item → Type 0
ShowsItem number t (AtomItem a) = (a.number ≡ number) × (t ≡ atom a.text.now)
ShowsItem number t (ListItem c) = (ts : Trees) × (t ≡ list ts) × IsWithin number ts c

-- the cursor has gone on after this tree, before these
pub record IsBehind (old : Cursor) (t : Tree) (ts : Trees) (new : Cursor) : Type 0 where
  pub rest : rest_of new ≡ ts
  pub number : number_of new ≡ number_of old + item_count t
  pub owner : owner_of new ≡ owner_of old

-- The answer if a part is asked for: the part, and the cursor goes on after it; or the misfit, and the cursor stays.
abbrev pub IsFitted : {X T : Type 0} → Fit X → (ℕ → X → T → Type 0) → Cursor → Tree → Trees → Result T Misfit → Cursor → Type 0
IsFitted (fits x) Shows old t ts (Ok part) new = Shows (number_of old) x part × IsBehind old t ts new
IsFitted (fits x) Shows old t ts (Err misfit) new = ⊥
IsFitted misshapen Shows old t ts result new = (result ≡ Err (Shape (number_of old))) × (new ≡ old)
IsFitted beyond Shows old t ts result new = (result ≡ Err (Bound (number_of old))) × (new ≡ old)

-- The same for a part after which nothing may be left; an item too many is reported at the owner.
abbrev pub IsPart : {X T : Type 0} → (Tree → Fit X) → (ℕ → X → T → Type 0) → Cursor → Trees → Result T Misfit → Cursor → Type 0
IsPart fit Shows old none result new = (result ≡ Err (Shape (owner_of old))) × (new ≡ old)
IsPart fit Shows old (t ▸ ts) result new = IsFitted (fit t) Shows old t ts result new

-- what is returned for a part of this kind at this cursor
abbrev pub GivesPart : {X T : Type 0} → (Tree → Fit X) → (ℕ → X → T → Type 0) → Cursor → Result T Misfit → Cursor → Type 0
GivesPart fit Shows old result new = IsPart fit Shows old (rest_of old) result new

abbrev pub IsEndOf : Cursor → Trees → Result (Unit {0}) Misfit → Type 0
IsEndOf c none result = IsOk result
IsEndOf c (t ▸ ts) result = result ≡ Err (Shape (number_of c))

-- what is returned if nothing may be left
abbrev pub GivesEnd : Cursor → Result (Unit {0}) Misfit → Type 0
GivesEnd c result = IsEndOf c (rest_of c) result

-- the answer of an item of this number that fits so
abbrev pub Answers : {X T : Type 0} → Fit X → (X → T → Type 0) → ℕ → Result T Misfit → Type 0
Answers (fits x) Shows number (Ok part) = Shows x part
Answers (fits x) Shows number (Err misfit) = ⊥
Answers misshapen Shows number result = result ≡ Err (Shape number)
Answers beyond Shows number result = result ≡ Err (Bound number)
