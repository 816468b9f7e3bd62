-- What a text reads as where a name is declared, and where one is used.
use Rattle.std.specs.Prelude.{ℕ, ◌+◌, Bool, false, ◌||◌, nat_le, if◌then◌else◌, List, [], ◌++◌, length, Option, Some, None}
use Rattle.std.specs.List.{list_any}
use Rattle.lc_base.specs.NameText.{is_name}
use Rattle.lc_sexp.specs.Trees.{Tree, Trees, atom, list, none, ◌▸◌, item_count}
use Rattle.lc_reading.specs.Listed.{place_of, declared_by}
use Rattle.lc_reading.specs.Readings.{Reading, fine, wrong, mapped, both}
use Rattle.lc_reading.specs.Reserved.{is_reserved}
use Rattle.lc_reading.specs.Words.{is, is_long}
use Rattle.lc_reading.specs.declared.pass.Pass.TheVariants.{Shape, Unknown, Repeated, Bound}

-- this value for a name, if it is not too long
abbrev pub within : {X : Type 0} → ℕ → List ℕ → X → Reading X
within n w x = if is_long w then wrong Bound n else fine x

-- what a name stands for, if it is known
abbrev pub known : {X : Type 0} → ℕ → List ℕ → Option X → Reading X
known n w (Some x) = within n w x
known n w None = wrong Unknown n

-- the text of an atom, and none for a list
abbrev pub text_in : Tree → List ℕ
text_in (atom w) = w
text_in (list ts) = []

-- the item n where a NAME is expected, whose text reads so
abbrev pub spelled_reading : {X : Type 0} → (List ℕ → Reading X) → ℕ → Tree → Reading X
spelled_reading read n t = if is_name (text_in t) then read (text_in t) else wrong Shape n

-- the item n where a name is expected that is known: what it means
abbrev pub known_reading : {X : Type 0} → (List ℕ → Option X) → ℕ → Tree → Reading X
known_reading find n t = spelled_reading (λ w. known n w (find w)) n t

-- the item n where one of these names is expected: its place among them
abbrev pub use_reading : List (List ℕ) → ℕ → Tree → Reading ℕ
use_reading names n t = known_reading (place_of names) n t

-- there are as many as there may be, if there is a limit
abbrev pub is_full : Option ℕ → ℕ → Bool
is_full None n = false
is_full (Some limit) n = nat_le limit n

-- the item n where a name is declared after these, with a limit on all names together
abbrev pub declaration_reading : Option ℕ → List (List ℕ) → ℕ → Tree → Reading (Unit {0})
declaration_reading limit before n t =
    spelled_reading (λ w. if is_reserved w || list_any (is w) before then wrong Repeated n
    else (if is_full limit (length before) then wrong Bound n else within n w tt)) n t

-- each of the items from m on, where names are declared after these
abbrev pub names_reading : Option ℕ → List (List ℕ) → ℕ → Trees → Reading (Unit {0})
names_reading limit before m none = fine tt
names_reading limit before m (t ▸ ts) =
    both (λ x y. y) (declaration_reading limit before m t) (names_reading limit (before ++ declared_by t) (m + item_count t) ts)

-- the same item, as the name that it declares
abbrev pub name_reading : Option ℕ → List (List ℕ) → ℕ → Tree → Reading (List ℕ)
name_reading limit before n t = mapped (λ u. text_in t) (declaration_reading limit before n t)
