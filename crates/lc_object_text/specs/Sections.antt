-- The sections of a development file, each with the number of its first item.
use Rattle.std.specs.Prelude.{ℕ, ◌+◌, Bool, codes, List, [], ◌∷◌, if◌then◌else◌}
use Rattle.lc_sexp.specs.Trees.{Tree, Trees, none, ◌▸◌, item_count}
use Rattle.lc_sexp.specs.Parts.{Fit, fits, misshapen, beyond, form_fit, is_fitting}

-- items in a row, and the number of the first of them, or of what comes after them
pub record Items : Type 0 where
  pub number : ℕ
  pub trees : Trees

-- a list that begins with this word
abbrev pub begins : List ℕ → Tree → Bool
begins word t = is_fitting (form_fit word t)

-- what comes after the word, if the item is such a list
abbrev pub parts_of_fit : Fit Trees → Trees
parts_of_fit (fits ts) = ts
parts_of_fit misshapen = none
parts_of_fit beyond = none

abbrev pub parts_in : List ℕ → Tree → Trees
parts_in word t = parts_of_fit (form_fit word t)

-- the same for the item n, with the number of the first of them
abbrev pub items_of_fit : ℕ → Fit Trees → Items
items_of_fit n (fits ts) = record { number = n + 2; trees = ts }
items_of_fit n misshapen = record { number = 0; trees = none }
items_of_fit n beyond = record { number = 0; trees = none }

abbrev pub items_in : List ℕ → ℕ → Tree → Items
items_in word n t = items_of_fit n (form_fit word t)

-- the same for the first of these items
abbrev pub items_in_first : List ℕ → ℕ → Trees → Items
items_in_first word n none = record { number = 0; trees = none }
items_in_first word n (t ▸ ts) = items_in word n t

-- the items after the first
abbrev pub behind_item : ℕ → Trees → Items
behind_item n none = record { number = n; trees = none }
behind_item n (t ▸ ts) = record { number = n + item_count t; trees = ts }

abbrev pub behind_first : Items → Items
behind_first items = behind_item items.number items.trees

-- the items after the lists at the beginning that begin with this word
abbrev pub behind_lists : List ℕ → ℕ → Trees → Items
behind_lists word n none = record { number = n; trees = none }
behind_lists word n (t ▸ ts) = if begins word t then behind_lists word (n + item_count t) ts else record { number = n; trees = t ▸ ts }

abbrev pub behind_forms : List ℕ → Items → Items
behind_forms word items = behind_lists word items.number items.trees

-- what comes after the word in each of those lists
abbrev pub before_others : Fit Trees → List Trees → List Trees
before_others (fits ts) forms = ts ∷ forms
before_others misshapen forms = []
before_others beyond forms = []

abbrev pub forms_in : List ℕ → Trees → List Trees
forms_in word none = []
forms_in word (t ▸ ts) = before_others (form_fit word t) (forms_in word ts)

-- the same if the first item is taken for such a list, whatever it is
abbrev pub some_forms_in : List ℕ → Trees → List Trees
some_forms_in word none = []
some_forms_in word (t ▸ ts) = parts_in word t ∷ forms_in word ts

-- Where the parts of (spec NAME (abstract ..) (op ..) (op ..) ..) and of
-- (object NAME (array ..) .. (aux ..) (action ..) .. (invariant ..) (idle ..) (body ..) (body ..) ..) begin
pub record Sections : Type 0 where
  pub abstracts : Items
  pub operations : Items
  pub object : Items
  pub arrays : Items
  pub auxiliaries : Items
  pub invariant : Items
  pub bodies : Items

-- after the arrays, in what comes after the word `object`
abbrev pub at_auxiliaries : Items → Items
at_auxiliaries o = behind_forms (codes "array") (behind_first o)

-- after the actions
abbrev pub at_invariant : Items → Items
at_invariant o = behind_forms (codes "action") (behind_first (at_auxiliaries o))

-- the sections of what comes after the words `spec` and `object`
abbrev pub sections_from : Items → Items → Sections
sections_from s o = record {
  abstracts = behind_first s;
  operations = behind_first (behind_first s);
  object = o;
  arrays = behind_first o;
  auxiliaries = at_auxiliaries o;
  invariant = at_invariant o;
  bodies = behind_first (behind_first (at_invariant o));
}

-- the sections of the file of these forms
abbrev pub sections_at : Items → Sections
sections_at forms =
    sections_from (items_in_first (codes "spec") forms.number forms.trees) (items_in_first (codes "object") (behind_first forms).number (behind_first forms).trees)

abbrev pub sections_of : Trees → Sections
sections_of ts = sections_at (record { number = 0; trees = ts })
