-- What clauses see of cursors in the text of an object.
use Rattle.std.specs.Prelude.{◌≡◌, ℕ, ◌+◌, ◌<◌, Bool, true, false, List, [], ◌∷◌, Option, Some, None}
use Rattle.lc_sexp.specs.Trees.{Trees, item_count_of_all}
use Rattle.lc_sexp.specs.Shown.{rest_of, number_of}
use Rattle.lc_sexp.specs.declared.cursor.Cursor.{Cursor}
use Rattle.lc_object_text.specs.Sections.{Items, Sections, forms_in, some_forms_in}
use Rattle.lc_object_text.specs.declared.sections.Sections.{Sections as SeenSections}

-- the items that are left
abbrev pub items_of : Cursor → Items
items_of c = record { number = number_of c; trees = rest_of c }

abbrev pub sections_view : SeenSections → Sections
sections_view s = record {
  abstracts = items_of s.abstracts;
  operations = items_of s.operations;
  object = items_of s.object;
  arrays = items_of s.arrays;
  auxiliaries = items_of s.auxiliaries;
  invariant = items_of s.invariant;
  bodies = items_of s.bodies;
}

-- how many items are left
abbrev pub size : Cursor → ℕ
size c = item_count_of_all (rest_of c)

-- the lists that begin with this word; if some are expected, the first item is taken for one
abbrev pub forms_left : Bool → List ℕ → Trees → List Trees
forms_left true word ts = some_forms_in word ts
forms_left false word ts = forms_in word ts

-- the parts of the next such list, with the cursor after it; or there is none
abbrev pub IsNextForm : Bool → List ℕ → Cursor → Option Cursor → Cursor → Type 0
IsNextForm some word old (Some parts) new = (forms_left some word (rest_of old) ≡ rest_of parts ∷ forms_in word (rest_of new)) × (size parts + size new < size old)
IsNextForm some word old None new = forms_left some word (rest_of old) ≡ []
