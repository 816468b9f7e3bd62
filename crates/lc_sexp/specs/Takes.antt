-- Parts of a file: the items directly inside a list that is a form.
use Rattle.std.specs.Prelude.{ℕ, ◌+◌, ◌-◌, List, [], ◌∷◌, ◌++◌}
use Rattle.lc_sexp.specs.Trees.{Trees, atom, list, none, ◌▸◌, item_count, item_count_of_all}
use Rattle.lc_sexp.specs.TreeCode.{tree_count, behind_first}
use Rattle.lc_sexp.specs.declared.part.Part.{Part}

-- the items of a list as parts of this form, the first with this number
abbrev pub parts_in : ℕ → ℕ → Trees → List Part
parts_in form item none = []
parts_in form item (t ▸ ts) = record { form = form; item = item; sexp = t } ∷ parts_in form (item + item_count t) ts

-- the parts of forms, where the first form has this number and begins with this item
abbrev pub parts_from : ℕ → ℕ → Trees → List Part
parts_from form item none = []
parts_from form item (atom w ▸ ts) = parts_from (form + 1) (item + 1) ts
parts_from form item (list us ▸ ts) = parts_in form (item + 1) us ++ parts_from (form + 1) (item + 1 + item_count_of_all us) ts

-- the parts of a file
abbrev pub parts_of : Trees → List Part
parts_of ts = parts_from 0 0 ts

-- a file without the first n of its parts
abbrev pub without : ℕ → Trees → Trees
without n none = none
without n (atom w ▸ ts) = atom w ▸ without n ts
without n (list us ▸ ts) = list (behind_first n us) ▸ without (n - tree_count us) ts

-- the parts that have ended, of the forms that have and of the outermost list that is open
abbrev pub parts_ended : Trees → List Trees → List Part
parts_ended forms [] = parts_of forms
parts_ended forms (items ∷ rows) = parts_of forms ++ parts_in (tree_count forms) (item_count_of_all forms + 1) items
