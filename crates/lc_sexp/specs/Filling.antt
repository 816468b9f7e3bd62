-- Forms whose parts are put back.
use Rattle.std.specs.Prelude.{ℕ, ◌+◌, ◌==◌, if◌then◌else◌, List, [], ◌∷◌}
use Rattle.lc_sexp.specs.Trees.{Trees, atom, list, none, ◌▸◌}
use Rattle.lc_sexp.specs.Entries.{Entry, leaf, branch, hole}
use Rattle.lc_sexp.specs.declared.part.Part.{Part}

-- the parts at the front that belong to this form, and those after them
abbrev pub front_of : ℕ → List Part → Trees
front_of form [] = none
front_of form (p ∷ ps) = if p.form == form then p.sexp ▸ front_of form ps else none

abbrev pub behind_of : ℕ → List Part → List Part
behind_of form [] = []
behind_of form (p ∷ ps) = if p.form == form then behind_of form ps else p ∷ ps

-- forms, the first with this number, with these parts in their lists
abbrev pub filled : ℕ → List Entry → List Part → Trees
filled form [] ps = none
filled form (leaf w ∷ es) ps = atom w ▸ filled (form + 1) es ps
filled form (branch n ∷ es) ps = list (front_of form ps) ▸ filled (form + 1) es (behind_of form ps)
filled form (hole ∷ es) ps = filled (form + 1) es ps
