-- What a development file declares: the names that the code of its object sees, and the actions.
use Rattle.std.specs.Prelude.{ℕ, codes, List, map, slice_get, Option, Some, None}
use Rattle.lc_sexp.specs.TreeCode.{tree_count}
use Rattle.lc_sexp.specs.Trees.{Trees, none}
use Rattle.lc_reading.specs.Listed.{place_of}
use Rattle.lc_object_text.specs.ObjectNames.{Declared, Body, first_text, within_first, later, operations_in, declared_in_sections}
use Rattle.lc_object_text.specs.Sections.{Sections, sections_of, forms_in, behind_first}
use Rattle.lc_rider_text.specs.Known.{Known, Ways, entry_at}

-- The names, and what comes after the word of each action, NAME (PARAM ..) F UPDATE .., and of each operation,
-- NAME (ARG ..) REPLIES, then BRANCH .. or CHOICE ..
pub record Declarations : Type 0 where
  pub declared : Declared
  pub actions : List Trees
  pub operations : List Trees

abbrev pub actions_in : Sections → List Trees
actions_in s = forms_in (codes "action") (behind_first s.auxiliaries).trees

abbrev pub declarations_in : Sections → Declarations
declarations_in s = record { declared = declared_in_sections s; actions = actions_in s; operations = operations_in s }

-- What the file of these forms declares
abbrev pub declarations_of : Trees → Declarations
declarations_of ts = declarations_in (sections_of ts)

-- the branches or choices of an operation
abbrev pub branches_in : Trees → Trees
branches_in ts = later (later (later ts))

-- the parameters of an action, or of a choice
abbrev pub parameter_count : Trees → ℕ
parameter_count ts = tree_count (within_first (later ts))

-- what comes after the word of each choice of an operation, NAME (PARAM ..) F (UPDATE ..) (T ..); an operation whose first form is none
-- has none
abbrev pub choices_in : Trees → List Trees
choices_in ts = forms_in (codes "choice") (branches_in ts)

-- how an operation goes
abbrev pub ways_in : Trees → Ways
ways_in ts = record {
  count = tree_count (branches_in ts);
  choices = map first_text (choices_in ts);
  parameters = map parameter_count (choices_in ts);
}

-- what the riders beside the code see of it: the names, and these counts
abbrev pub known_of : Declarations → Known
known_of d = record {
  columns = d.declared.columns;
  auxiliaries = d.declared.auxiliaries;
  operations = d.declared.operations;
  ways = map ways_in d.operations;
  actions = map first_text d.actions;
  parameters = map parameter_count d.actions;
}

-- what comes after the word of the form at this place, if there is one
abbrev pub or_nothing : Option Trees → Trees
or_nothing (Some ts) = ts
or_nothing None = none

abbrev pub form_at : List Trees → Option ℕ → Trees
form_at forms (Some k) = or_nothing (slice_get forms k)
form_at forms None = none

-- how the operation of this name goes, if one is called so that has a number of replies
abbrev pub ways_called : Declarations → List ℕ → Option ℕ → Option Ways
ways_called d w None = None
ways_called d w (Some replies) = entry_at (known_of d).ways (place_of d.declared.operations w)

-- How the operation goes that a body names; nothing is known about one that is not declared. If the body names another than the
-- expected one, it is refused as a whole, so the name of the expected one serves; but two operations may be declared under this name,
-- and then the first is meant, which the arguments and replies of the body follow too
abbrev pub ways_of_body : Declarations → Option Body → Option Ways
ways_of_body d None = None
ways_of_body d (Some b) = ways_called d b.operation b.call.replies

-- how the operation goes that the body at this place names
abbrev pub own_ways : Declarations → ℕ → Option Ways
own_ways d o = ways_of_body d (slice_get d.declared.bodies o)
