-- By which names the text of a development speaks of what has a number.
use Rattle.std.specs.Prelude.{ℕ, codes, List, [], ◌∷◌, Option, Some, None, slice_get, slice_index_or}
use Rattle.lc_text.specs.Spelling.{Spelled}
use Rattle.lc_object.specs.Syntax as O
use Rattle.lc_action.specs.Action.{Action}

-- the number of clients, the client, and then these variables
abbrev pub with_client : List (List ℕ) → List (List ℕ)
with_client names = codes "N" ∷ codes "self" ∷ names

-- columns and variables by these names; of what has no name nothing is printed
abbrev pub named_by : List (List ℕ) → List (List ℕ) → Spelled
named_by columns variables = record { variable = λ k. slice_index_or variables k []; column = λ k. slice_index_or columns k [] }

-- ---- the names of what is at a place

abbrev pub name_of_array : Option O.Array → List ℕ
name_of_array None = []
name_of_array (Some a) = a.name

abbrev pub name_of_point : Option O.Point → List ℕ
name_of_point None = []
name_of_point (Some p) = p.name

abbrev pub name_of_operation : Option O.Operation → List ℕ
name_of_operation None = []
name_of_operation (Some o) = o.name

abbrev pub name_of_action : Option Action → List ℕ
name_of_action None = []
name_of_action (Some a) = a.name

abbrev pub array_name : O.Object → ℕ → List ℕ
array_name object a = name_of_array (slice_get object.arrays a)

abbrev pub label : O.Object → ℕ → List ℕ
label object p = name_of_point (slice_get object.points p)

abbrev pub operation_name : O.Object → ℕ → List ℕ
operation_name object o = name_of_operation (slice_get object.operations o)

abbrev pub action_name : List Action → ℕ → List ℕ
action_name actions a = name_of_action (slice_get actions a)
