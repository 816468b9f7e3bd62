-- What an instruction needs of the object and of the variables.
use Rattle.std.specs.Prelude.{◌≡◌, ℕ, ◌<◌, ◌≤◌, true, length, slice_get, Option, Some, None, option_map}
use Rattle.lc_base.specs.Limits.{local_limit, reply_limit, width_limit}
use Rattle.lc_object.specs.Syntax.{Instr, Load, Store, Cas, Set, Faa, If, Return, Point, Object}
use Rattle.lc_object.specs.WellFormed.{variable_count, is_code_term, are_code_terms, is_code_formula}
use Rattle.lc_object.specs.Edges.{array_columns}
use Rattle.lc_machine.specs.Below.{AreBelow}

abbrev pub variables_in : Object → Option Point → Option ℕ
variables_in object None = None
variables_in object (Some point) = option_map variable_count (slice_get object.operations point.operation)

-- how many variables there are at the point of this number, if there is one
abbrev pub variables_at : Object → ℕ → Option ℕ
variables_at object p = variables_in object (slice_get object.points p)

-- an array of this number and of this width, which is that of an array
abbrev pub HasRow : Object → ℕ → ℕ → Type 0
HasRow object a width = (a < length object.arrays) × (length (array_columns object a) ≡ width) × (width ≤ width_limit)

-- arrays, variables and labels are there, if there are n variables
abbrev pub MayRun : Object → ℕ → Instr → Type 0
MayRun object n (Load a t rs l) = HasRow object a (length rs) × (is_code_term n t ≡ true) × AreBelow n rs × (variables_at object l ≡ Some n)
MayRun object n (Store a t vs l) =
    HasRow object a (length vs) × (is_code_term n t ≡ true) × (are_code_terms n vs ≡ true) × (variables_at object l ≡ Some n)
MayRun object n (Cas a t old new l m) =
    HasRow object a (length old) × HasRow object a (length new) × (is_code_term n t ≡ true) × (are_code_terms n old ≡ true)
    × (are_code_terms n new ≡ true) × (variables_at object l ≡ Some n) × (variables_at object m ≡ Some n)
MayRun object n (Set rs vs l) =
    (length vs ≡ length rs) × (length rs ≤ local_limit) × AreBelow n rs × (are_code_terms n vs ≡ true) × (variables_at object l ≡ Some n)
MayRun object n (Faa a t rs ds l) =
    HasRow object a (length rs) × HasRow object a (length ds) × (is_code_term n t ≡ true) × AreBelow n rs × (are_code_terms n ds ≡ true) × (variables_at object l ≡ Some n)
MayRun object n (If f l m) = (is_code_formula n f ≡ true) × (variables_at object l ≡ Some n) × (variables_at object m ≡ Some n)
MayRun object n (Return vs) = (length vs ≤ reply_limit) × (are_code_terms n vs ≡ true)
