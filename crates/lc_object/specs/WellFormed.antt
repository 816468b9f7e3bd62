-- What the parts of an object promise.
use Rattle.std.specs.Prelude.{ℕ, zero, suc, ◌+◌, ◌-◌, Bool, true, false, not, ◌&&◌, ◌==◌, nat_lt, nat_le, List, [], ◌∷◌, length, slice_get, Option, Some, None}
use Rattle.std.specs.List.{list_all, list_any}
use Rattle.lc_base.specs.Limits.{argument_limit, local_limit, operation_limit, point_limit, reply_limit, width_limit}
use Rattle.lc_term.specs.Syntax.{Term, Number, Variable, Bound, Add, Subtract, Multiply, Read}
use Rattle.lc_term.specs.Syntax.{Formula, Le, Eq, Not, And, Or, Implies, Forall, Exists, Formulas, none, more}
use Rattle.lc_object.specs.Syntax.{Instr, Load, Store, Cas, Set, Faa, If, Return, Array, Operation, Point, Object}

-- how many variables there are in an operation's code: the number of clients, the client, arguments and locals
abbrev pub variable_count : Operation → ℕ
variable_count o = 2 + length o.arguments + length o.locals

-- a place below the limits of an operation
abbrev pub has_limits : Operation → Bool
has_limits o = nat_le (length o.arguments) argument_limit && nat_le o.replies reply_limit && nat_le (length o.locals) local_limit

abbrev pub is_code_variable : ℕ → ℕ → Bool
is_code_variable variables k = nat_lt 0 k && nat_lt k variables

-- the terms of instructions use numbers, the client, arguments and locals
abbrev pub is_code_term : ℕ → Term → Bool
is_code_term variables (Number n) = true
is_code_term variables (Variable k) = is_code_variable variables k
is_code_term variables (Bound k) = false
is_code_term variables (Add t u) = is_code_term variables t && is_code_term variables u
is_code_term variables (Subtract t u) = is_code_term variables t && is_code_term variables u
is_code_term variables (Multiply n t) = is_code_term variables t
is_code_term variables (Read c i) = false

abbrev pub are_code_terms : ℕ → List Term → Bool
are_code_terms variables ts = list_all (is_code_term variables) ts

abbrev mutual
  -- and so do their formulas, which have no quantifier
  pub is_code_formula : ℕ → Formula → Bool
  is_code_formula variables (Le t u) = is_code_term variables t && is_code_term variables u
  is_code_formula variables (Eq t u) = is_code_term variables t && is_code_term variables u
  is_code_formula variables (Not f) = is_code_formula variables f
  is_code_formula variables (And fs) = are_code_formulas variables fs
  is_code_formula variables (Or fs) = are_code_formulas variables fs
  is_code_formula variables (Implies f g) = is_code_formula variables f && is_code_formula variables g
  is_code_formula variables (Forall f) = false
  is_code_formula variables (Exists f) = false

  pub are_code_formulas : ℕ → Formulas → Bool
  are_code_formulas variables none = true
  are_code_formulas variables (more f fs) = is_code_formula variables f && are_code_formulas variables fs

-- no number occurs twice
abbrev pub are_distinct : List ℕ → Bool
are_distinct [] = true
are_distinct (n ∷ ns) = not (list_any (λ m. m == n) ns) && are_distinct ns

-- the targets of an instruction are locals, each once, so at most sixteen
abbrev pub are_targets : Operation → List ℕ → Bool
are_targets o rs = nat_le (length rs) local_limit && list_all (λ r. nat_le (2 + length o.arguments) r && nat_lt r (variable_count o)) rs && are_distinct rs

-- an element that passes is at this place
abbrev pub passes_at : {A : Type 0} → (A → Bool) → Option A → Bool
passes_at test None = false
passes_at test (Some x) = test x

-- the array of this number has `width` columns
abbrev pub has_width : Object → ℕ → ℕ → Bool
has_width object a width = passes_at (λ array. length array.columns == width) (slice_get object.arrays a)

-- the point of this number is in the body of this operation
abbrev pub is_label : Object → ℕ → ℕ → Bool
is_label object op l = passes_at (λ point. point.operation == op) (slice_get object.points l)

-- an instruction in the body of operation `op` names only what exists
abbrev pub is_instruction : Object → ℕ → Operation → Instr → Bool
is_instruction object op o (Load a t rs l) =
    has_width object a (length rs) && is_code_term (variable_count o) t && are_targets o rs && is_label object op l
is_instruction object op o (Store a t vs l) =
    has_width object a (length vs) && is_code_term (variable_count o) t && are_code_terms (variable_count o) vs && is_label object op l
is_instruction object op o (Cas a t old new l m) =
    has_width object a (length old) && has_width object a (length new) && is_code_term (variable_count o) t
    && are_code_terms (variable_count o) old && are_code_terms (variable_count o) new && is_label object op l && is_label object op m
is_instruction object op o (Set rs vs l) =
    length vs == length rs && are_targets o rs && are_code_terms (variable_count o) vs && is_label object op l
is_instruction object op o (Faa a t rs ds l) =
    has_width object a (length rs) && has_width object a (length ds) && is_code_term (variable_count o) t && are_targets o rs
    && are_code_terms (variable_count o) ds && is_label object op l
is_instruction object op o (If f l m) = is_code_formula (variable_count o) f && is_label object op l && is_label object op m
is_instruction object op o (Return vs) = length vs == o.replies && are_code_terms (variable_count o) vs

-- a point is in a declared operation's body
abbrev pub is_point : Object → Point → Bool
is_point object p = passes_at (λ o. has_limits o && is_instruction object p.operation o p.instruction) (slice_get object.operations p.operation)

-- the k numbers from n on
abbrev pub numbers_from : ℕ → ℕ → List ℕ
numbers_from n zero = []
numbers_from n (suc k) = n ∷ numbers_from (suc n) k

-- the first of the points of an operation's body is at this place
abbrev pub is_first : List Point → ℕ → ℕ → Bool
is_first [] op l = false
is_first (p ∷ ps) op zero = p.operation == op
is_first (p ∷ ps) op (suc l) = not (p.operation == op) && is_first ps op l

-- operations from the number n on have limits, and the first points of their bodies
abbrev pub are_operations : Object → ℕ → List Operation → Bool
are_operations object n [] = true
are_operations object n (o ∷ os) = has_limits o && is_first object.points n o.entry && are_operations object (suc n) os

-- one to four columns
abbrev pub is_width : ℕ → Bool
is_width n = nat_lt 0 n && nat_le n width_limit

-- an array has one to four columns, each of them concrete, and none twice
abbrev pub is_array : Object → Array → Bool
is_array object a =
    is_width (length a.columns) && are_distinct a.columns
    && list_all (λ c. nat_le (length object.abstracts) c && nat_lt (c - length object.abstracts) (length object.concretes)) a.columns

-- a column of this number is in one of these arrays
abbrev pub stands_in : List Array → ℕ → Bool
stands_in arrays c = list_any (λ a. list_any (λ d. d == c) a.columns) arrays

-- no two arrays share a column
abbrev pub are_apart : List Array → Bool
are_apart [] = true
are_apart (a ∷ others) = not (list_any (stands_in others) a.columns) && are_apart others

-- arrays, operations and points name only what exists
abbrev pub is_object : Object → Bool
is_object object = are_apart object.arrays && nat_le (length object.operations) operation_limit && nat_le (length object.points) point_limit && list_all (is_array object) object.arrays && are_operations object 0 object.operations && list_all (is_point object) object.points
