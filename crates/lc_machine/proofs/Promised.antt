-- What a well-formed object promises of its instructions.
use Rattle.std.proofs.Common.{◌≡◌, ℕ, ◌<◌, ◌≤◌, ◌+◌, ◌&&◌, true, List, [], ◌∷◌, length, Some, None, Option, refl, sym, ap, ap₂, ◌∙◌, subst, arith, zero, suc, replicate, ℤ, pos, add-zero, eq-eqb}
use Rattle.std.specs.Prelude.{slice_get, option_map, nat_le, nat_lt, ◌==◌}
use Rattle.std.specs.List.{list_all}
use Rattle.std.proofs.lemmas.Bool.Decides.{nat_tests}
use Rattle.std.proofs.lemmas.List.{length-append, length-replicate}
use Rattle.std.proofs.lemmas.Bool.{eqb-true, leb-true}
use Rattle.std.proofs.lemmas.Option.{same_Some, slice_get_within}
use Rattle.lc_lemmas.proofs.Booleans.{left_true, right_true}
use Rattle.lc_lemmas.proofs.Lists.{at_all}
use Rattle.lc_base.specs.Limits.{local_limit, width_limit, argument_limit, reply_limit}
use Rattle.lc_object.specs.Syntax.{Instr, Load, Store, Cas, Set, Faa, If, Return, Array, Operation, Point, Object}
use Rattle.lc_object.proofs.ObjectParts.{first_stands}
use Rattle.lc_object.specs.WellFormed.{is_object, is_point, is_instruction, is_label, is_first, has_width, has_limits, are_targets, are_operations, passes_at, variable_count}
use Rattle.lc_machine.specs.World.{In, first_variables}
use Rattle.lc_machine.specs.Placed.{is_placed, is_count}
use Rattle.lc_object.specs.Edges.{columns_in}
use Rattle.lc_machine.specs.Below.{AreBelow}
use Rattle.lc_machine.specs.MayRun.{MayRun, HasRow, variables_at, variables_in}
use Rattle.lc_machine.proofs.ArrayColumns.{points_pass, operations_pass, few_columns}

-- a label of a body: there are as many variables as in the body
label_at : (object : Object) (op l : ℕ) (o : Operation) → slice_get object.operations op ≡ Some o →
    (found : Option Point) → slice_get object.points l ≡ found → passes_at (λ point. point.operation == op) found ≡ true → variables_at object l ≡ Some (variable_count o)
label_at object op l o e None f h = cc
label_at object op l o e (Some point) f h =
    ap (variables_in object) f ∙ ap (λ k. option_map variable_count (slice_get object.operations k)) (eqb-true point.operation op h) ∙ ap (option_map variable_count) e

label : (object : Object) (op l : ℕ) (o : Operation) → slice_get object.operations op ≡ Some o → is_label object op l ≡ true → variables_at object l ≡ Some (variable_count o)
label object op l o e h = label_at object op l o e (slice_get object.points l) refl h

row_at : (object : Object) → is_object object ≡ true → (a width : ℕ) (found : Option Array) → slice_get object.arrays a ≡ found →
    passes_at (λ array. length array.columns == width) found ≡ true → HasRow object a width
row_at object well a width None e h = cc
row_at object well a width (Some array) e h =
    let wide = eqb-true (length array.columns) width h in
    (slice_get_within object.arrays a array e, ap (λ f. length (columns_in f)) e ∙ wide, subst (λ n. n ≤ width_limit) wide (few_columns object a array well e))

row_of_width : (object : Object) → is_object object ≡ true → (a width : ℕ) → has_width object a width ≡ true → HasRow object a width
row_of_width object well a width h = row_at object well a width (slice_get object.arrays a) refl h

below_from : (first end : ℕ) (rs : List ℕ) → list_all (λ r. nat_le first r && nat_lt r end) rs ≡ true → AreBelow end rs
below_from first end [] h = tt
below_from first end (r ∷ rs) h =
    let here = left_true (nat_le first r && nat_lt r end) (list_all (λ r. nat_le first r && nat_lt r end) rs) h in
    let high = right_true (nat_le first r) (nat_lt r end) here in
    (grind (arith, nat_tests), below_from first end rs (right_true (nat_le first r && nat_lt r end) _ h))

targets_below : (o : Operation) (rs : List ℕ) → are_targets o rs ≡ true → AreBelow (variable_count o) rs
targets_below o rs h = below_from (2 + length o.arguments) (variable_count o) rs (right_true _ _ (left_true _ _ h))

targets_few : (o : Operation) (rs : List ℕ) → are_targets o rs ≡ true → length rs ≤ local_limit
targets_few o rs h = leb-true (length rs) local_limit (left_true _ _ (left_true _ _ h))

instruction_may_run : (object : Object) → is_object object ≡ true → (op : ℕ) (o : Operation) → slice_get object.operations op ≡ Some o → has_limits o ≡ true → (i : Instr) →
    is_instruction object op o i ≡ true → MayRun object (variable_count o) i
instruction_may_run object well op o e limits (Load a t rs l) h = (
  row_of_width object well a (length rs) (left_true _ _ (left_true _ _ (left_true _ _ h))),
  right_true _ _ (left_true _ _ (left_true _ _ h)),
  targets_below o rs (right_true _ _ (left_true _ _ h)),
  label object op l o e (right_true _ _ h),
)
instruction_may_run object well op o e limits (Store a t vs l) h = (
  row_of_width object well a (length vs) (left_true _ _ (left_true _ _ (left_true _ _ h))),
  right_true _ _ (left_true _ _ (left_true _ _ h)),
  right_true _ _ (left_true _ _ h),
  label object op l o e (right_true _ _ h),
)
instruction_may_run object well op o e limits (Cas a t old new l m) h = (
  row_of_width object well a (length old) (left_true _ _ (left_true _ _ (left_true _ _ (left_true _ _ (left_true _ _ (left_true _ _ h)))))),
  row_of_width object well a (length new) (right_true _ _ (left_true _ _ (left_true _ _ (left_true _ _ (left_true _ _ (left_true _ _ h)))))),
  right_true _ _ (left_true _ _ (left_true _ _ (left_true _ _ (left_true _ _ h)))),
  right_true _ _ (left_true _ _ (left_true _ _ (left_true _ _ h))),
  right_true _ _ (left_true _ _ (left_true _ _ h)),
  label object op l o e (right_true _ _ (left_true _ _ h)),
  label object op m o e (right_true _ _ h),
)
instruction_may_run object well op o e limits (Set rs vs l) h = (
  eqb-true (length vs) (length rs) (left_true _ _ (left_true _ _ (left_true _ _ h))),
  targets_few o rs (right_true _ _ (left_true _ _ (left_true _ _ h))),
  targets_below o rs (right_true _ _ (left_true _ _ (left_true _ _ h))),
  right_true _ _ (left_true _ _ h),
  label object op l o e (right_true _ _ h),
)
instruction_may_run object well op o e limits (Faa a t rs ds l) h = (
  row_of_width object well a (length rs) (left_true _ _ (left_true _ _ (left_true _ _ (left_true _ _ (left_true _ _ h))))),
  row_of_width object well a (length ds) (right_true _ _ (left_true _ _ (left_true _ _ (left_true _ _ (left_true _ _ h))))),
  right_true _ _ (left_true _ _ (left_true _ _ (left_true _ _ h))),
  targets_below o rs (right_true _ _ (left_true _ _ (left_true _ _ h))),
  right_true _ _ (left_true _ _ h),
  label object op l o e (right_true _ _ h),
)
instruction_may_run object well op o e limits (If f l m) h =
    (left_true _ _ (left_true _ _ h), label object op l o e (right_true _ _ (left_true _ _ h)), label object op m o e (right_true _ _ h))
instruction_may_run object well op o e limits (Return vs) h =
    let count = eqb-true (length vs) o.replies (left_true _ _ h) in
    let few : o.replies ≤ reply_limit = leb-true o.replies reply_limit (right_true (nat_le (length o.arguments) argument_limit) (nat_le o.replies reply_limit) (left_true (nat_le (length o.arguments) argument_limit && nat_le o.replies reply_limit) (nat_le (length o.locals) local_limit) limits)) in
    (omega arith, right_true _ _ h)

point_may_run : (object : Object) → is_object object ≡ true → (point : Point) (n : ℕ) (found : Option Operation) → slice_get object.operations point.operation ≡ found →
    passes_at (λ o. has_limits o && is_instruction object point.operation o point.instruction) found ≡ true → option_map variable_count found ≡ Some n → MayRun object n point.instruction
point_may_run object well point n None e h k = cc
point_may_run object well point n (Some o) e h k =
    subst (λ m. MayRun object m point.instruction) (same_Some (variable_count o) n k)
    (instruction_may_run object well point.operation o e (left_true _ _ h) point.instruction (right_true (has_limits o) _ h))

-- the instruction at a point may run if there are as many variables as there
pub may_run : (object : Object) → is_object object ≡ true → (p : ℕ) (point : Point) (n : ℕ) → slice_get object.points p ≡ Some point → variables_at object p ≡ Some n → MayRun object n point.instruction
may_run object well p point n e k =
    point_may_run object well point n (slice_get object.operations point.operation) refl (at_all (is_point object) object.points p point (points_pass object well) e) (ap (variables_in object) (sym e) ∙ k)

placed_at : (object : Object) (p n : ℕ) (found : Option Point) → slice_get object.points p ≡ found → variables_in object found ≡ Some n → p < length object.points
placed_at object p n None e h = cc
placed_at object p n (Some point) e h = slice_get_within object.points p point e

-- if there are variables there is a point
pub point_with_variables : (object : Object) (p n : ℕ) → variables_at object p ≡ Some n → p < length object.points
point_with_variables object p n h = placed_at object p n (slice_get object.points p) refl h

entry_at : (object : Object) (n : ℕ) (os : List Operation) (k m : ℕ) (o : Operation) → m ≡ n + k → are_operations object n os ≡ true → slice_get os k ≡ Some o → is_label object m o.entry ≡ true
entry_at object n [] k m o e h f = cc
entry_at object n (x ∷ os) zero m o e h f =
    let same : m ≡ n = e ∙ add-zero n in
    let here = first_stands object.points n x.entry (right_true (has_limits x) (is_first object.points n x.entry) (left_true _ (are_operations object (suc n) os) h)) in
    ap (λ j. is_label object j o.entry) same ∙ ap (λ (y : Operation). is_label object n y.entry) (sym (same_Some x o f)) ∙ here
entry_at object n (x ∷ os) (suc k) m o e h f =
    entry_at object (suc n) os k m o (e ∙ omega arith) (right_true (has_limits x && is_first object.points n x.entry) (are_operations object (suc n) os) h) f

-- the first point of an operation's body has the variables of the operation
pub entry_variables : (object : Object) → is_object object ≡ true → (op : ℕ) (o : Operation) → slice_get object.operations op ≡ Some o → variables_at object o.entry ≡ Some (variable_count o)
entry_variables object well op o e =
    label object op o.entry o e (entry_at object 0 object.operations op op o (omega arith) (operations_pass object well) e)

-- as many as a call begins with
pub first_count : (clients client : ℕ) (o : Operation) (ns : List ℤ) → length ns ≡ length o.arguments → length (first_variables clients client o ns) ≡ variable_count o
first_count clients client o ns e =
    let rest = length-append ns (replicate (length o.locals) (pos 0)) ∙ ap₂ (λ a b. a + b) e (length-replicate (length o.locals) (pos 0)) in
    omega arith

-- a call begins at a place
pub entry_is_placed : (object : Object) → is_object object ≡ true → (op clients client : ℕ) (o : Operation) (ns variables : List ℤ) → slice_get object.operations op ≡ Some o →
    length ns ≡ length o.arguments → variables ≡ first_variables clients client o ns → is_placed object (In o.entry variables) ≡ true
entry_is_placed object well op clients client o ns variables e count first =
    ap (λ m. is_count m (length variables)) (entry_variables object well op o e) ∙
    eq-eqb (variable_count o) (length variables) (sym (ap length first ∙ first_count clients client o ns count))

operation_there : (object : Object) (point : Point) (found : Option Operation) →
    passes_at (λ o. has_limits o && is_instruction object point.operation o point.instruction) found ≡ true → (n : ℕ) × (option_map variable_count found ≡ Some n)
operation_there object point None h = cc
operation_there object point (Some o) h = (variable_count o, refl)

-- the instruction at a point may run with some number of variables
pub may_run_with : (object : Object) → is_object object ≡ true → (p : ℕ) (point : Point) → slice_get object.points p ≡ Some point → (n : ℕ) × MayRun object n point.instruction
may_run_with object well p point e =
    let passed = at_all (is_point object) object.points p point (points_pass object well) e in
    let there = operation_there object point (slice_get object.operations point.operation) passed in
    (there.0, point_may_run object well point there.0 (slice_get object.operations point.operation) refl passed there.1)
