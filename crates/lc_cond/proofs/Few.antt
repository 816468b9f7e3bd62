-- What a development has few of: operations and points, variables of an operation, conditions.
use Rattle.std.proofs.Common.{◌≡◌, ℕ, zero, suc, ◌+◌, ◌*◌, ◌≤◌, ◌&&◌, ◌++◌, Bool, true, List, [], ◌∷◌, map, length, Option, Some, None, refl, sym, ap, ◌∙◌, subst, arith}
use Rattle.std.specs.Prelude.{slice_get, nat_le}
use Rattle.std.specs.List.{list_all}
use Rattle.std.proofs.lemmas.List.{length-append, length-map}
use Rattle.std.proofs.lemmas.Option.{same_Some, slice_get_past}
use Rattle.std.proofs.lemmas.Bool.{leb-true}
use Rattle.lc_lemmas.proofs.Booleans.{left_true, right_true}
use Rattle.lc_lemmas.proofs.Lists.{at_all}
use Rattle.lc_base.specs.Limits.{action_limit, argument_limit, column_limit, condition_limit, local_limit, operation_limit, parameter_limit, point_limit, reply_limit}
use Rattle.lc_term.specs.Lists.{Every, numbered, concat_map, concat_places}
use Rattle.lc_term.specs.Syntax.{Formula}
use Rattle.lc_term.proofs.Stores.{Every-map}
use Rattle.lc_object.specs.Edges.{Edge, edges}
use Rattle.lc_object.specs.Syntax as O
use Rattle.lc_object.specs.View.{operation_of}
use Rattle.lc_object.specs.WellFormed.{variable_count, has_limits, is_array, is_first, is_point, is_instruction, are_apart, are_operations, passes_at}
use Rattle.lc_object.proofs.ObjectParts.{operations_pass}
use Rattle.lc_action.specs.Action.{Action}
use Rattle.lc_outline.specs.Development.{Development, Outline, first_system, invariant_of, asserts_at, asserts_in, in_operation}
use Rattle.lc_outline.specs.Limits.{is_limited, on_is_limited, outlines_are_limited}
use Rattle.lc_outline.specs.Resolved.{IsBelow, is_resolved}
use Rattle.lc_outline.specs.Sizes.{sizes_of, count}
use Rattle.lc_outline.proofs.Resolving.{passed_is_resolved}
use Rattle.lc_kernel.proofs.InUse.{formula_below-more}
use Rattle.lc_cond.specs.Conditions as S
use Rattle.lc_cond.specs.Conditions.{idle_frame, body_frame, start_conditions, entry_conditions, edge_conditions, point_stability, idle_stability, stable_conditions, conditions}
use Rattle.lc_cond.specs.Crossings.{code_variable_limit, TakesFew}
use Rattle.lc_cond.specs.PartView.{part_of, parts_along, HasLimits}
use Rattle.lc_cond.specs.declared.part.Part.{Part}
use Rattle.lc_cond.specs.declared.part.Part.TheVariants.{Start, Begin, Pass, Stay, StayIdle}
use Rattle.lc_cond.proofs.Sized.{start_sized, stable_length, are_counted, every_at}

-- ---- lists

-- as many are seen as there are
pub seen_length : {A C : Type 0} (view : C → A) (xs : List C) (ys : List A) → map view xs ≡ ys → length xs ≡ length ys
seen_length view xs ys e = sym (length-map xs view) ∙ ap length e

-- formulas speak of no more variables than of more
pub below_more : (m n : ℕ) (fs : List Formula) → m ≤ n → Every (IsBelow m) fs → Every (IsBelow n) fs
below_more m n fs le h = Every-map (IsBelow m) (IsBelow n) fs (λ f g. formula_below-more m n le f g) h

-- ---- the variables of an operation

pub arguments_few : (o : O.Operation) → has_limits o ≡ true → length o.arguments ≤ argument_limit
arguments_few o h =
    leb-true (length o.arguments) argument_limit
    (left_true (nat_le (length o.arguments) argument_limit) (nat_le o.replies reply_limit)
    (left_true (nat_le (length o.arguments) argument_limit && nat_le o.replies reply_limit) (nat_le (length o.locals) local_limit) h))

pub locals_few : (o : O.Operation) → has_limits o ≡ true → length o.locals ≤ local_limit
locals_few o h =
    leb-true (length o.locals) local_limit (right_true (nat_le (length o.arguments) argument_limit && nat_le o.replies reply_limit) (nat_le (length o.locals) local_limit) h)

pub variables_few : (o : O.Operation) → has_limits o ≡ true → variable_count o ≤ code_variable_limit
variables_few o h = (let a = arguments_few o h in let l = locals_few o h in omega (arith, a, l))

limited_at : (object : O.Object) (n : ℕ) (os : List O.Operation) → are_operations object n os ≡ true → (k : ℕ) (o : O.Operation) → slice_get os k ≡ Some o → has_limits o ≡ true
limited_at object n [] h k o e = cc
limited_at object n (x ∷ os) h zero o e =
    subst (λ y. has_limits y ≡ true) (same_Some x o e)
    (left_true (has_limits x) (is_first object.points n x.entry) (left_true (has_limits x && is_first object.points n x.entry) (are_operations object (suc n) os) h))
limited_at object n (x ∷ os) h (suc k) o e =
    limited_at object (suc n) os (right_true (has_limits x && is_first object.points n x.entry) (are_operations object (suc n) os) h) k o e

-- ---- the parts of the list

-- when a call begins in one of these operations
begun : (object : O.Object) (n : ℕ) (os : List O.Operation) (rest : List S.Part) → are_operations object n os ≡ true → ((j m : ℕ) (o : O.Operation) → slice_get rest j ≡ Some (S.Begin m o) → ⊥) →
    (k m : ℕ) (o : O.Operation) → slice_get (numbered S.Begin n os ++ rest) k ≡ Some (S.Begin m o) → has_limits o ≡ true
begun object n [] rest h never k m o e = absurd (never k m o e)
begun object n (x ∷ os) rest h never zero m o e =
    (let same : x ≡ o = cc in
    subst (λ y. has_limits y ≡ true) same
    (left_true (has_limits x) (is_first object.points n x.entry) (left_true (has_limits x && is_first object.points n x.entry) (are_operations object (suc n) os) h)))
begun object n (x ∷ os) rest h never (suc k) m o e =
    begun object (suc n) os rest (right_true (has_limits x && is_first object.points n x.entry) (are_operations object (suc n) os) h) never k m o e

past_edges : (es : List Edge) (rest : List S.Part) → ((j m : ℕ) (o : O.Operation) → slice_get rest j ≡ Some (S.Begin m o) → ⊥) → (j m : ℕ) (o : O.Operation) → slice_get (map S.Pass es ++ rest) j ≡ Some (S.Begin m o) → ⊥
past_edges [] rest never j m o e = never j m o e
past_edges (x ∷ es) rest never zero m o e = cc
past_edges (x ∷ es) rest never (suc j) m o e = past_edges es rest never j m o e

past_points : (n : ℕ) (ps : List O.Point) (j m : ℕ) (o : O.Operation) → slice_get (numbered S.Stay n ps ++ S.StayIdle ∷ []) j ≡ Some (S.Begin m o) → ⊥
past_points n [] zero m o e = cc
past_points n [] (suc j) m o e = cc
past_points n (x ∷ ps) zero m o e = cc
past_points n (x ∷ ps) (suc j) m o e = past_points (suc n) ps j m o e

module _ (D : Development) (h : is_resolved D ≡ true) where
  pub operation_limited : (k : ℕ) (o : O.Operation) → slice_get D.object.operations k ≡ Some o → has_limits o ≡ true
  operation_limited k o e = limited_at D.object 0 D.object.operations (operations_pass D.object (passed_is_resolved D h).object) k o e

  pub part_limited : (es : List Edge) (k : ℕ) (p : Part) → slice_get (parts_along D es) k ≡ Some (part_of p) → HasLimits p
  part_limited es k Start e = tt
  part_limited es zero (Begin number body) e = cc
  part_limited es (suc k) (Begin number body) e =
      begun D.object 0 D.object.operations _ (operations_pass D.object (passed_is_resolved D h).object) (past_edges es _ (past_points 0 D.object.points)) k number.0 (operation_of body.now) e
  part_limited es k (Pass edge) e = tt
  part_limited es k (Stay number point) e = tt
  part_limited es k StayIdle e = tt

  abbrev limits_tested : Bool
  limits_tested = are_apart D.object.arrays && nat_le (length D.object.operations) operation_limit && nat_le (length D.object.points) point_limit

  counts_tested : limits_tested ≡ true
  counts_tested =
      left_true limits_tested (list_all (is_array D.object) D.object.arrays)
      (left_true _ (are_operations D.object 0 D.object.operations) (left_true _ (list_all (is_point D.object) D.object.points) (passed_is_resolved D h).object))

  pub operations_few : length D.object.operations ≤ operation_limit
  operations_few =
      leb-true (length D.object.operations) operation_limit
      (right_true (are_apart D.object.arrays) (nat_le (length D.object.operations) operation_limit) (left_true _ (nat_le (length D.object.points) point_limit) counts_tested))

  pub points_few : length D.object.points ≤ point_limit
  points_few =
      leb-true (length D.object.points) point_limit (right_true (are_apart D.object.arrays && nat_le (length D.object.operations) operation_limit) (nat_le (length D.object.points) point_limit) counts_tested)

  -- a declared action, which has three parameters at most
  pub action_few : (k : ℕ) (a : Action) → slice_get D.actions k ≡ Some a → TakesFew a
  action_few k a e = (let three = every_at (λ (x : Action). length x.parameters ≤ parameter_limit) D.actions k a (passed_is_resolved D h).parameters e in omega (arith, three))

-- ---- conditions

place_within : {A B : Type 0} (f : ℕ → A → List B) (n : ℕ) (xs : List A) (j : ℕ) (x : A) → slice_get xs j ≡ Some x → length (f (n + j) x) ≤ length (concat_places f n xs)
place_within f n [] j x e = cc
place_within f n (y ∷ ys) zero x e =
    (let all = length-append (f n y) (concat_places f (suc n) ys) in
    let one = ap (λ z. length (f n z)) (same_Some y x e) in
    let at : n ≡ n + 0 = omega arith in
    let here = ap (λ m. length (f m x)) at in
    omega (arith, all, one, here))
place_within f n (y ∷ ys) (suc j) x e =
    (let all = length-append (f n y) (concat_places f (suc n) ys) in
    let next = place_within f (suc n) ys j x e in
    let at : suc n + j ≡ n + suc j = omega arith in
    let here = ap (λ m. length (f m x)) at in
    omega (arith, all, next, here))

module _ (D : Development) (t : is_limited D ≡ true) where
  abbrev has_few_columns : Bool
  has_few_columns = nat_le (first_system D) column_limit

  abbrev has_few_actions : Bool
  has_few_actions = nat_le (length D.actions) action_limit

  abbrev has_few_paths : Bool
  has_few_paths = outlines_are_limited D.specification.operations D.object.points D.outlines

  counts_limited : (has_few_columns && has_few_actions && has_few_paths) ≡ true
  counts_limited = left_true _ (nat_le (count (sizes_of D)) condition_limit) t

  pub columns_few : first_system D ≤ column_limit
  columns_few = leb-true (first_system D) column_limit (left_true has_few_columns has_few_actions (left_true (has_few_columns && has_few_actions) has_few_paths counts_limited))

  paths_few : has_few_paths ≡ true
  paths_few = right_true (has_few_columns && has_few_actions) has_few_paths counts_limited

  counted_few : count (sizes_of D) ≤ condition_limit
  counted_few = leb-true (count (sizes_of D)) condition_limit (right_true (has_few_columns && has_few_actions && has_few_paths) (nat_le (count (sizes_of D)) condition_limit) t)

module _ (D : Development) (h : is_resolved D ≡ true) (t : is_limited D ≡ true) where
  pub conditions_few : length (conditions D) ≤ condition_limit
  conditions_few = subst (λ n. n ≤ condition_limit) (sym (are_counted D h)) (counted_few D t)

  abbrev entries : List S.Condition
  entries = concat_places (entry_conditions D) 0 D.object.operations

  abbrev passes : List S.Condition
  passes = concat_map (edge_conditions D) (edges D.object)

  abbrev stays : List S.Condition
  stays = concat_places (point_stability D) 0 D.object.points

  stays_few : length stays + length (idle_stability D) ≤ condition_limit
  stays_few =
      (let a = length-append (start_conditions D) (entries ++ (passes ++ (stays ++ idle_stability D))) in
      let b = length-append entries (passes ++ (stays ++ idle_stability D)) in
      let c = length-append passes (stays ++ idle_stability D) in
      let d = length-append stays (idle_stability D) in
      let all = conditions_few in
      omega (arith, a, b, c, d, all))

  -- the conditions at the start
  pub starts_few : length (invariant_of D) + length D.idle ≤ condition_limit
  starts_few =
      (let size = start_sized D (passed_is_resolved D h) in
      let a = length-append (start_conditions D) (entries ++ (passes ++ (stays ++ idle_stability D))) in
      let all = conditions_few in
      omega (arith, size, a, all))

  -- that what holds of idle clients stays, under each action
  pub idle_stays_few : length D.idle * (length D.actions + 2) ≤ condition_limit
  idle_stays_few =
      (let size = stable_length D (passed_is_resolved D h) None 2 (idle_frame (first_system D)) D.idle in
      let all = stays_few in
      subst (λ n. n ≤ condition_limit) size (omega (arith, all)))

  found : (point : O.Point) (k : Option O.Operation) → passes_at (λ (o : O.Operation). has_limits o && is_instruction D.object point.operation o point.instruction) k ≡ true → (o : O.Operation) × (k ≡ Some o)
  found point None e = cc
  found point (Some o) e = (o, refl)

  none_behind : (ps : List O.Point) (xs : List Outline) (j : ℕ) → outlines_are_limited D.specification.operations ps xs ≡ true → slice_get ps j ≡ None → slice_get xs j ≡ None
  none_behind [] [] j all e = slice_get_past [] j (omega arith)
  none_behind [] (x ∷ xs) j all e = cc
  none_behind (p ∷ ps) [] j all e = cc
  none_behind (p ∷ ps) (x ∷ xs) zero all e = cc
  none_behind (p ∷ ps) (x ∷ xs) (suc j) all e =
      none_behind ps xs j (right_true (list_all (on_is_limited D.specification.operations p.operation) x.ons) (outlines_are_limited D.specification.operations ps xs) all) e

  -- and that what is asserted at a point does; nothing is where no point is
  pub asserts_stay_few : (p : ℕ) → length (asserts_at D p) * (length D.actions + 2) ≤ condition_limit
  asserts_stay_few p = by (slice_get D.object.points p) refl
    where
      of : (point : O.Point) (o : O.Operation) → slice_get D.object.points p ≡ Some point → slice_get D.object.operations point.operation ≡ Some o → length (asserts_at D p) * (length D.actions + 2) ≤ condition_limit
      of point o at is =
          (let size = ap (λ x. length (in_operation (λ q operation. stable_conditions D (Some p) (variable_count operation) (body_frame (first_system D) q (length operation.arguments)) (asserts_at D p)) point.operation x)) is
          ∙ stable_length D (passed_is_resolved D h) (Some p) (variable_count o) (body_frame (first_system D) point.operation (length o.arguments)) (asserts_at D p) in
          let one = place_within (point_stability D) 0 D.object.points p point at in
          let same : 0 + p ≡ p = omega arith in
          let here = ap (λ k. length (point_stability D k point)) same in
          let all = stays_few in
          subst (λ n. n ≤ condition_limit) size (omega (arith, one, here, all)))

      by : (k : Option O.Point) → slice_get D.object.points p ≡ k → length (asserts_at D p) * (length D.actions + 2) ≤ condition_limit
      by None at =
          (let none = ap (λ x. length (asserts_in x) * (length D.actions + 2)) (none_behind D.object.points D.outlines p (paths_few D t) at) in
          subst (λ n. n ≤ condition_limit) (sym none) (omega arith))
      by (Some point) at =
          (let f = found point (slice_get D.object.operations point.operation) (at_all (is_point D.object) D.object.points p point (right_true _ _ (passed_is_resolved D h).object) at) in of point f.0 at f.1)

  -- what is asserted at a point uses no more variables than code may have
  pub asserts_below : (p : ℕ) → Every (IsBelow code_variable_limit) (asserts_at D p)
  asserts_below p = by (slice_get D.object.points p) refl
    where
      by : (k : Option O.Point) → slice_get D.object.points p ≡ k → Every (IsBelow code_variable_limit) (asserts_at D p)
      by None at = subst (λ x. Every (IsBelow code_variable_limit) (asserts_in x)) (sym (none_behind D.object.points D.outlines p (paths_few D t) at)) tt
      by (Some point) at =
          (let f = found point (slice_get D.object.operations point.operation) (at_all (is_point D.object) D.object.points p point (right_true _ _ (passed_is_resolved D h).object) at) in
          below_more (variable_count f.0) code_variable_limit (asserts_at D p) (variables_few f.0 (operation_limited D h point.operation f.0 f.1)) ((passed_is_resolved D h).asserts p point f.0 at f.1))

  -- and what holds of idle clients
  pub idle_below : Every (IsBelow code_variable_limit) D.idle
  idle_below = below_more 2 code_variable_limit D.idle (omega arith) (passed_is_resolved D h).idle
