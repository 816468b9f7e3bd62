-- Each condition of a resolved development has few variables.
use Rattle.std.proofs.Common.{◌≡◌, ℕ, zero, suc, ◌+◌, ◌≤◌, ◌&&◌, Bool, true, false, if◌then◌else◌, List, [], ◌∷◌, ◌++◌, map, length, Option, Some, None, refl, arith}
use Rattle.std.specs.Prelude.{slice_get, nat_le}
use Rattle.std.proofs.lemmas.Bool.Decides.{nat_tests}
use Rattle.lc_lemmas.proofs.Booleans.{left_true, right_true}
use Rattle.lc_base.specs.Limits.{local_limit, argument_limit, parameter_limit, reply_limit}
use Rattle.lc_term.specs.Lists.{Every, numbered, concat_map, concat_places}
use Rattle.lc_term.specs.Syntax.{Term, Column, Formula, Variable}
use Rattle.lc_term.specs.Said.{told}
use Rattle.lc_term.specs.SystemColumns.{column_count}
use Rattle.lc_term.proofs.Stores.{Every-append, Every-map}
use Rattle.lc_object.specs.Syntax.{Operation, Point, Object}
use Rattle.lc_object.specs.Edges.{Edge, edges}
use Rattle.lc_object.specs.WellFormed.{variable_count, has_limits, is_first, are_operations}
use Rattle.lc_object.proofs.ObjectParts.{operations_pass}
use Rattle.lc_action.specs.Action.{Action, enter, leave, post_columns}
use Rattle.lc_outline.specs.Development.{Development, On, first_system, invariant_of, all_actions, on_at, asserts_at, riders_in, asserts_to, in_operation, in_body}
use Rattle.lc_outline.specs.Resolved.{IsResolved}
use Rattle.lc_rider.specs.Paths.{edge_variables, Duty, Path, paths, path_start}
use Rattle.lc_cond.specs.Conditions.{Init, InitIdle, Entry, First, Reply, Invariant, NextKind, Head, Condition, conditions_from, conditions_of, at_start, at_entry, on_path, alone_on_path}
use Rattle.lc_cond.specs.Conditions.{range, idle_frame, body_frame, start_formula, start_conditions, entry_variables, entered, entry_conditions}
use Rattle.lc_cond.specs.Conditions.{at_end, reply_goals, is_base, same_column, column_condition, column_conditions, action_conditions, on_conditions, duty_condition, path_conditions, body_hypotheses}
use Rattle.lc_cond.specs.Conditions.{edge_conditions_in, edge_conditions, stable_under, stable_conditions, point_stability}
use Rattle.lc_cond.specs.VariableCounts.{HasFewVariables, AllHaveFewVariables}
use Rattle.lc_cond.proofs.Elements.{Every-places}
use Rattle.lc_cond.proofs.Sized.{every_at}

-- ---- lists

every_places : {A B : Type 0} (Q : B → Type 0) (f : ℕ → A → List B) (k : ℕ) (xs : List A) → ((j : ℕ) (x : A) → Every Q (f j x)) → Every Q (concat_places f k xs)
every_places Q f k [] h = tt
every_places Q f k (x ∷ xs) h = Every-append Q (f k x) (concat_places f (suc k) xs) (h k x) (every_places Q f (suc k) xs h)

every_each : {A B : Type 0} (Q : B → Type 0) (f : A → List B) (xs : List A) → ((x : A) → Every Q (f x)) → Every Q (concat_map f xs)
every_each Q f [] h = tt
every_each Q f (x ∷ xs) h = Every-append Q (f x) (concat_map f xs) (h x) (every_each Q f xs h)

every_numbered : {A B : Type 0} (P : A → Type 0) (Q : B → Type 0) (f : ℕ → A → B) (k : ℕ) (xs : List A) → ((j : ℕ) (x : A) → P x → Q (f j x)) → Every P xs → Every Q (numbered f k xs)
every_numbered P Q f k [] h g = tt
every_numbered P Q f k (x ∷ xs) h g = (h k x g.0, every_numbered P Q f (suc k) xs h g.1)

-- ---- operations and actions

abbrev IsSmall : Operation → Type 0
IsSmall o = variable_count o ≤ 21

small : (o : Operation) → has_limits o ≡ true → IsSmall o
small o h =
    let two = left_true (nat_le (length o.arguments) argument_limit && nat_le o.replies reply_limit) (nat_le (length o.locals) local_limit) h in
    let a = left_true (nat_le (length o.arguments) argument_limit) (nat_le o.replies reply_limit) two in
    let b = right_true (nat_le (length o.arguments) argument_limit && nat_le o.replies reply_limit) (nat_le (length o.locals) local_limit) h in
    let arguments : length o.arguments ≤ argument_limit = grind (arith, nat_tests) in
    let locals : length o.locals ≤ local_limit = grind (arith, nat_tests) in
    omega (arith, arguments, locals)

all_small : (object : Object) (n : ℕ) (os : List Operation) → are_operations object n os ≡ true → Every IsSmall os
all_small object n [] h = tt
all_small object n (o ∷ os) h =
    let here = left_true (has_limits o && is_first object.points n o.entry) (are_operations object (suc n) os) h in
    let others = right_true (has_limits o && is_first object.points n o.entry) (are_operations object (suc n) os) h in
    (small o (left_true (has_limits o) (is_first object.points n o.entry) here), all_small object (suc n) os others)

abbrev TakesFew : Action → Type 0
TakesFew a = length a.parameters ≤ 4

all_take_few : (D : Development) → IsResolved D → Every TakesFew (all_actions D)
all_take_few D X =
    Every-append TakesFew D.actions (enter (first_system D) ∷ leave (first_system D) ∷ [])
    (Every-map (λ (a : Action). length a.parameters ≤ parameter_limit) TakesFew D.actions (λ a h. omega (arith, h)) X.parameters) (omega arith, (omega arith, tt))

-- ---- conditions that share their head

few_from : (x : Head) (hs : List Formula) (k : ℕ) (goals : List Formula) → x.variables ≤ 26 → Every HasFewVariables (conditions_from x hs k goals)
few_from x hs k [] few = tt
few_from x hs k (g ∷ goals) few = (few, few_from x hs (suc k) goals few)

few_of : (x : Head) (hs goals : List Formula) → x.variables ≤ 26 → Every HasFewVariables (conditions_of x hs goals)
few_of x hs goals few = few_from x hs 0 goals few

start_few : (D : Development) → Every HasFewVariables (start_conditions D)
start_few D =
    Every-append HasFewVariables (conditions_of (at_start Init 1) _ (map (start_formula D) (invariant_of D))) _
    (few_of (at_start Init 1) _ (map (start_formula D) (invariant_of D)) (omega arith)) (few_of (at_start InitIdle 2) (range (Variable 1)) (map (start_formula D) D.idle) (omega arith))

entry_few : (D : Development) (o : ℕ) (operation : Operation) → IsSmall operation → Every HasFewVariables (entry_conditions D o operation)
entry_few D o operation h =
    let hs = range (Variable 1) ++ (idle_frame (first_system D) ++ (invariant_of D ++ D.idle)) in
    let few : 2 + length operation.arguments ≤ 26 = omega (arith, h) in
    Every-append HasFewVariables (conditions_of (at_entry Entry operation) hs (map (told (entered (first_system D) o operation) (entry_variables operation)) (invariant_of D))) _
    (few_of (at_entry Entry operation) hs _ few) (few_of (at_entry First operation) hs _ few)

-- ---- edges

module _ (D : Development) (e : Edge) (n : ℕ) (few : n ≤ 26) where
  none_or_one : (b : Bool) (c : Condition) → HasFewVariables c → Every HasFewVariables (if b then [] else c ∷ [])
  none_or_one true c h = tt
  none_or_one false c h = (h, tt)

  columns_few : (j : ℕ) (hs : List Formula) (c count : ℕ) (σ π : ℕ → Column) → Every HasFewVariables (column_conditions (column_condition e n j hs) c count σ π)
  columns_few j hs c zero σ π = tt
  columns_few j hs c (suc count) σ π =
      let one = column_condition e n j hs c (same_column (σ c) (π c)) in
      Every-append HasFewVariables (if is_base c (σ c) && is_base c (π c) then [] else one ∷ []) (column_conditions (column_condition e n j hs) (suc c) count σ π)
      (none_or_one (is_base c (σ c) && is_base c (π c)) one few) (columns_few j hs (suc c) count σ π)

  action_few : (j : ℕ) (hs : List Formula) (σ : ℕ → Column) (ts : List Term) (a : Option Action) → Every HasFewVariables (action_conditions D e n j hs σ ts a)
  action_few j hs σ ts None = tt
  action_few j hs σ ts (Some a) = (few, columns_few j hs 0 (column_count (first_system D)) σ (post_columns a (Variable 1) ts))

  on_few : (j : ℕ) (hs : List Formula) (σ : ℕ → Column) (on : Option On) → Every HasFewVariables (on_conditions D e n j hs σ on)
  on_few j hs σ None = tt
  on_few j hs σ (Some x) = action_few j hs σ x.arguments (slice_get D.actions x.action)

  duties_few : (j : ℕ) (hs : List Formula) (ds : List Duty) → Every HasFewVariables (map (duty_condition e n j hs) ds)
  duties_few j hs [] = tt
  duties_few j hs (d ∷ ds) = (few, duties_few j hs ds)

  path_few : (on : Option On) (hs : List Formula) (j : ℕ) (p : Path) → Every HasFewVariables (path_conditions D e n on hs j p)
  path_few on hs j p =
      let first = first_system D in
      let τ = edge_variables n e in
      let all = hs ++ p.facts in
      let σ = at_end first e.next p.columns in
      Every-append HasFewVariables (map (duty_condition e n j hs) p.duties) _ (duties_few j hs p.duties)
      (Every-append HasFewVariables (conditions_of (alone_on_path Reply e n j) all (map (told p.columns τ) (reply_goals first e))) _ (few_of (alone_on_path Reply e n j) all _ few)
      (Every-append HasFewVariables (conditions_of (on_path Invariant e n j) all (map (told σ τ) (invariant_of D))) _ (few_of (on_path Invariant e n j) all _ few)
      (Every-append HasFewVariables (conditions_of (on_path NextKind e n j) all (map (told σ τ) (asserts_to D e.next))) _ (few_of (on_path NextKind e n j) all _ few) (on_few j all σ on))))

module _ (D : Development) (X : IsResolved D) where
  operations_small : Every IsSmall D.object.operations
  operations_small = all_small D.object 0 D.object.operations (operations_pass D.object X.object)

  small_at : (k : ℕ) (o : Operation) → slice_get D.object.operations k ≡ Some o → IsSmall o
  small_at k o is = every_at IsSmall D.object.operations k o operations_small is

  edge_in_few : (o : ℕ) (operation : Operation) (e : Edge) → IsSmall operation → Every HasFewVariables (edge_conditions_in D o operation e)
  edge_in_few o operation e h =
      let n = variable_count operation in
      let on = on_at D e.point e.kind in
      let hs = body_hypotheses D o operation e.point ++ e.facts in
      every_places HasFewVariables (path_conditions D e n on hs) 0 (paths D.specification.operations (first_system D) 0 o (edge_variables n e) (riders_in on) (path_start e))
      (path_few D e n (omega (arith, h)) on hs)

  edge_few : (e : Edge) → Every HasFewVariables (edge_conditions D e)
  edge_few e = at_point (slice_get D.object.points e.point) where
    at_operation : (k : ℕ) (found : Option Operation) → slice_get D.object.operations k ≡ found → Every HasFewVariables (in_operation (λ o operation. edge_conditions_in D o operation e) k found)
    at_operation k None is = tt
    at_operation k (Some o) is = edge_in_few k o e (small_at k o is)

    at_point : (found : Option Point) → Every HasFewVariables (in_body D.object (λ o operation. edge_conditions_in D o operation e) found)
    at_point None = tt
    at_point (Some point) = at_operation point.operation (slice_get D.object.operations point.operation) refl

  -- ---- stability

  stability_few : (point : Option ℕ) (n : ℕ) (frame asserts : List Formula) → n ≤ 21 → Every HasFewVariables (stable_conditions D point n frame asserts)
  stability_few point n frame asserts few =
      let hs = frame ++ (invariant_of D ++ asserts) in
      every_places HasFewVariables (λ k f. numbered (stable_under D point n hs k f) 0 (all_actions D)) 0 asserts
      (λ k f. every_numbered TakesFew HasFewVariables (stable_under D point n hs k f) 0 (all_actions D) (λ i a h. omega (arith, few, h)) (all_take_few D X))

  point_few : (p : ℕ) (point : Point) → Every HasFewVariables (point_stability D p point)
  point_few p point = at_operation (slice_get D.object.operations point.operation) refl where
    at_operation : (found : Option Operation) → slice_get D.object.operations point.operation ≡ found →
        Every HasFewVariables (in_operation (λ o operation. stable_conditions D (Some p) (variable_count operation) (body_frame (first_system D) o (length operation.arguments)) (asserts_at D p)) point.operation found)
    at_operation None is = tt
    at_operation (Some o) is = stability_few (Some p) (variable_count o) (body_frame (first_system D) point.operation (length o.arguments)) (asserts_at D p) (small_at point.operation o is)

  -- ---- the list

  pub have_few_variables : AllHaveFewVariables D
  have_few_variables =
      Every-append HasFewVariables (start_conditions D) _ (start_few D)
      (Every-append HasFewVariables (concat_places (entry_conditions D) 0 D.object.operations) _ (Every-places IsSmall HasFewVariables (entry_conditions D) 0 D.object.operations (entry_few D) operations_small)
      (Every-append HasFewVariables (concat_map (edge_conditions D) (edges D.object)) _ (every_each HasFewVariables (edge_conditions D) (edges D.object) edge_few)
      (Every-append HasFewVariables (concat_places (point_stability D) 0 D.object.points) _ (every_places HasFewVariables (point_stability D) 0 D.object.points point_few)
      (stability_few None 2 (idle_frame (first_system D)) D.idle (omega arith)))))
