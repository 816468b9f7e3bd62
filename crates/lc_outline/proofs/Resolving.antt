-- What the test of a development tells.
use Rattle.std.proofs.Common.{◌≡◌, ℕ, zero, suc, ◌+◌, ◌<◌, ◌≤◌, Bool, true, ◌&&◌, ◌==◌, List, [], ◌∷◌, Some, None, Option, length, refl, sym, ap, ◌∙◌, subst, inl, inr, arith}
use Rattle.std.specs.Prelude.{slice_get, nat_le, nat_lt}
use Rattle.std.specs.List.{list_all}
use Rattle.std.proofs.lemmas.Bool.Decides.{nat_tests}
use Rattle.std.proofs.lemmas.Option.{same_Some}
use Rattle.std.proofs.lemmas.Bool.{eqb-true, leb-true}
use Rattle.lc_base.specs.Limits.{parameter_limit}
use Rattle.lc_lemmas.proofs.Booleans.{left_true, right_true}
use Rattle.lc_term.specs.Lists.{Every, IsIn}
use Rattle.lc_term.specs.Updates.{Update}
use Rattle.lc_term.specs.SystemColumns.{column_count}
use Rattle.lc_term.specs.Syntax.{Formula}
use Rattle.lc_seq.specs.Specification as Q
use Rattle.lc_seq.specs.Specification.{operation_is_resolved}
use Rattle.lc_object.specs.Syntax as O
use Rattle.lc_object.specs.Edges.{Edge, edges}
use Rattle.lc_object.specs.Places.{operation_at}
use Rattle.lc_object.specs.WellFormed.{is_object, variable_count}
use Rattle.lc_rider.specs.Rider.{Deed, Assign, Marks, Rider}
use Rattle.lc_action.specs.Action.{Action}
use Rattle.lc_outline.specs.Development.{Development, On, Outline, first_system, invariant_of, asserts_in, ons_in, on_at}
use Rattle.lc_outline.specs.Resolved.{IsBelow, IsTermBelow, AreArgumentsBelow, IsNonempty, AreMatched, IsAuxiliary, IsDeedResolved, IsConditionResolved, IsRiderResolved, IsOnResolved, IsResolved}
use Rattle.lc_outline.specs.Resolved.{is_empty, has_some, is_matched, are_matched, is_auxiliary, deed_is_resolved, condition_is_resolved, rider_is_resolved, takes, on_is_resolved, action_is_resolved, edge_is_resolved, code_is_resolved, sides_are_scoped, is_resolved}
use Rattle.lc_outline.specs.Scope.{is_scoped, outline_is_scoped, action_is_scoped, column_total, variables_at, outlines_are_scoped, IsScoped, IsTermScoped, IsUpdateScoped, IsOnScoped, IsOutlineScoped, IsActionScoped, AreScoped}
use Rattle.lc_outline.proofs.InScope as I
use Rattle.lc_outline.proofs.InScope.{list_all_every}
use Rattle.lc_outline.proofs.Scoped.{scoped_below, known_below}

-- ---- lists

pub every_weaker : {A : Type 0} (P Q : A → Type 0) → ((x : A) → P x → Q x) → (xs : List A) → Every P xs → Every Q xs
every_weaker P Q f [] h = tt
every_weaker P Q f (x ∷ xs) h = (f x h.0, every_weaker P Q f xs h.1)

among : {A : Type 0} (P : A → Type 0) (p : A → Bool) → ((x : A) → p x ≡ true → P x) → (xs : List A) → list_all p xs ≡ true → (x : A) → IsIn x xs → P x
among P p f [] h x i = absurd i
among P p f (y ∷ ys) h x (inl e) = f x (ap p e ∙ left_true (p y) (list_all p ys) h)
among P p f (y ∷ ys) h x (inr i) = among P p f ys (right_true (p y) (list_all p ys) h) x i

empty : {A : Type 0} (xs : List A) → is_empty xs ≡ true → xs ≡ []
empty [] h = refl
empty (x ∷ xs) h = absurd cc

nonempty : {A : Type 0} (xs : List A) → has_some xs ≡ true → IsNonempty xs
nonempty [] h = absurd cc
nonempty (x ∷ xs) h = tt

-- ---- operations

matched : (os : List O.Operation) (qs : List Q.Operation) → are_matched os qs ≡ true → AreMatched os qs
matched [] [] h = tt
matched [] (q ∷ qs) h = absurd cc
matched (o ∷ os) [] h = absurd cc
matched (o ∷ os) (q ∷ qs) h =
    let one = left_true (is_matched o q) (are_matched os qs) h in
    let rest = right_true (length o.arguments == length q.arguments) (o.replies == q.replies && has_some q.branches) one in
    let arguments = eqb-true (length o.arguments) (length q.arguments) (left_true (length o.arguments == length q.arguments) (o.replies == q.replies && has_some q.branches) one) in
    let replies = eqb-true o.replies q.replies (left_true (o.replies == q.replies) (has_some q.branches) rest) in
    let branches = nonempty q.branches (right_true (o.replies == q.replies) (has_some q.branches) rest) in
    (arguments, replies, branches, matched os qs (right_true (is_matched o q) (are_matched os qs) h))

module _ (D : Development) where
  -- ---- riders

  auxiliary : (c : ℕ) → is_auxiliary D c ≡ true → IsAuxiliary D c
  auxiliary c h =
      let a = left_true (nat_le (length D.specification.columns + length D.object.concretes) c) (nat_lt c (first_system D)) h in
      let b = right_true (nat_le (length D.specification.columns + length D.object.concretes) c) (nat_lt c (first_system D)) h in
      (grind (arith, nat_tests), grind (arith, nat_tests))

  deed : (o : ℕ) (d : Deed) → deed_is_resolved D o d ≡ true → IsDeedResolved D o d
  deed o (Assign u) h = auxiliary u.column h
  deed o (Marks k by) h = nonempty _ h

  condition : (f : Option Formula) → condition_is_resolved f ≡ true → IsConditionResolved f
  condition None h = tt
  condition (Some f) h = h

  rider : (o : ℕ) (r : Rider) → rider_is_resolved D o r ≡ true → IsRiderResolved D o r
  rider o r h = (
    condition r.condition (left_true (condition_is_resolved r.condition) (deed_is_resolved D o r.deed) h),
    deed o r.deed (right_true (condition_is_resolved r.condition) (deed_is_resolved D o r.deed) h),
  )

  -- ---- edges

  taken : (a : Option Action) (n : ℕ) → takes a n ≡ true → (x : Action) × (a ≡ Some x) × (n ≡ length x.parameters)
  taken None n h = absurd cc
  taken (Some a) n h = (a, refl, eqb-true n (length a.parameters) h)

  on : (o : ℕ) (e : Edge) (x : Option On) → on_is_resolved D o e x ≡ true → IsOnResolved D o e x
  on o e None h = empty e.updates h
  on o e (Some x) h = (
    taken (slice_get D.actions x.action) (length x.arguments) (left_true (takes (slice_get D.actions x.action) (length x.arguments)) (list_all (rider_is_resolved D o) x.riders) h),
    list_all_every (IsRiderResolved D o) (rider_is_resolved D o) (rider o) x.riders (right_true (takes (slice_get D.actions x.action) (length x.arguments)) (list_all (rider_is_resolved D o) x.riders) h),
  )

  -- ---- formulas

  below : (n : ℕ) (fs : List Formula) → Every (IsScoped (column_total D) n) fs → Every (IsBelow n) fs
  below n fs h = every_weaker (IsScoped (column_total D) n) (IsBelow n) (scoped_below (column_total D) n) fs h

  abbrev variables : O.Point → ℕ
  variables point = variables_at D.object (slice_get D.object.operations point.operation)

  -- the outline at a place where a point is
  abbrev HasOutline : Option Outline → ℕ → Type 0
  HasOutline found n = (x : Outline) × (found ≡ Some x) × IsOutlineScoped (column_total D) n x

  outlined : (points : List O.Point) (xs : List Outline) → outlines_are_scoped D points xs ≡ true → (k : ℕ) (point : O.Point) → slice_get points k ≡ Some point → HasOutline (slice_get xs k) (variables point)
  outlined [] xs h k point e = absurd cc
  outlined (p ∷ points) [] h k point e = absurd cc
  outlined (p ∷ points) (x ∷ xs) h zero point e =
      let here = I.outline (column_total D) (variables p) x (left_true (outline_is_scoped (column_total D) (variables p) x) (outlines_are_scoped D points xs) h) in
      (x, refl, subst (λ (q : O.Point). IsOutlineScoped (column_total D) (variables q) x) (same_Some p point e) here)
  outlined (p ∷ points) (x ∷ xs) h (suc k) point e =
      outlined points xs (right_true (outline_is_scoped (column_total D) (variables p) x) (outlines_are_scoped D points xs) h) k point e

  outlined_here : outlines_are_scoped D D.object.points D.outlines ≡ true → (p : ℕ) (point : O.Point) (o : O.Operation) → slice_get D.object.points p ≡ Some point → slice_get D.object.operations point.operation ≡ Some o →
      HasOutline (slice_get D.outlines p) (variable_count o)
  outlined_here h p point o here is = subst (HasOutline (slice_get D.outlines p)) (ap (variables_at D.object) is) (outlined D.object.points D.outlines h p point here)

  asserted : (found : Option Outline) (n : ℕ) → HasOutline found n → Every (IsBelow n) (asserts_in found)
  asserted found n (x, at, ok) = subst (λ o. Every (IsBelow n) (asserts_in o)) (sym at) (below n x.asserts ok.asserts)

  terms : (n : ℕ) (x : On) → IsOnScoped (column_total D) n x → AreArgumentsBelow n x
  terms n x h = every_weaker (IsTermScoped (column_total D) n) (IsTermBelow n) (known_below (column_total D) n) x.arguments h.arguments

  called : (found : Option Outline) (n : ℕ) → HasOutline found n → Every (AreArgumentsBelow n) (ons_in found)
  called found n (x, at, ok) =
      subst (λ o. Every (AreArgumentsBelow n) (ons_in o)) (sym at) (every_weaker (IsOnScoped (column_total D) n) (AreArgumentsBelow n) (terms n) x.ons ok.ons)

  -- ---- actions

  abbrev IsStored : Update → Type 0
  IsStored u = u.column < column_count (first_system D)

  in_scope : (a : Action) → action_is_resolved D a ≡ true → IsActionScoped (column_total D) a
  in_scope a h = I.action_in_scope (column_total D) a (right_true (nat_le (length a.parameters) parameter_limit) (action_is_scoped (column_total D) a) h)

  action : (a : Action) → action_is_resolved D a ≡ true → Every IsStored a.updates
  action a h = let n = 2 + length a.parameters in every_weaker (IsUpdateScoped (column_total D) n) IsStored (λ u e. e.column) a.updates (in_scope a h).updates

  three_at_most : (a : Action) → action_is_resolved D a ≡ true → length a.parameters ≤ parameter_limit
  three_at_most a h = leb-true (length a.parameters) parameter_limit (left_true (nat_le (length a.parameters) parameter_limit) (action_is_scoped (column_total D) a) h)

  -- ---- together

  record IsCodeResolved : Type 0 where
    object : is_object D.object ≡ true
    specification : list_all (operation_is_resolved (length D.specification.columns)) D.specification.operations ≡ true
    abstracts : (length D.object.abstracts == length D.specification.columns) ≡ true
    operations : are_matched D.object.operations D.specification.operations ≡ true

  code : code_is_resolved D ≡ true → IsCodeResolved
  code h =
      let a = is_object D.object in
      let b = list_all (operation_is_resolved (length D.specification.columns)) D.specification.operations in
      let c = length D.object.abstracts == length D.specification.columns in
      let d = are_matched D.object.operations D.specification.operations in
      record {
        object = left_true a b (left_true (a && b) c (left_true (a && b && c) d h));
        specification = right_true a b (left_true (a && b) c (left_true (a && b && c) d h));
        abstracts = right_true (a && b) c (left_true (a && b && c) d h);
        operations = right_true (a && b && c) d h;
      }

  record AreSidesScoped : Type 0 where
    invariant : Every (IsScoped (column_total D) 1) (invariant_of D)
    idle : Every (IsScoped (column_total D) 2) D.idle
    outlines : outlines_are_scoped D D.object.points D.outlines ≡ true

  sides : sides_are_scoped D ≡ true → AreSidesScoped
  sides h =
      let a = list_all (is_scoped (column_total D) 1) (invariant_of D) in
      let b = list_all (is_scoped (column_total D) 2) D.idle in
      let c = outlines_are_scoped D D.object.points D.outlines in
      record {
        invariant = list_all_every (IsScoped (column_total D) 1) (is_scoped (column_total D) 1) (λ f e. e) (invariant_of D) (left_true a b (left_true (a && b) c h));
        idle = list_all_every (IsScoped (column_total D) 2) (is_scoped (column_total D) 2) (λ f e. e) D.idle (right_true a b (left_true (a && b) c h));
        outlines = right_true (a && b) c h;
      }

  record AreAllResolved : Type 0 where
    code : code_is_resolved D ≡ true
    sides : sides_are_scoped D ≡ true
    actions : list_all (action_is_resolved D) D.actions ≡ true
    edges : list_all (edge_is_resolved D) (edges D.object) ≡ true

  all : is_resolved D ≡ true → AreAllResolved
  all h =
      let a = code_is_resolved D in
      let b = sides_are_scoped D in
      let c = list_all (action_is_resolved D) D.actions in
      let d = list_all (edge_is_resolved D) (edges D.object) in
      record {
        code = left_true a b (left_true (a && b) c (left_true (a && b && c) d h));
        sides = right_true a b (left_true (a && b) c (left_true (a && b && c) d h));
        actions = right_true (a && b) c (left_true (a && b && c) d h);
        edges = right_true (a && b && c) d h;
      }

-- A development that passes is resolved
pub passed_is_resolved : (D : Development) → is_resolved D ≡ true → IsResolved D
passed_is_resolved D h =
    let whole = all D h in
    let own = code D whole.code in
    let beside = sides D whole.sides in
    record {
      object = own.object;
      specification = own.specification;
      abstracts = eqb-true _ _ own.abstracts;
      operations = matched D.object.operations D.specification.operations own.operations;
      invariant = below D 1 (invariant_of D) beside.invariant;
      idle = below D 2 D.idle beside.idle;
      actions = list_all_every (λ (a : Action). Every (IsStored D) a.updates) (action_is_resolved D) (action D) D.actions whole.actions;
      parameters = list_all_every (λ (a : Action). length a.parameters ≤ parameter_limit) (action_is_resolved D) (three_at_most D) D.actions whole.actions;
      asserts = λ p point o here is. asserted D (slice_get D.outlines p) (variable_count o) (outlined_here D beside.outlines p point o here is);
      arguments = λ p point o here is. called D (slice_get D.outlines p) (variable_count o) (outlined_here D beside.outlines p point o here is);
      ons = λ e i. among (λ (x : Edge). IsOnResolved D (operation_at D.object x.point) x (on_at D x.point x.kind)) (edge_is_resolved D) (λ x. on D (operation_at D.object x.point) x (on_at D x.point x.kind)) (edges D.object) whole.edges e i;
    }

-- and uses only what is in scope
pub all_scoped : (D : Development) → is_resolved D ≡ true → AreScoped D
all_scoped D h =
    let whole = all D h in
    let beside = sides D whole.sides in
    record {
      invariant = beside.invariant;
      idle = beside.idle;
      actions = list_all_every (IsActionScoped (column_total D)) (action_is_resolved D) (in_scope D) D.actions whole.actions;
      outlines = outlined_here D beside.outlines;
    }
