-- What a development's type keeps: names are resolved, and who may write what.
use Rattle.std.specs.Prelude.{◌≡◌, ℕ, ◌+◌, ◌<◌, ◌≤◌, Bool, true, false, ◌&&◌, ◌==◌, nat_le, nat_lt, List, [], ◌∷◌, Option, Some, None, length, slice_get}
use Rattle.std.specs.List.{list_all}
use Rattle.lc_base.specs.Limits.{parameter_limit}
use Rattle.lc_term.specs.Updates.{Update}
use Rattle.lc_term.specs.Syntax.{Term, Formula}
use Rattle.lc_term.specs.Places.{Test, term_passes, passes}
use Rattle.lc_term.specs.Truth.{is_ground}
use Rattle.lc_seq.specs.Specification as Q
use Rattle.lc_seq.specs.Specification.{operation_is_resolved, chosen}
use Rattle.lc_object.specs.Syntax as O
use Rattle.lc_object.specs.Edges.{Edge, edges}
use Rattle.lc_object.specs.WellFormed.{is_object, variable_count}
use Rattle.lc_term.specs.Lists.{IsIn}
use Rattle.lc_term.specs.Lists.{Every}
use Rattle.lc_seq.specs.Branches.{op_branches}
use Rattle.lc_object.specs.Places.{operation_at}
use Rattle.lc_term.specs.SystemColumns.{column_count}
use Rattle.lc_rider.specs.Rider.{Deed, Assign, Marks, Rider}
use Rattle.lc_action.specs.Action.{Action}
use Rattle.lc_rider.specs.Paths.{marked_op}
use Rattle.lc_outline.specs.Development.{Development, On, first_system, invariant_of, ons_at, on_at, asserts_at}
use Rattle.lc_outline.specs.Scope.{is_scoped, action_is_scoped, column_total, outlines_are_scoped, AreScoped}

-- free variables below n
abbrev pub variables_below : ℕ → Test
variables_below n = record { columns = λ c. true; variables = λ k. nat_lt k n; bounds = λ k. true }

abbrev pub IsBelow : ℕ → Formula → Type 0
IsBelow n f = passes (λ k. variables_below n) 0 f ≡ true

abbrev pub IsTermBelow : ℕ → Term → Type 0
IsTermBelow n t = term_passes (variables_below n) t ≡ true

-- there is one at least
abbrev pub IsNonempty : {A : Type 0} → List A → Type 0
IsNonempty [] = ⊥
IsNonempty (x ∷ xs) = Unit {0}

-- operations of the object and of the specification, in one order
abbrev pub AreMatched : List O.Operation → List Q.Operation → Type 0
AreMatched [] [] = Unit {0}
AreMatched [] (q ∷ qs) = ⊥
AreMatched (o ∷ os) [] = ⊥
AreMatched (o ∷ os) (q ∷ qs) = (length o.arguments ≡ length q.arguments) × (o.replies ≡ q.replies) × IsNonempty q.branches × AreMatched os qs

-- a rider's own store goes to an auxiliary column
abbrev pub IsAuxiliary : Development → ℕ → Type 0
IsAuxiliary D c = (length D.specification.columns + length D.object.concretes ≤ c) × (c < first_system D)

abbrev pub IsDeedResolved : Development → ℕ → Deed → Type 0
IsDeedResolved D o (Assign u) = IsAuxiliary D u.column
IsDeedResolved D o (Marks k by) = IsNonempty (chosen by (op_branches D.specification.operations (marked_op o k)))

abbrev pub IsConditionResolved : Option Formula → Type 0
IsConditionResolved None = Unit {0}
IsConditionResolved (Some f) = is_ground f ≡ true

abbrev pub IsRiderResolved : Development → ℕ → Rider → Type 0
IsRiderResolved D o r = IsConditionResolved r.condition × IsDeedResolved D o r.deed

-- an edge that stores needs an action; so does one with riders, by the grammar
abbrev pub IsOnResolved : Development → ℕ → Edge → Option On → Type 0
IsOnResolved D o e None = e.updates ≡ []
IsOnResolved D o e (Some x) = ((a : Action) × (slice_get D.actions x.action ≡ Some a) × (length x.arguments ≡ length a.parameters)) × Every (IsRiderResolved D o) x.riders

-- the arguments of the action at an edge
abbrev pub AreArgumentsBelow : ℕ → On → Type 0
AreArgumentsBelow n x = Every (IsTermBelow n) x.arguments

pub record IsResolved (D : Development) : Type 0 where
  pub object : is_object D.object ≡ true
  pub specification : list_all (operation_is_resolved (length D.specification.columns)) D.specification.operations ≡ true
  pub abstracts : length D.object.abstracts ≡ length D.specification.columns
  pub operations : AreMatched D.object.operations D.specification.operations
  pub invariant : Every (IsBelow 1) (invariant_of D)
  pub idle : Every (IsBelow 2) D.idle
  pub actions : Every (λ (a : Action). Every (λ (u : Update). u.column < column_count (first_system D)) a.updates) D.actions
  pub parameters : Every (λ (a : Action). length a.parameters ≤ parameter_limit) D.actions
  pub asserts : (p : ℕ) (point : O.Point) (o : O.Operation) → slice_get D.object.points p ≡ Some point → slice_get D.object.operations point.operation ≡ Some o → Every (IsBelow (variable_count o)) (asserts_at D p)
  pub arguments : (p : ℕ) (point : O.Point) (o : O.Operation) → slice_get D.object.points p ≡ Some point → slice_get D.object.operations point.operation ≡ Some o → Every (AreArgumentsBelow (variable_count o)) (ons_at D p)
  pub ons : (e : Edge) → IsIn e (edges D.object) → IsOnResolved D (operation_at D.object e.point) e (on_at D e.point e.kind)

-- ---- the same as a test

abbrev pub is_empty : {A : Type 0} → List A → Bool
is_empty [] = true
is_empty (x ∷ xs) = false

abbrev pub has_some : {A : Type 0} → List A → Bool
has_some [] = false
has_some (x ∷ xs) = true

-- an operation takes and gives the same, and has a branch
abbrev pub is_matched : O.Operation → Q.Operation → Bool
is_matched o q = length o.arguments == length q.arguments && (o.replies == q.replies && has_some q.branches)

abbrev pub are_matched : List O.Operation → List Q.Operation → Bool
are_matched [] [] = true
are_matched (o ∷ os) (q ∷ qs) = is_matched o q && are_matched os qs
are_matched _ _ = false

abbrev pub is_auxiliary : Development → ℕ → Bool
is_auxiliary D c = nat_le (length D.specification.columns + length D.object.concretes) c && nat_lt c (first_system D)

abbrev pub deed_is_resolved : Development → ℕ → Deed → Bool
deed_is_resolved D o (Assign u) = is_auxiliary D u.column
deed_is_resolved D o (Marks k by) = has_some (chosen by (op_branches D.specification.operations (marked_op o k)))

abbrev pub condition_is_resolved : Option Formula → Bool
condition_is_resolved None = true
condition_is_resolved (Some f) = is_ground f

abbrev pub rider_is_resolved : Development → ℕ → Rider → Bool
rider_is_resolved D o r = condition_is_resolved r.condition && deed_is_resolved D o r.deed

-- there is an action, and it has n parameters
abbrev pub takes : Option Action → ℕ → Bool
takes None n = false
takes (Some a) n = n == length a.parameters

abbrev pub on_is_resolved : Development → ℕ → Edge → Option On → Bool
on_is_resolved D o e None = is_empty e.updates
on_is_resolved D o e (Some x) = takes (slice_get D.actions x.action) (length x.arguments) && list_all (rider_is_resolved D o) x.riders

-- an action has three parameters at most
abbrev pub action_is_resolved : Development → Action → Bool
action_is_resolved D a = nat_le (length a.parameters) parameter_limit && action_is_scoped (column_total D) a

abbrev pub edge_is_resolved : Development → Edge → Bool
edge_is_resolved D e = on_is_resolved D (operation_at D.object e.point) e (on_at D e.point e.kind)

-- specification and object agree
abbrev pub code_is_resolved : Development → Bool
code_is_resolved D =
    is_object D.object && list_all (operation_is_resolved (length D.specification.columns)) D.specification.operations
    && length D.object.abstracts == length D.specification.columns && are_matched D.object.operations D.specification.operations

-- the riders, assertions and invariant, but not the actions, use only what is in scope
abbrev pub sides_are_scoped : Development → Bool
sides_are_scoped D =
    list_all (is_scoped (column_total D) 1) (invariant_of D) && list_all (is_scoped (column_total D) 2) D.idle
    && outlines_are_scoped D D.object.points D.outlines

-- All names are resolved, and only what may be is written
abbrev pub is_resolved : Development → Bool
is_resolved D = code_is_resolved D && sides_are_scoped D && list_all (action_is_resolved D) D.actions && list_all (edge_is_resolved D) (edges D.object)

-- what passes is resolved
abbrev pub WhatPassesIsResolved : Type 0
WhatPassesIsResolved = (D : Development) → is_resolved D ≡ true → IsResolved D

-- and speaks only of columns and variables that there are
abbrev pub WhatPassesIsScoped : Type 0
WhatPassesIsScoped = (D : Development) → is_resolved D ≡ true → AreScoped D
