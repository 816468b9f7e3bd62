-- Scope: the columns and variables that the terms and formulas of a development may use.
use Rattle.std.specs.Prelude.{◌≡◌, ℕ, ◌+◌, ◌<◌, Bool, true, false, ◌&&◌, nat_lt, List, [], ◌∷◌, Option, Some, None, length, slice_get}
use Rattle.std.specs.List.{list_all}
use Rattle.lc_term.specs.Lists.{Every}
use Rattle.lc_term.specs.Places.{Test, known, is_known, term_passes, passes}
use Rattle.lc_term.specs.Syntax.{Term, Formula}
use Rattle.lc_term.specs.SystemColumns.{column_count}
use Rattle.lc_term.specs.Truth.{is_ground}
use Rattle.lc_term.specs.Updates.{Update}
use Rattle.lc_seq.specs.Sequential.{given_in}
use Rattle.lc_seq.specs.Specification.{update_is_resolved}
use Rattle.lc_object.specs.Syntax as O
use Rattle.lc_object.specs.WellFormed.{variable_count}
use Rattle.lc_rider.specs.Rider.{Marking, Own, Other, Note, Deed, Assign, Marks, Rider}
use Rattle.lc_action.specs.Action.{Action}
use Rattle.lc_outline.specs.Development.{Development, On, Outline, first_system, invariant_of}

-- with these numbers of columns and variables in scope, and n quantifiers around: those, and the variables of these quantifiers
abbrev pub scope : ℕ → ℕ → ℕ → Test
scope columns variables n = record { columns = λ c. nat_lt c columns; variables = λ k. nat_lt k variables; bounds = λ k. nat_lt k n }

-- a formula uses only what is in scope
abbrev pub is_scoped : ℕ → ℕ → Formula → Bool
is_scoped columns variables f = passes (scope columns variables) 0 f

-- so does a term, with no quantifier around it
abbrev pub term_is_scoped : ℕ → ℕ → Term → Bool
term_is_scoped columns variables t = term_passes (known columns variables) t

module _ (columns variables : ℕ) where
  abbrev pub IsScoped : Formula → Type 0
  IsScoped f = is_scoped columns variables f ≡ true

  abbrev pub IsTermScoped : Term → Type 0
  IsTermScoped t = term_is_scoped columns variables t ≡ true

  pub record IsUpdateScoped (u : Update) : Type 0 where
    pub column : u.column < columns
    pub index : IsTermScoped u.index
    pub value : IsTermScoped u.value

  -- a term may say whose call is marked
  abbrev pub IsMarkingScoped : Marking → Type 0
  IsMarkingScoped Own = Unit {0}
  IsMarkingScoped (Other t p) = IsTermScoped t
  IsMarkingScoped Note = Unit {0}

  -- a mark has terms for the parameters of its choice
  abbrev pub IsDeedScoped : Deed → Type 0
  IsDeedScoped (Assign u) = IsUpdateScoped u
  IsDeedScoped (Marks k by) = IsMarkingScoped k × Every IsTermScoped (given_in by)

  abbrev pub IsConditionScoped : Option Formula → Type 0
  IsConditionScoped None = Unit {0}
  IsConditionScoped (Some f) = IsScoped f

  abbrev pub IsRiderScoped : Rider → Type 0
  IsRiderScoped r = IsConditionScoped r.condition × IsDeedScoped r.deed

  -- what is at an edge uses only what is in scope
  pub record IsOnScoped (x : On) : Type 0 where
    pub arguments : Every IsTermScoped x.arguments
    pub riders : Every IsRiderScoped x.riders

  -- and at a point
  pub record IsOutlineScoped (x : Outline) : Type 0 where
    pub asserts : Every IsScoped x.asserts
    pub ons : Every IsOnScoped x.ons

-- the variables of an action are the number of clients, the actor, and the parameters
pub record IsActionScoped (columns : ℕ) (a : Action) : Type 0 where
  pub guard : IsScoped columns (2 + length a.parameters) a.guard
  pub updates : Every (IsUpdateScoped columns (2 + length a.parameters)) a.updates

-- all columns of a development, with those of the system
abbrev pub column_total : Development → ℕ
column_total D = column_count (first_system D)

-- Every term and formula beside the code uses only columns and variables that exist: the invariant the number of clients, what
-- holds of an idle client also that client, and what is at a point the variables of its operation
pub record AreScoped (D : Development) : Type 0 where
  pub invariant : Every (IsScoped (column_total D) 1) (invariant_of D)
  pub idle : Every (IsScoped (column_total D) 2) D.idle
  pub actions : Every (IsActionScoped (column_total D)) D.actions
  pub outlines : (p : ℕ) (point : O.Point) (o : O.Operation) → slice_get D.object.points p ≡ Some point → slice_get D.object.operations point.operation ≡ Some o →
      (x : Outline) × (slice_get D.outlines p ≡ Some x) × IsOutlineScoped (column_total D) (variable_count o) x

-- without quantifiers such a formula can be computed
abbrev pub WhatIsScopedIsKnown : Type 0
WhatIsScopedIsKnown = (columns variables : ℕ) (f : Formula) → is_ground f ≡ true → IsScoped columns variables f → is_known columns variables f ≡ true

-- ---- the same as a test

abbrev pub marking_is_scoped : ℕ → ℕ → Marking → Bool
marking_is_scoped columns variables Own = true
marking_is_scoped columns variables (Other t p) = term_is_scoped columns variables t
marking_is_scoped columns variables Note = true

abbrev pub deed_is_scoped : ℕ → ℕ → Deed → Bool
deed_is_scoped columns variables (Assign u) = update_is_resolved columns variables u
deed_is_scoped columns variables (Marks k by) = marking_is_scoped columns variables k && list_all (term_is_scoped columns variables) (given_in by)

abbrev pub condition_is_scoped : ℕ → ℕ → Option Formula → Bool
condition_is_scoped columns variables None = true
condition_is_scoped columns variables (Some f) = is_scoped columns variables f

abbrev pub rider_is_scoped : ℕ → ℕ → Rider → Bool
rider_is_scoped columns variables r = condition_is_scoped columns variables r.condition && deed_is_scoped columns variables r.deed

abbrev pub on_is_scoped : ℕ → ℕ → On → Bool
on_is_scoped columns variables x = list_all (term_is_scoped columns variables) x.arguments && list_all (rider_is_scoped columns variables) x.riders

abbrev pub outline_is_scoped : ℕ → ℕ → Outline → Bool
outline_is_scoped columns variables x = list_all (is_scoped columns variables) x.asserts && list_all (on_is_scoped columns variables) x.ons

abbrev pub action_is_scoped : ℕ → Action → Bool
action_is_scoped columns a =
    is_scoped columns (2 + length a.parameters) a.guard && list_all (update_is_resolved columns (2 + length a.parameters)) a.updates

-- the variables of an operation, if there is one
abbrev pub variables_at : O.Object → Option O.Operation → ℕ
variables_at object None = 0
variables_at object (Some o) = variable_count o

-- there is one outline for each of these points, which uses the variables of the point's operation
abbrev pub outlines_are_scoped : Development → List O.Point → List Outline → Bool
outlines_are_scoped D [] [] = true
outlines_are_scoped D (point ∷ points) (x ∷ xs) =
    outline_is_scoped (column_total D) (variables_at D.object (slice_get D.object.operations point.operation)) x && outlines_are_scoped D points xs
outlines_are_scoped D _ _ = false
