-- Developments: a specification, an object, and why the object meets the specification.
use Rattle.std.specs.Prelude.{ℕ, ◌+◌, Bool, true, false, List, [], ◌∷◌, ◌++◌, ℤ, Option, Some, None, map, length, slice_get, if◌then◌else◌}
use Rattle.lc_term.specs.Syntax.{Term, Formula}
use Rattle.lc_term.specs.Meaning.{State}
use Rattle.lc_term.specs.State.{initial_state}
use Rattle.lc_seq.specs.Specification as Q
use Rattle.lc_seq.specs.Specification.{Specification}
use Rattle.lc_object.specs.Syntax.{Point, Object}
use Rattle.lc_object.specs.Syntax as O
use Rattle.lc_object.specs.declared.instr.EdgeKind.{EdgeKind}
use Rattle.lc_object.specs.declared.instr.EdgeKind.TheVariants.{Next, Then, Else}
use Rattle.lc_rider.specs.Rider.{Rider}
use Rattle.lc_action.specs.Action.{Action, enter, leave}
use Rattle.lc_tie.specs.Tie.{Conjunct, formulas_of}

-- at an edge: a declared action with its arguments, and the riders
pub record On : Type 0 where
  pub edge : EdgeKind
  pub action : ℕ
  pub arguments : List Term
  pub riders : List Rider

-- at a point: what holds there, and what is at its edges
pub record Outline : Type 0 where
  pub asserts : List Formula
  pub ons : List On

-- The specification's columns are the first, then the object's, then the auxiliary ones, then the system columns.
-- `outlines` has one outline for each point of the object
pub record Development : Type 0 where
  pub specification : Specification
  pub object : Object
  pub auxiliaries : List Q.Column
  pub actions : List Action
  pub conjuncts : List Conjunct
  pub idle : List Formula
  pub outlines : List Outline

-- the number of the first system column
abbrev pub first_system : Development → ℕ
first_system D = length D.specification.columns + (length D.object.concretes + length D.auxiliaries)

abbrev pub invariant_of : Development → List Formula
invariant_of D = formulas_of D.conjuncts

-- what other clients may do: the declared actions, and those of calls that begin and end
abbrev pub all_actions : Development → List Action
all_actions D = D.actions ++ enter (first_system D) ∷ leave (first_system D) ∷ []

-- the two numbers of each column
abbrev pub start_numbers : Development → List (ℤ × ℤ)
start_numbers D =
    map (λ (c : Q.Column). (c.slope, c.start)) D.specification.columns
    ++ (map (λ (c : O.Column). (c.slope, c.start)) D.object.concretes ++ map (λ (c : Q.Column). (c.slope, c.start)) D.auxiliaries)

-- nothing is written; system columns are 0
abbrev pub start_columns : Development → State
start_columns D = initial_state (start_numbers D)

abbrev pub same_kind : EdgeKind → EdgeKind → Bool
same_kind Next Next = true
same_kind Then Then = true
same_kind Else Else = true
same_kind _ _ = false

abbrev pub on_for : List On → EdgeKind → Option On
on_for [] kind = None
on_for (x ∷ xs) kind = if same_kind x.edge kind then Some x else on_for xs kind

abbrev pub ons_in : Option Outline → List On
ons_in None = []
ons_in (Some x) = x.ons

abbrev pub asserts_in : Option Outline → List Formula
asserts_in None = []
asserts_in (Some x) = x.asserts

abbrev pub ons_at : Development → ℕ → List On
ons_at D p = ons_in (slice_get D.outlines p)

abbrev pub on_at : Development → ℕ → EdgeKind → Option On
on_at D p kind = on_for (ons_in (slice_get D.outlines p)) kind

abbrev pub asserts_at : Development → ℕ → List Formula
asserts_at D p = asserts_in (slice_get D.outlines p)

abbrev pub riders_in : Option On → List Rider
riders_in None = []
riders_in (Some x) = x.riders

abbrev pub riders_at : Development → ℕ → EdgeKind → List Rider
riders_at D p kind = riders_in (on_at D p kind)

-- what holds where an edge leads: at this point, or of an idle client
abbrev pub asserts_to : Development → Option ℕ → List Formula
asserts_to D (Some q) = asserts_at D q
asserts_to D None = D.idle

-- what is made of the operation of this number, if there is one
abbrev pub in_operation : {A : Type 0} → (ℕ → O.Operation → List A) → ℕ → Option O.Operation → List A
in_operation f o None = []
in_operation f o (Some operation) = f o operation

-- what is made of the operation whose body this point is in
abbrev pub in_body : {A : Type 0} → Object → (ℕ → O.Operation → List A) → Option Point → List A
in_body object f None = []
in_body object f (Some p) = in_operation f p.operation (slice_get object.operations p.operation)
