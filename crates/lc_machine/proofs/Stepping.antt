-- The step of one client, from the effect of its instruction.
use Rattle.std.proofs.Common.{◌≡◌, ℕ, ℤ, ◌≤◌, true, List, [], ◌∷◌, arith, eq-eqb, length, Some, None, Option, refl, sym, ap, ◌∙◌, subst}
use Rattle.std.specs.Prelude.{slice_get, Result, Ok, Err}
use Rattle.std.proofs.lemmas.Bool.{eqb-true}
use Rattle.lc_term.specs.Meaning.{State}
use Rattle.lc_object.specs.Syntax.{Instr, Point, Object}
use Rattle.lc_machine.specs.World as W
use Rattle.lc_machine.specs.World.{Client, In, initial_numbers}
use Rattle.lc_term.specs.Updates.{Write, stored_all, AreWithin}
use Rattle.lc_machine.specs.Step.{Does}
use Rattle.lc_machine.specs.MayRun.{variables_at, variables_in}
use Rattle.lc_machine.specs.Placed.{is_placed, is_count}
use Rattle.lc_machine.specs.View.{variables_of}
use Rattle.lc_machine.specs.Moved.{IsAt, IsStepped}
use Rattle.lc_machine.specs.Effects.{writes_in, outcome_of, IsReached, IsEffect}
use Rattle.lc_machine.specs.declared.effects.Place.{Place}
use Rattle.lc_machine.specs.declared.effects.Effect.{Effect}
use Rattle.lc_machine.specs.declared.effects.Fate.TheVariants.{Goes, Answers}
use Rattle.lc_machine.specs.declared.client.Moved.{Moved}
use Rattle.lc_machine.specs.declared.client.Moved.TheVariants as M
use Rattle.lc_machine.specs.declared.fault.StepFault.{StepFault}
use Rattle.lc_machine.specs.declared.fault.StepFault.TheVariants.{NoClient, Busy, Idle, NoOp, Arity, Overflow, OutOfMemory}
use Rattle.std.specs.declared.vec.Vec.{Vec}
use Rattle.std.proofs.Common.{Global}

pub counted : (m : Option ℕ) (n : ℕ) → is_count m n ≡ true → m ≡ Some n
counted None n h = cc
counted (Some m) n h = ap Some (eqb-true m n h)

point_at : (object : Object) (p n : ℕ) (found : Option Point) → slice_get object.points p ≡ found → variables_in object found ≡ Some n → (point : Point) × (slice_get object.points p ≡ Some point)
point_at object p n None e h = cc
point_at object p n (Some point) e h = (point, e)

-- a client that is placed is at a point
pub placed_point : (object : Object) (p : ℕ) (variables : List ℤ) → is_placed object (In p variables) ≡ true → (point : Point) × (slice_get object.points p ≡ Some point)
placed_point object p variables h = point_at object p (length variables) (slice_get object.points p) refl (counted (variables_at object p) (length variables) h)

-- what the effect at a client's place is
abbrev pub IsEffectAt : Object → State → Place → Result Effect StepFault → Type 0
IsEffectAt object s place r = (point : Point) → slice_get object.points place.point.0 ≡ Some point → IsEffect object point.instruction s (variables_of place) r

at_place : (object : Object) (k : Client) (place : Place) (point : Point) → k ≡ In place.point.0 (variables_of place) → slice_get object.points place.point.0 ≡ Some point →
    IsAt object k place.point.0 (variables_of place) point.instruction
at_place object k place point e f = record { client_is = e; code = (point, f, refl) }

placed_at_place : (object : Object) (k : Client) (place : Place) → k ≡ In place.point.0 (variables_of place) → is_placed object k ≡ true →
    (point : Point) × (slice_get object.points place.point.0 ≡ Some point)
placed_at_place object k place e h = placed_point object place.point.0 (variables_of place) (ap (is_placed object) (sym e) ∙ h)

-- the effect of the instruction at the client's point
pub the_effect : (object : Object) (s : State) (place : Place) (k : Client) (r : Result Effect StepFault) → k ≡ In place.point.0 (variables_of place) → is_placed object k ≡ true → IsEffectAt object s place r →
    (point : Point) × IsAt object k place.point.0 (variables_of place) point.instruction × IsEffect object point.instruction s (variables_of place) r
the_effect object s place k r e h x =
    let at = placed_at_place object k place e h in
    (at.0, at_place object k place at.0 e at.1, x at.0 at.1)

-- what is stored belongs to the columns
pub effect_within : (object : Object) (s : State) (place : Place) (k : Client) (e : Effect) → k ≡ In place.point.0 (variables_of place) → is_placed object k ≡ true → IsEffectAt object s place (Ok e) →
    AreWithin (length (initial_numbers object)) (writes_in e)
effect_within object s place k e at h x = (the_effect object s place k (Ok e) at h x).2.3

pub more_within : (n m : ℕ) (ws : List Write) → AreWithin n ws → n ≤ m → AreWithin m ws
more_within n m [] h le = tt
more_within n m (w ∷ ws) h le = (omega (arith, h.0), more_within n m ws h.1 le)

-- a client that goes on is placed
pub fate_placed : (object : Object) (s : State) (place next : Place) (k : Client) (e : Effect) → k ≡ In place.point.0 (variables_of place) → is_placed object k ≡ true → IsEffectAt object s place (Ok e) →
    outcome_of (Goes next) ≡ outcome_of e.fate → is_placed object (In next.point.0 (variables_of next)) ≡ true
fate_placed object s place next k e at h x same =
    let there = subst (IsReached object) (sym same) (the_effect object s place k (Ok e) at h x).2.2 in
    ap (λ m. is_count m (length (variables_of next))) there ∙ eq-eqb (length (variables_of next)) (length (variables_of next)) refl

pub stepped_went : (object : Object) (s s' : State) (place next : Place) (k : Client) (e : Effect) → k ≡ In place.point.0 (variables_of place) → is_placed object k ≡ true → IsEffectAt object s place (Ok e) →
    s' ≡ stored_all s (writes_in e) → outcome_of (Goes next) ≡ outcome_of e.fate → IsStepped object s k s' (In next.point.0 (variables_of next)) (Ok (M.Went next.point e.edge))
stepped_went object s s' place next k e at h x stores same =
    let known = the_effect object s place k (Ok e) at h x in (
      place.point.0,
      variables_of place,
      known.0.instruction,
      variables_of next,
      known.1,
      known.2.0,
      subst (λ o. Does object s (variables_of place) known.0.instruction e.edge s' o) (sym same) (subst (λ t. Does object s (variables_of place) known.0.instruction e.edge t (outcome_of e.fate)) (sym stores) known.2.1),
      refl,
    )

pub stepped_returned : (object : Object) (s s' : State) (place : Place) (k : Client) (e : Effect) (reply : Vec ℤ Global) → k ≡ In place.point.0 (variables_of place) → is_placed object k ≡ true → IsEffectAt object s place (Ok e) →
    s' ≡ stored_all s (writes_in e) → outcome_of (Answers reply) ≡ outcome_of e.fate → IsStepped object s k s' W.Idle (Ok (M.Returned reply))
stepped_returned object s s' place k e reply at h x stores same =
    let known = the_effect object s place k (Ok e) at h x in (
      place.point.0,
      variables_of place,
      known.0.instruction,
      e.edge,
      known.1,
      known.2.0,
      subst (λ o. Does object s (variables_of place) known.0.instruction e.edge s' o) (sym same) (subst (λ t. Does object s (variables_of place) known.0.instruction e.edge t (outcome_of e.fate)) (sym stores) known.2.1),
      refl,
      subst (IsReached object) (sym same) known.2.2,
    )

stepped_fault : (object : Object) (s s' : State) (k k' : Client) (p : ℕ) (vs : List ℤ) (i : Instr) (f : StepFault) → IsAt object k p vs i → IsEffect object i s vs (Err f) → s' ≡ s → k' ≡ k →
    IsStepped object s k s' k' (Err f)
stepped_fault object s s' k k' p vs i NoClient at x e g = x
stepped_fault object s s' k k' p vs i Busy at x e g = x
stepped_fault object s s' k k' p vs i Idle at x e g = absurd x
stepped_fault object s s' k k' p vs i NoOp at x e g = x
stepped_fault object s s' k k' p vs i Arity at x e g = x
stepped_fault object s s' k k' p vs i Overflow at x e g = (p, vs, i, at, x, e, g)
stepped_fault object s s' k k' p vs i OutOfMemory at x e g = (p, vs, i, at, x, e, g)

-- an effect that there is not, and nothing changes
pub stepped_err : (object : Object) (s s' : State) (place : Place) (k k' : Client) (f : StepFault) (answer : Result Moved StepFault) → k ≡ In place.point.0 (variables_of place) → is_placed object k ≡ true →
    answer ≡ Err f → IsEffectAt object s place (Err f) → s' ≡ s → k' ≡ k → IsStepped object s k s' k' answer
stepped_err object s s' place k k' f answer at h gives x e g =
    let known = the_effect object s place k (Err f) at h x in
    rw gives (stepped_fault object s s' k k' place.point.0 (variables_of place) known.0.instruction f known.1 known.2 e g)

-- an effect that is not stored, since memory ran out
pub stepped_unstored : (object : Object) (s s' : State) (place : Place) (k k' : Client) (e : Effect) (answer : Result Moved StepFault) → k ≡ In place.point.0 (variables_of place) → is_placed object k ≡ true →
    answer ≡ Err OutOfMemory → IsEffectAt object s place (Ok e) → s' ≡ s → k' ≡ k → IsStepped object s k s' k' answer
stepped_unstored object s s' place k k' e answer at h gives x stays same =
    let known = the_effect object s place k (Ok e) at h x in
    rw gives (place.point.0, variables_of place, known.0.instruction, known.1, known.2.0, stays, same)
