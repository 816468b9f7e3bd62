-- The theorems.
use Rattle.std.specs.Prelude.{◌≡◌, ℕ, ◌<◌, ◌⊎◌, List, [], ◌∷◌, ◌++◌, ℤ, pos, Option, Some, None, map, length, slice_get}
use Rattle.lc_term.specs.Updates.{variable}
use Rattle.lc_machine.specs.Runs.{BareLabel, BareRuns}
use Rattle.lc_term.specs.Meaning.{State, Env, outside, value, EachHolds}
use Rattle.lc_object.specs.Syntax.{Point, Operation}
use Rattle.lc_object.specs.WellFormed.{variable_count}
use Rattle.lc_object.specs.declared.instr.EdgeKind.TheVariants.{Next}
use Rattle.lc_machine.specs.World.{Client, Idle, In, World, initial_world}
use Rattle.lc_machine.specs.Step.{Event, Invoked, Moved, Returned, IsClient, Steps}
use Rattle.lc_seq.specs.TextStep.{text_step, start_of}
use Rattle.lc_history.specs.History.{Linearizes}
use Rattle.lc_term.specs.SystemColumns.{pend}
use Rattle.lc_rider.specs.Rider.{Mark, argument}
use Rattle.lc_action.specs.Action.{Action, skip, enter, leave, Acts}
use Rattle.lc_outline.specs.Development.{Development, On, first_system, invariant_of, on_at, asserts_at}
use Rattle.lc_cond.specs.Conditions.{idle_frame, body_frame}
use Rattle.lc_outline.specs.Resolved.{IsResolved}
use Rattle.lc_sound.specs.Instrumented.{Label, Instrumented, IsRun, IsOver, unmarked, history}
use Rattle.lc_sound.specs.Linearizable.{IsLinearizableObject}
use Rattle.lc_sound.specs.Valid.{AreValid}
use Rattle.lc_sound.specs.Order.{order}

-- its names are resolved, and all its conditions are valid
pub record IsProven (D : Development) : Type 0 where
  pub resolved : IsResolved D
  pub valid : AreValid D

-- in the invariant the number of clients is the only variable, and at idle the client is the second
abbrev pub own : ℕ → ℕ → List ℤ
own clients c = pos clients ∷ pos c ∷ []

-- what is known of a client
abbrev pub IsClientGood : Development → ℕ → State → ℕ → Client → Type 0
IsClientGood D n m c Idle = EachHolds m (variable (own n c)) (idle_frame (first_system D)) × EachHolds m (variable (own n c)) D.idle
IsClientGood D n m c (In p variables) =
    (point : Point) × (o : Operation) × (slice_get D.object.points p ≡ Some point) × (slice_get D.object.operations point.operation ≡ Some o)
    × (length variables ≡ variable_count o) × (variable variables 0 ≡ pos n) × (variable variables 1 ≡ pos c)
    × EachHolds m (variable variables) (body_frame (first_system D) point.operation (length o.arguments))
    × EachHolds m (variable variables) (asserts_at D p)

-- what is known of a world: the invariant, each client's frame and assertions, and that only clients are in calls
pub record IsGood (D : Development) (n : ℕ) (w : World) : Type 0 where
  pub count : length w.clients ≡ n
  pub invariant : (e : Env) → e 0 ≡ pos n → EachHolds w.columns e (invariant_of D)
  pub each_client : (c : ℕ) (client : Client) → IsClient w c client → IsClientGood D n w.columns c client
  pub only : (i : ℤ) → (w.columns (pend (first_system D)) i ≡ pos 0) ⊎ ((c : ℕ) × (c < n) × (i ≡ pos c))

-- a bare step has its instrumented step
pub record IsLifted (D : Development) (w : World) (c : ℕ) (what : Event) (b' : World) : Type 0 where
  pub to : World
  pub marks : List Mark
  pub step : Instrumented D w c what marks to
  pub over : IsOver D to b'

-- over a bare run there is an instrumented run with the same steps
pub record IsOverRun (D : Development) (n : ℕ) (bare : List BareLabel) (b : World) : Type 0 where
  pub labels : List Label
  pub world : World
  pub run : IsRun D n labels world
  pub same : map unmarked labels ≡ bare
  pub over : IsOver D world b

-- the step of an edge is an instance of its action: a declared one, else `leave` at a return and `skip` elsewhere
abbrev pub IsEdgeAction : Development → ℕ → ℕ → List ℤ → Option On → Event → State → State → Type 0
IsEdgeAction D n c vs None (Returned ns) m m' = Acts n (leave (first_system D)) c [] m m'
IsEdgeAction D n c vs None (Moved p k) m m' = Acts n skip c [] m m'
IsEdgeAction D n c vs None (Invoked o ns) m m' = ⊥
IsEdgeAction D n c vs (Some x) what m m' =
    (a : Action) × (slice_get D.actions x.action ≡ Some a) × Acts n a c (map (value m (variable vs) outside) x.arguments) m m'

abbrev pub IsAction : Development → ℕ → World → ℕ → Event → World → Type 0
IsAction D n w c (Invoked o ns) w' = Acts n (enter (first_system D)) c (pos o ∷ argument ns 0 ∷ argument ns 1 ∷ argument ns 2 ∷ []) w.columns w'.columns
IsAction D n w c (Moved p k) w' = (vs : List ℤ) × IsClient w c (In p vs) × IsEdgeAction D n c vs (on_at D p k) (Moved p k) w.columns w'.columns
IsAction D n w c (Returned ns) w' = (p : ℕ) × (vs : List ℤ) × IsClient w c (In p vs) × IsEdgeAction D n c vs (on_at D p Next) (Returned ns) w.columns w'.columns

-- ---- for a development

-- for every number of clients, in every world that an instrumented run reaches, the invariant, the frames and the assertions hold
abbrev pub OutlineHolds : Development → Type 0
OutlineHolds D = (n : ℕ) (labels : List Label) (w : World) → IsRun D n labels w → IsGood D n w

-- there, each bare step has its instrumented step: each mark is lawful and each return is justified
abbrev pub StepsAreInstrumented : Development → Type 0
StepsAreInstrumented D =
    (n : ℕ) (labels : List Label) (w b : World) → IsRun D n labels w → IsOver D w b →
    (c : ℕ) (what : Event) (b' : World) → Steps D.object b c what b' → IsLifted D w c what b'

-- there, each step is an instance of its edge's action
abbrev pub StepsAreInstances : Development → Type 0
StepsAreInstances D =
    (n : ℕ) (labels : List Label) (w w' : World) → IsRun D n labels w →
    (c : ℕ) (what : Event) (marks : List Mark) → Instrumented D w c what marks w' → IsAction D n w c what w'

-- over each bare run there is an instrumented run with the same steps
abbrev pub RunsAreInstrumented : Development → Type 0
RunsAreInstrumented D = (n : ℕ) (labels : List BareLabel) (b : World) → BareRuns D.object (initial_world D.object n) labels b → IsOverRun D n labels b

-- the order of the marks of each instrumented run linearizes its history
abbrev pub MarksLinearize : Development → Type 0
MarksLinearize D =
    (n : ℕ) (labels : List Label) (w : World) → IsRun D n labels w →
    Linearizes (text_step D.specification.operations) (start_of D.specification.columns) (history labels) (order labels)

-- ---- for all developments

abbrev pub OutlinesHold : Type 0
OutlinesHold = (D : Development) → IsProven D → OutlineHolds D

abbrev pub BareStepsLift : Type 0
BareStepsLift = (D : Development) → IsProven D → StepsAreInstrumented D

abbrev pub StepsAreActions : Type 0
StepsAreActions = (D : Development) → IsProven D → StepsAreInstances D

abbrev pub RunsAreSimulated : Type 0
RunsAreSimulated = (D : Development) → IsProven D → RunsAreInstrumented D

abbrev pub OrdersLinearize : Type 0
OrdersLinearize = (D : Development) → IsResolved D → MarksLinearize D

-- the labels of an instrumented run, marks taken off, are a bare run
abbrev pub RunsStandOver : Type 0
RunsStandOver =
    (D : Development) → IsResolved D → (n : ℕ) (labels : List Label) (w : World) → IsRun D n labels w →
    (b : World) × BareRuns D.object (initial_world D.object n) (map unmarked labels) b × IsOver D w b

-- a run and one more step of client c are a run
abbrev pub RunsExtend : Type 0
RunsExtend =
    (D : Development) (n : ℕ) (labels : List Label) (w v : World) (c : ℕ) (what : Event) (marks : List Mark) →
    IsRun D n labels w → Instrumented D w c what marks v → IsRun D n (labels ++ record { client = c; what = what; marks = marks } ∷ []) v

-- both begin the same call, or neither begins one
abbrev pub AreAlike : Event → Event → Type 0
AreAlike (Invoked o ns) (Invoked p us) = (o ≡ p) × (ns ≡ us)
AreAlike (Invoked o ns) what = ⊥
AreAlike (Moved p k) (Invoked o us) = ⊥
AreAlike (Returned ns) (Invoked o us) = ⊥
AreAlike (Moved p k) what = Unit {0}
AreAlike (Returned ns) what = Unit {0}

pub record IsOnce (what what' : Event) (ms ms' : List Mark) (v v' : World) : Type 0 where
  pub event : what ≡ what'
  pub marks : ms ≡ ms'
  pub world : v ≡ v'

-- a client has at most one step, and if it begins a call one for each call; label and world are then the same
abbrev pub StepsAreDetermined : Type 0
StepsAreDetermined =
    (D : Development) (w : World) (c : ℕ) (what what' : Event) (marks marks' : List Mark) (v v' : World) → AreAlike what what' →
    Instrumented D w c what marks v → Instrumented D w c what' marks' v' → IsOnce what what' marks marks' v v'

abbrev pub Headline : Type 0
Headline = (D : Development) → IsProven D → IsLinearizableObject D.specification D.object
