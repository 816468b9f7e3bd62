-- How a run that is held grows by a step of a seat's client, and why there is none.
use Rattle.std.specs.Prelude.{◌≡◌, ℕ, ◌≤◌, ◌<◌, true, false, List, [], ◌∷◌, ◌++◌, ℤ, Some, Result, Ok, Err, length, slice_get}
use Rattle.lc_run.specs.Limits.{label_limit}
use Rattle.lc_object.specs.Syntax.{Operation}
use Rattle.lc_machine.specs.Answered.{IsInCall}
use Rattle.lc_machine.specs.Step.{Event, IsClient}
use Rattle.lc_machine.specs.World as W
use Rattle.lc_machine.specs.World.{World, Client}
use Rattle.lc_machine.specs.declared.fault.StepFault.{StepFault}
use Rattle.lc_machine.specs.declared.fault.StepFault.TheVariants as step
use Rattle.lc_outline.specs.Development.{Development}
use Rattle.lc_sound.specs.Instrumented.{Label, Instrumented}
use Rattle.lc_steps.specs.Stepping.{StepOverflows}
use Rattle.lc_steps.specs.StepView.{MayBegin}
use Rattle.lc_run.specs.Labels.{is_unfinished}
use Rattle.lc_run.specs.Locked.{development_held, labels_held, world_held, client_in, labels_made}
use Rattle.lc_run.specs.declared.fault.RunFault.{RunFault}
use Rattle.lc_run.specs.declared.fault.RunFault.TheVariants.{Clients, Busy, Idle, NoOp, Arity, Mismatch, Full, Overflow, OutOfMemory}
use Rattle.lc_run.specs.declared.held.Shared.{Shared}
use Rattle.lc_run.specs.declared.held.Seat.{Seat}

module _ {J : Type 0} where
  -- the seat's client takes a step of this kind: lock and seat have its label more, and the world is the one that it leads to
  pub record HasGrown (Is : Event → Type 0) (s s' : Shared J) (t t' : Seat J) : Type 0 where
    pub label : Label
    pub client : label.client ≡ client_in t
    pub what : Is label.what
    pub step : Instrumented (development_held s) (world_held s) (client_in t) label.what label.marks (world_held s')
    pub held : labels_held s' ≡ labels_held s ++ label ∷ []
    pub made : labels_made t' ≡ labels_made t ++ label ∷ []

-- a fault of a step, as one of a run
abbrev pub fault_as : StepFault → RunFault
fault_as step.NoClient = Mismatch
fault_as step.Busy = Busy
fault_as step.Idle = Idle
fault_as step.NoOp = NoOp
fault_as step.Arity = Arity
fault_as step.Overflow = Overflow
fault_as step.OutOfMemory = OutOfMemory

-- why a client in a call takes no step
abbrev pub IsUntold : Development → World → ℕ → RunFault → Type 0
IsUntold D w c Overflow = StepOverflows D w c
IsUntold D w c OutOfMemory = IsInCall w c
IsUntold D w c Clients = ⊥
IsUntold D w c Busy = ⊥
IsUntold D w c Idle = ⊥
IsUntold D w c NoOp = ⊥
IsUntold D w c Arity = ⊥
IsUntold D w c Mismatch = ⊥
IsUntold D w c Full = ⊥

-- there is room for one label more
abbrev pub HaveRoom : List Label → Type 0
HaveRoom held = length held < label_limit

-- why a client takes no step of a call in this world, with these labels held, and those made by its seat
abbrev pub IsStepFault : Development → World → List Label → ℕ → List Label → RunFault → Type 0
IsStepFault D w held c made Idle = is_unfinished made ≡ false
IsStepFault D w held c made Mismatch = (is_unfinished made ≡ true) × (IsInCall w c → ⊥)
IsStepFault D w held c made Full = IsInCall w c × (label_limit ≤ length held)
IsStepFault D w held c made Overflow = StepOverflows D w c × HaveRoom held
IsStepFault D w held c made OutOfMemory = IsInCall w c × HaveRoom held
IsStepFault D w held c made Clients = ⊥
IsStepFault D w held c made Busy = ⊥
IsStepFault D w held c made NoOp = ⊥
IsStepFault D w held c made Arity = ⊥

-- there is this operation, and it takes as many numbers
abbrev pub TakesSo : Development → ℕ → List ℤ → Type 0
TakesSo D op ns = (o : Operation) × (slice_get D.object.operations op ≡ Some o) × (length ns ≡ length o.arguments)

abbrev pub TakesOther : Development → ℕ → List ℤ → Type 0
TakesOther D op ns = (o : Operation) × (slice_get D.object.operations op ≡ Some o) × (length ns ≡ length o.arguments → ⊥)

-- this client is in a call
abbrev pub StandsIn : List Client → ℕ → Type 0
StandsIn clients c = (p : ℕ) × (variables : List ℤ) × (slice_get clients c ≡ Some (W.In p variables))

-- whether a client may take a step of its call, with `held` labels held, or why not
abbrev pub MayStep : List Client → ℕ → ℕ → Result (Unit {0}) RunFault → Type 0
MayStep clients c held (Ok done) = StandsIn clients c
MayStep clients c held (Err Mismatch) = StandsIn clients c → ⊥
MayStep clients c held (Err Full) = StandsIn clients c × (label_limit ≤ held)
MayStep clients c held (Err Clients) = ⊥
MayStep clients c held (Err Busy) = ⊥
MayStep clients c held (Err Idle) = ⊥
MayStep clients c held (Err NoOp) = ⊥
MayStep clients c held (Err Arity) = ⊥
MayStep clients c held (Err Overflow) = ⊥
MayStep clients c held (Err OutOfMemory) = ⊥

-- whether it may begin a call of an operation with these numbers, or why not
abbrev pub MayCall : Development → List Client → ℕ → ℕ → List ℤ → ℕ → Result (Unit {0}) RunFault → Type 0
MayCall D clients c op ns held (Ok done) = (slice_get clients c ≡ Some W.Idle) × TakesSo D op ns
MayCall D clients c op ns held (Err NoOp) = length D.object.operations ≤ op
MayCall D clients c op ns held (Err Arity) = TakesOther D op ns
MayCall D clients c op ns held (Err Mismatch) = TakesSo D op ns × (slice_get clients c ≡ Some W.Idle → ⊥)
MayCall D clients c op ns held (Err Full) = ((slice_get clients c ≡ Some W.Idle) × TakesSo D op ns) × (label_limit ≤ held)
MayCall D clients c op ns held (Err Clients) = ⊥
MayCall D clients c op ns held (Err Busy) = ⊥
MayCall D clients c op ns held (Err Idle) = ⊥
MayCall D clients c op ns held (Err Overflow) = ⊥
MayCall D clients c op ns held (Err OutOfMemory) = ⊥

-- why a client begins no call of this operation with these numbers
abbrev pub IsBeginFault : Development → World → List Label → ℕ → List Label → ℕ → List ℤ → RunFault → Type 0
IsBeginFault D w held c made op ns Busy = is_unfinished made ≡ true
IsBeginFault D w held c made op ns NoOp = (is_unfinished made ≡ false) × (length D.object.operations ≤ op)
IsBeginFault D w held c made op ns Arity = (is_unfinished made ≡ false) × TakesOther D op ns
IsBeginFault D w held c made op ns Mismatch = (is_unfinished made ≡ false) × TakesSo D op ns × (IsClient w c W.Idle → ⊥)
IsBeginFault D w held c made op ns Full = MayBegin D w c op ns × (label_limit ≤ length held)
IsBeginFault D w held c made op ns OutOfMemory = MayBegin D w c op ns × HaveRoom held
IsBeginFault D w held c made op ns Clients = ⊥
IsBeginFault D w held c made op ns Idle = ⊥
IsBeginFault D w held c made op ns Overflow = ⊥
