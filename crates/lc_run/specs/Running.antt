-- What the calls of a runner answer, by what they add to a seat's list.
use Rattle.std.specs.Prelude.{◌≡◌, ℕ, ◌<◌, ◌⊎◌, List, ℤ}
use Rattle.lc_check.specs.VerdictView.{development_in}
use Rattle.lc_machine.specs.Step as M
use Rattle.lc_machine.specs.Step.{Event, Invoked}
use Rattle.lc_outline.specs.Development.{Development}
use Rattle.lc_sound.specs.Instrumented.{Label}
use Rattle.lc_run.specs.Labels.{HasMade, HasMoved, IsMove}
use Rattle.lc_run.specs.Locked.{development_held, labels_held, world_held, client_in, labels_made}
use Rattle.lc_run.specs.Taken.{IsBeginFault, IsStepFault}
use Rattle.lc_run.specs.declared.fault.RunFault.{RunFault}
use Rattle.lc_run.specs.declared.fault.RunFault.TheVariants.{Clients, Busy, Idle, NoOp, Arity, Mismatch, Full, Overflow, OutOfMemory}
use Rattle.lc_run.specs.declared.held.Shared.{Shared}
use Rattle.lc_run.specs.declared.held.Seat.{Seat}
use Rattle.lc_run.specs.declared.runner.Progress.{Progress}
use Rattle.lc_run.specs.declared.runner.Progress.TheVariants as progress
use Rattle.lc_run.specs.declared.runner.Called.{Called}
use Rattle.lc_run.specs.declared.runner.Called.TheVariants as called
use Rattle.lc_run.specs.declared.runner.Runner.{Runner}

module _ {J : Type 0} where
  abbrev pub development_of : Runner J → Development
  development_of r = development_in r.accepted.value

  abbrev pub clients_of : Runner J → ℕ
  clients_of r = r.clients

-- what is returned for a step that was this
abbrev pub IsSaid : Progress → Event → Type 0
IsSaid progress.Running what = IsMove what
IsSaid (progress.Returned numbers) what = what ≡ M.Returned numbers.items

-- What is returned for a call of `turns` turns: after its beginning that many moves, or fewer and its return
abbrev pub IsCalled : Called → ℕ → Event → ℕ → List Label → List Label → Type 0
IsCalled called.TurnsSpent turns call c before after = (begun : List Label) × HasMade (λ what. what ≡ call) c before begun × HasMoved c turns begun after
IsCalled (called.Returned numbers) turns call c before after =
    (begun : List Label) × (k : ℕ) × (last : List Label)
    × HasMade (λ what. what ≡ call) c before begun × HasMoved c k begun last × (k < turns) × HasMade (λ what. what ≡ M.Returned numbers.items) c last after

-- a call has begun, and its client made fewer moves than it has turns
abbrev pub IsUnderWay : ℕ → Event → ℕ → List Label → List Label → Type 0
IsUnderWay turns call c before after = (begun : List Label) × (k : ℕ) × HasMade (λ what. what ≡ call) c before begun × HasMoved c k begun after × (k < turns)

-- what a call leaves that could not go on: nothing, or its beginning and fewer moves than it has turns
abbrev pub IsLeft : ℕ → Event → ℕ → List Label → List Label → Type 0
IsLeft turns call c before after = (after ≡ before) ⊎ IsUnderWay turns call c before after

-- The same by the fault: nothing if no such call may begin, and its beginning if a number leaves 64 bits
abbrev pub IsLeftBy : RunFault → ℕ → Event → ℕ → List Label → List Label → Type 0
IsLeftBy Busy turns call c before after = after ≡ before
IsLeftBy NoOp turns call c before after = after ≡ before
IsLeftBy Arity turns call c before after = after ≡ before
IsLeftBy Overflow turns call c before after = IsUnderWay turns call c before after
IsLeftBy Mismatch turns call c before after = IsLeft turns call c before after
IsLeftBy Full turns call c before after = IsLeft turns call c before after
IsLeftBy OutOfMemory turns call c before after = IsLeft turns call c before after
IsLeftBy Clients turns call c before after = ⊥
IsLeftBy Idle turns call c before after = ⊥

module _ {J : Type 0} where
  -- why the seat's client begins no such call, by some value that a lock may hold
  abbrev pub IsUnbegun : Seat J → ℕ → List ℤ → RunFault → Type 0
  IsUnbegun t op ns fault =
      ∥ ((s : Shared J) × IsBeginFault (development_held s) (world_held s) (labels_held s) (client_in t) (labels_made t) op ns fault) ∥₁

  -- why it takes no step of its call, likewise
  abbrev pub IsUnstepped : Seat J → RunFault → Type 0
  IsUnstepped t fault = ∥ ((s : Shared J) × IsStepFault (development_held s) (world_held s) (labels_held s) (client_in t) (labels_made t) fault) ∥₁

  -- why a call of at most `turns` turns comes to no end: its client begins none; or it takes no step after those that it took
  abbrev pub IsUncalled : Seat J → Seat J → ℕ → List ℤ → ℕ → RunFault → Type 0
  IsUncalled t t' op ns turns fault =
      (IsUnbegun t op ns fault × (labels_made t' ≡ labels_made t))
      ⊎ (IsUnstepped t' fault × IsUnderWay turns (Invoked op ns) (client_in t) (labels_made t) (labels_made t'))
