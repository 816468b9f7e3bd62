-- What a client's step in the code stands for, and what is found of it.
use Rattle.std.specs.Prelude.{◌≡◌, ℕ, ◌≤◌, Bool, true, false, ℤ, List, Option, Some, None, length, option_map}
use Rattle.lc_base.specs.Limits.{seat_limit}
use Rattle.lc_term.specs.State as T
use Rattle.lc_term.specs.State.{state_of}
use Rattle.lc_term.specs.SystemColumns.{column_count}
use Rattle.lc_machine.specs.Step.{Event}
use Rattle.lc_machine.specs.View.{clients_of}
use Rattle.lc_machine.specs.World.{World}
use Rattle.lc_outline.specs.Development.{Development, first_system}
use Rattle.lc_outline.specs.DevelopmentView.{development_view}
use Rattle.lc_steps.specs.StepView.{what_of}
use Rattle.lc_acting.specs.declared.acting.Acting.{Acting}
use Rattle.lc_acting.specs.declared.attempt.Attempt.{Attempt}

abbrev pub development_of : Attempt → Development
development_of a = development_view a.development.now

abbrev pub world_of : Attempt → World
world_of a = record { columns = state_of a.state.now; clients = clients_of a.clients.now }

abbrev pub event_of : Attempt → Option Event
event_of a = option_map (λ x. what_of x.now) a.what

-- the columns are those of the development, and clients are few
pub record IsAttempt (a : Attempt) : Type 0 where
  pub columns_are : T.column_count a.state.now ≡ column_count (first_system (development_of a))
  pub few : length a.clients.now ≤ seat_limit

-- the one action that is so was found, with what it is given; or there is none
abbrev pub IsOnly : (ℕ → List ℤ → Type 0) → Option Acting → Type 0
IsOnly Is None = (i : ℕ) (args : List ℤ) → Is i args → ⊥
IsOnly Is (Some a) = Is a.action a.numbers.items × ((i : ℕ) (args : List ℤ) → Is i args → (i ≡ a.action) × (args ≡ a.numbers.items))

-- an answer says whether a fact is so
abbrev pub SaysSo : Bool → Type 0 → Type 0
SaysSo true P = P
SaysSo false P = P → ⊥
