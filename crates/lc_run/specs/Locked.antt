-- The parts of what a lock holds, and of seats.
use Rattle.std.specs.Prelude.{ℕ, List}
use Rattle.lc_check.specs.VerdictView.{development_in}
use Rattle.lc_machine.specs.World.{World}
use Rattle.lc_outline.specs.Development.{Development}
use Rattle.lc_sound.specs.Instrumented.{Label}
use Rattle.lc_steps.specs.StepView.{world_in}
use Rattle.lc_run.specs.LabelView.{labels_of}
use Rattle.lc_run.specs.declared.held.Shared.{Shared}
use Rattle.lc_run.specs.declared.held.Seat.{Seat}

module _ {J : Type 0} where
  abbrev pub development_held : Shared J → Development
  development_held s = development_in s.accepted.value

  abbrev pub clients_held : Shared J → ℕ
  clients_held s = s.clients

  abbrev pub labels_held : Shared J → List Label
  labels_held s = labels_of s.labels.items

  abbrev pub world_held : Shared J → World
  world_held s = world_in s.draft s.stands.items

  abbrev pub client_in : Seat J → ℕ
  client_in s = s.client

  abbrev pub labels_made : Seat J → List Label
  labels_made s = labels_of s.labels.items
