-- A run that is gone through again.
use Rattle.std.specs.Prelude.{◌≡◌, true}
use Rattle.lc_term.specs.State.{state_of, column_count}
use Rattle.lc_term.specs.SystemColumns as system
use Rattle.lc_machine.specs.Placed.{are_placed}
use Rattle.lc_machine.specs.View.{clients_of}
use Rattle.lc_machine.specs.World.{World}
use Rattle.lc_outline.specs.Development.{Development, first_system}
use Rattle.lc_ride.specs.Drafts.{saved_in_draft, draft_columns}
use Rattle.lc_steps.specs.StepView.{world_in}
use Rattle.lc_trace.specs.declared.replay.Replay.{Replay}

-- the world where it is
abbrev pub world_of : Replay → World
world_of r = world_in r.draft r.clients.items

-- both columns are those that are saved, and each client is where the object has code
pub record IsReady (D : Development) (r : Replay) : Type 0 where
  pub saved : state_of r.columns ≡ saved_in_draft r.draft
  pub same : column_count r.columns ≡ draft_columns r.draft
  pub count : draft_columns r.draft ≡ system.column_count (first_system D)
  pub placed : are_placed D.object (clients_of r.clients.items) ≡ true
