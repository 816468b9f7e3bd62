-- A step that is taken again.
use Rattle.std.proofs.Common.{◌≡◌, ℕ, List, sym, set}
use Rattle.std.proofs.lemmas.List.{map-set}
use Rattle.lc_term.specs.Meaning.{State}
use Rattle.lc_machine.specs.View.{client_of}
use Rattle.lc_machine.specs.World.{World}
use Rattle.lc_machine.specs.declared.client.Client.{Client}
use Rattle.lc_ride.specs.Drafts.{saved_in_draft}
use Rattle.lc_ride.specs.declared.draft.Draft.{Draft}
use Rattle.lc_steps.specs.StepView.{world_in}
use Rattle.lc_steps.specs.Stepping.{world_with}

-- the world that a step leads to, as it is kept
pub world_after : (draft kept : Draft) (clients : List Client) (columns : State) (c : ℕ) (k : Client) → saved_in_draft kept ≡ columns →
    world_with (world_in draft clients) columns c (client_of k) ≡ world_in kept (set clients c k)
world_after draft kept clients columns c k saved =
    λ i. let w : World = record { columns = sym saved i; clients = sym (map-set client_of clients c k) i } in w
