use Rattle.std.proofs.Common.{◌≡◌, ap, ◌∙◌}
use Rattle.lc_machine.specs.World.{World}
use Rattle.lc_outline.specs.Development.{start_columns}
use Rattle.lc_sound.specs.Instrumented.{start_world}
use Rattle.lc_check.specs.VerdictView.{development_in}
use Rattle.lc_steps.specs.StepView.{world_in}
use Rattle.lc_run.proofs.Standing.{start_is_run}
use Rattle.lc_run.proofs.held.Shared.new.Goals as goal
use Rattle.lc_machine.proofs.Worlds.{idle_count, idle_placed}

pub invariant_of-shared-clause-run : goal.invariant_of-shared-clause-run
invariant_of-shared-clause-run g c =
    let D = development_in c.args.accepted.value in
    let n = c.args.clients in
    let w = world_in c.in_ok-draft.draft c.in_ok-stands.stands.items in
    let is : w ≡ start_world D n =
    λ i. let u : World = record { columns = (c.in_ok-draft.ensures.saved ∙ ap (λ a. start_columns (development_in a)) c.deref.ensures) i; clients = c.in_ok-stands.ensures i } in u in
    start_is_run D n c.new-labels.result.items w c.new-labels.ensures.items is

pub invariant_of-shared-clause-count : goal.invariant_of-shared-clause-count
invariant_of-shared-clause-count g c = idle_count c.in_ok-stands.stands.items c.args.clients c.in_ok-stands.ensures

pub invariant_of-shared-clause-placed : goal.invariant_of-shared-clause-placed
invariant_of-shared-clause-placed g c = idle_placed (development_in c.args.accepted.value).object c.in_ok-stands.stands.items c.args.clients c.in_ok-stands.ensures
