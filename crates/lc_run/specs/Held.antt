-- What the lock of a runner holds, and what its seats have.
use Rattle.std.specs.Prelude.{ℕ, List}
use Rattle.lc_machine.specs.declared.client.Client.{Client}
use Rattle.lc_ride.specs.declared.draft.Draft.{Draft}
use Rattle.lc_check.specs.VerdictView.{development_in}
use Rattle.lc_check.specs.declared.verdict.Accepted.{Accepted}
use Rattle.lc_sound.specs.Instrumented.{IsRun}
use Rattle.lc_steps.specs.StepView.{world_in}
use Rattle.lc_run.specs.LabelView.{labels_of}
use Rattle.lc_run.specs.declared.label.Label.{Label}

-- the labels are a run of the development for `clients` clients, to the world that is held
abbrev pub IsHeld : Accepted → ℕ → List Label → Draft → List Client → Type 0
IsHeld accepted clients labels draft stands = IsRun (development_in accepted) clients (labels_of labels) (world_in draft stands)
