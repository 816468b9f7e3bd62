-- What a trace tells of a run.
use Rattle.std.specs.Prelude.{◌≡◌, ℕ, List, [], ◌∷◌, ◌++◌}
use Rattle.lc_term.specs.Updates.{Write}
use Rattle.lc_seq.specs.Sequential.{Call}
use Rattle.lc_machine.specs.World.{World}
use Rattle.lc_outline.specs.Development.{Development}
use Rattle.lc_sound.specs.Instrumented.{Label, Instrumented, start_world}
use Rattle.lc_sound.specs.Order.{called_last, no_call}
use Rattle.lc_trace.specs.Changes.{Changes}
use Rattle.lc_trace.specs.Lines.{step_text}

-- from a world, after which each client began this call last: each label is the step to the next world, told in a line with the cells
-- that it changes
abbrev pub TellsStepsFrom : Development → World → (ℕ → Call) → List Label → List ℕ → Type 0
TellsStepsFrom D w calls [] text = text ≡ []
TellsStepsFrom D w calls (l ∷ ls) text =
    (next : World) × (cells : List Write) × (rest : List ℕ)
    × Instrumented D w l.client l.what l.marks next × Changes next.columns w.columns cells
    × TellsStepsFrom D next (called_last calls l.client l.what) ls rest × (text ≡ step_text D calls l cells ++ rest)

-- of a run of n clients
abbrev pub TellsSteps : Development → ℕ → List Label → List ℕ → Type 0
TellsSteps D n labels text = TellsStepsFrom D (start_world D n) (λ _. no_call) labels text
