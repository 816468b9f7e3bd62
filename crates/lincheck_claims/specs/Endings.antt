-- How the program ends, over a stream in memory.
use Rattle.std.specs.Prelude.{ℕ, List, Some}
use Rattle.clap.specs.Words.{Text}
use Rattle.lc_words.specs.Reading.{AskFor}
use Rattle.lc_words.specs.Tasks.{Task}
use Rattle.lincheck.specs.Execution.{Ends}

-- if the words ask for the task, the program ends with it, and its answer is such
abbrev pub EndsWith : List Text → Task → (List ℕ → ℕ → Type 0) → (before after : List ℕ) → ℕ → Type 0
EndsWith words task IsAnswer before after status = AskFor words task → Ends task IsAnswer (Some before) (Some after) status
