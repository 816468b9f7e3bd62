-- The answers where a short development is completed.
use Rattle.std.specs.Prelude.{ℕ, List, Result, Ok, Err}
use Rattle.lc_base.specs.declared.refusal.Fault.{Fault}
use Rattle.lc_base.specs.declared.refusal.Fault.TheVariants.{Refused, OutOfMemory}
use Rattle.lc_sexp.specs.Trees.{Trees}
use Rattle.lc_reading.specs.Files.{IsFirstRefusal}
use Rattle.lc_outline.specs.DevelopmentView.{development_view}
use Rattle.lc_outline_text.specs.Developments.{file_reading}
use Rattle.lc_fill.specs.Plan.{Plan}
use Rattle.lc_short.specs.Shorts.{Completes, planned_text}
use Rattle.lc_short.specs.declared.completing.Completion.{Completion}

-- a development that completes the file; else the first refusal of the text with what is planned
abbrev pub IsCompleted : List ℕ → Plan → Trees → Result Completion Fault → Type 0
IsCompleted bytes plan ts (Ok c) = Completes bytes c.text.items (development_view c.development)
IsCompleted bytes plan ts (Err (Refused r)) = IsFirstRefusal file_reading (planned_text plan ts) r
IsCompleted bytes plan ts (Err OutOfMemory) = Unit {0}
