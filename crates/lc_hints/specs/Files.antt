-- What a file of hints says, and which refusal is its first.
use Rattle.std.specs.Prelude.{ℕ, List, Result, Ok, Err}
use Rattle.lc_base.specs.declared.refusal.Fault.{Fault}
use Rattle.lc_base.specs.declared.refusal.Fault.TheVariants.{Refused, OutOfMemory}
use Rattle.lc_reading.specs.Files.{Says, IsFirstRefusal}
use Rattle.lc_outline.specs.Development.{Development}
use Rattle.lc_hints.specs.Hints.{Hint}
use Rattle.lc_hints.specs.HintView.{HasHints}
use Rattle.lc_hints.specs.Readings.{hints_reading}
use Rattle.lc_hints.specs.declared.hints.Hints.{Hints}

-- the answer to the bytes of hints for this development: the hints that they say; else their first refusal, or out of memory
abbrev pub IsAnswerTo : Development → List ℕ → Result Hints Fault → Type 0
IsAnswerTo D bytes (Ok hints) = (hs : List Hint) × Says (hints_reading D) bytes hs × HasHints hs hints
IsAnswerTo D bytes (Err (Refused refusal)) = IsFirstRefusal (hints_reading D) bytes refusal
IsAnswerTo D bytes (Err OutOfMemory) = Unit {0}
