-- The answer to a development's file that is to be laid out over lines.
use Rattle.std.specs.Prelude.{◌≡◌, ℕ, ◌⊎◌, List, Result, Ok, Err}
use Rattle.lc_base.specs.declared.refusal.Fault.{Fault}
use Rattle.lc_base.specs.declared.refusal.Fault.TheVariants.{Refused, OutOfMemory}
use Rattle.lc_layout.specs.Layout.{laid_out}
use Rattle.lc_outline.specs.Development.{Development}
use Rattle.lc_outline_text.specs.Developments.{file_reading}
use Rattle.lc_reading.specs.Files.{IsFirstRefusal}
use Rattle.lc_reading.specs.Readings.{fine}
use Rattle.lc_sexp.specs.Reads.{ReadsAs}
use Rattle.lc_sexp.specs.Trees.{Trees}
use Rattle.lincheck.specs.Check.{TellsRefusal}

-- the file says a development, and this text is the file's forms laid out
abbrev pub IsLaidOut : List ℕ → List ℕ → Type 0
IsLaidOut file text = (forms : Trees) × (D : Development) × ReadsAs file forms × (file_reading forms ≡ fine D) × (text ≡ laid_out forms)

-- the file's forms laid out, seen by this view, if it says a development; else its first refusal, or out of memory
abbrev pub LaysOut : {T : Type 0} → (T → List ℕ) → List ℕ → Result T Fault → Type 0
LaysOut text_in file (Ok text) = IsLaidOut file (text_in text)
LaysOut text_in file (Err (Refused refusal)) = IsFirstRefusal file_reading file refusal
LaysOut text_in file (Err OutOfMemory) = Unit {0}

-- the answer to a development's file: its forms laid out, and status 0; or its first refusal
abbrev pub AnswersLines : List ℕ → List ℕ → ℕ → Type 0
AnswersLines file text status = TellsRefusal file text status ⊎ (IsLaidOut file text × (status ≡ 0))
