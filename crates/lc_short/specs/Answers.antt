-- The answers to a short development.
use Rattle.std.specs.Prelude.{◌≡◌, ℕ, List, Result, Ok, Err}
use Rattle.lc_base.specs.declared.refusal.Fault.{Fault}
use Rattle.lc_base.specs.declared.refusal.Fault.TheVariants.{Refused, OutOfMemory}
use Rattle.lc_base.specs.declared.refusal.Refusal.{Refusal}
use Rattle.lc_sexp.specs.Trees.{Trees}
use Rattle.lc_reading.specs.Files.{Says, IsFirstRefusal}
use Rattle.lc_outline_text.specs.Developments.{file_reading}
use Rattle.lc_fill.specs.Files.{file_filled}
use Rattle.lc_fill.specs.Plan.{no_plan}
use Rattle.lc_short.specs.Shorts.{SaysShort, IsShortRefusal, whole_text, at_meant}
use Rattle.lc_short.specs.ShortView.{short_view}
use Rattle.lc_short.specs.declared.short.Short.{Short}

-- the short development that the file says; else its first refusal, or `OutOfMemory`
abbrev pub IsShortAnswer : List ℕ → Result Short Fault → Type 0
IsShortAnswer bytes (Ok short) = SaysShort bytes (short_view short)
IsShortAnswer bytes (Err (Refused r)) = IsShortRefusal bytes r
IsShortAnswer bytes (Err OutOfMemory) = Unit {0}

-- what the forms say with what was left out put in, or how that is refused
abbrev pub IsFilledAnswer : Trees → Result Short Fault → Type 0
IsFilledAnswer ts (Ok short) = Says file_reading (whole_text ts) (short_view short).whole × ((short_view short).lacking ≡ (file_filled no_plan ts).lacking)
IsFilledAnswer ts (Err (Refused r)) = (q : Refusal) × IsFirstRefusal file_reading (whole_text ts) q × (r ≡ at_meant (file_filled no_plan ts).gaps q)
IsFilledAnswer ts (Err OutOfMemory) = Unit {0}
