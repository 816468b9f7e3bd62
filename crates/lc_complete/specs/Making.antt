-- The answers to a file that is to be made whole.
use Rattle.std.specs.Prelude.{◌≡◌, ℕ, ◌⊎◌, Bool, List, Result, Ok, Err}
use Rattle.lc_base.specs.declared.refusal.Fault.{Fault}
use Rattle.lc_base.specs.declared.refusal.Fault.TheVariants.{Refused, OutOfMemory}
use Rattle.lc_base.specs.declared.refusal.Refusal.{Refusal}
use Rattle.lc_layout.specs.Layout.{laid_out}
use Rattle.lc_outline.specs.Development.{Development}
use Rattle.lc_outline.specs.DevelopmentView.{development_view}
use Rattle.lc_outline_text.specs.Developments.{file_reading}
use Rattle.lc_reading.specs.Files.{IsFirstRefusal}
use Rattle.lc_sexp.specs.Reads.{ReadsAs}
use Rattle.lc_sexp.specs.Trees.{Trees}
use Rattle.lc_short.specs.Shorts.{Completes, IsShortRefusal, whole_text}
use Rattle.lc_complete.specs.Noted.{noted}
use Rattle.lc_complete.specs.declared.making.Made.{Made}

-- the text has the forms of a development that completes the file, over lines, of which some are marked as inferred
pub record IsMade (file text : List ℕ) (D : Development) : Type 0 where
  pub spelled : List ℕ
  pub forms : Trees
  pub completes : Completes file spelled D
  pub read : ReadsAs spelled forms
  pub marks : List Bool
  pub text_is : text ≡ noted marks (laid_out forms)

-- the file is refused as a short development is, or what it is filled up to is
abbrev pub IsRefused : List ℕ → Refusal → Type 0
IsRefused file r = IsShortRefusal file r ⊎ ((forms : Trees) × ReadsAs file forms × IsFirstRefusal file_reading (whole_text forms) r)

-- a development that completes the file; else how it is refused, or `OutOfMemory`
abbrev pub IsAnswer : List ℕ → Result Made Fault → Type 0
IsAnswer file (Ok made) = IsMade file made.text.items (development_view made.development)
IsAnswer file (Err (Refused r)) = IsRefused file r
IsAnswer file (Err OutOfMemory) = Unit {0}
