-- What a file says where a short development is expected, and its first refusal.
use Rattle.std.specs.Prelude.{◌≡◌, ℕ, ◌⊎◌, List, []}
use Rattle.lc_base.specs.declared.refusal.Refusal.{Refusal}
use Rattle.lc_base.specs.declared.refusal.Refusal.TheVariants as R
use Rattle.lc_sexp.specs.Printed.{printed}
use Rattle.lc_sexp.specs.Reads.{ReadsAs}
use Rattle.lc_sexp.specs.Trees.{Trees}
use Rattle.lc_reading.specs.Files.{Says, IsTextRefusal, IsFirstRefusal}
use Rattle.lc_outline.specs.Development.{Development}
use Rattle.lc_outline_text.specs.Developments.{file_reading}
use Rattle.lc_fill.specs.Filled.{Filled}
use Rattle.lc_fill.specs.Files.{file_filled}
use Rattle.lc_fill.specs.Gaps.{meant}
use Rattle.lc_fill.specs.Plan.{Plan, no_plan}
use Rattle.lc_fill.specs.declared.gap.Gap.{Gap}

-- A development that may lack actions, at these places of its file: if it does, its last action is a stand-in for them all
pub record Short : Type 0 where
  pub whole : Development
  pub lacking : List ℕ

-- the text of these forms with what was left out put in, as it is planned
abbrev pub planned_text : Plan → Trees → List ℕ
planned_text plan ts = printed (file_filled plan ts).whole

-- the same if nothing is planned
abbrev pub whole_text : Trees → List ℕ
whole_text ts = planned_text no_plan ts

-- with what was left out put in, the file says this
abbrev pub SaysFilled : List ℕ → Short → Type 0
SaysFilled bytes S = (ts : Trees) × ReadsAs bytes ts × Says file_reading (whole_text ts) S.whole × (S.lacking ≡ (file_filled no_plan ts).lacking)

-- The file says this short development. A file that says a development says it, left as it is
abbrev pub SaysShort : List ℕ → Short → Type 0
SaysShort bytes S =
    (Says file_reading bytes S.whole × (S.lacking ≡ [])) ⊎ ((r : Refusal) × IsFirstRefusal file_reading bytes r × SaysFilled bytes S)

-- a refusal of what a file is filled up to, at the item of the file that is meant
abbrev pub at_meant : List Gap → Refusal → Refusal
at_meant gs (R.Shape n) = R.Shape (meant gs n)
at_meant gs (R.Unknown n) = R.Unknown (meant gs n)
at_meant gs (R.Repeated n) = R.Repeated (meant gs n)
at_meant gs (R.Auxiliary n) = R.Auxiliary (meant gs n)
at_meant gs (R.Bound n) = R.Bound (meant gs n)
at_meant gs r = r

-- with what was left out put in, the file is refused so
abbrev pub IsFilledRefusal : List ℕ → Refusal → Type 0
IsFilledRefusal bytes r =
    (ts : Trees) × (q : Refusal) × ReadsAs bytes ts × IsFirstRefusal file_reading (whole_text ts) q × (r ≡ at_meant (file_filled no_plan ts).gaps q)

-- The first refusal of a file: its first text fault; else, if it says no development as it is, that of what it is filled up to
abbrev pub IsShortRefusal : List ℕ → Refusal → Type 0
IsShortRefusal bytes r = IsTextRefusal bytes r ⊎ ((p : Refusal) × IsFirstRefusal file_reading bytes p × IsFilledRefusal bytes r)

-- The text of the file with what is planned put in, wherever the file left it out, and after what it has of it, says this
-- development
pub record Completes (bytes text : List ℕ) (D : Development) : Type 0 where
  pub trees : Trees
  pub plan : Plan
  pub read : ReadsAs bytes trees
  pub text_is : text ≡ planned_text plan trees
  pub says : Says file_reading text D
