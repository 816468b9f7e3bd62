-- What is left of a run that is finished.
use Rattle.std.specs.Prelude.{◌≡◌, ℕ, ◌<◌, List, Some, Vec, Result, Ok, Err, map, slice_get}
use Rattle.std.specs.declared.alloc.Global.{Global}
use Rattle.lc_outline.specs.Development.{Development}
use Rattle.lc_sound.specs.Instrumented as S
use Rattle.lc_run.specs.Labels.{labels_by}
use Rattle.lc_run.specs.LabelView.{labels_of}
use Rattle.lc_run.specs.Locked.{labels_held}
use Rattle.lc_run.specs.Seated.{IsWhole, IsWhy}
use Rattle.lc_run.specs.declared.finishing.RunLog.{RunLog}
use Rattle.lc_run.specs.declared.finishing.Unfinished.{Unfinished}
use Rattle.lc_run.specs.declared.held.Shared.{Shared}
use Rattle.lc_run.specs.declared.held.Seat.{Seat}
use Rattle.lc_run.specs.declared.label.Label.{Label}

-- lists of labels
abbrev pub lists_in : List (Vec Label Global) → List (List S.Label)
lists_in lists = map (λ list. labels_of list.items) lists

-- for each of n clients there is the list of its labels
abbrev pub AreOwn : List S.Label → ℕ → List (Vec Label Global) → Type 0
AreOwn labels n lists = (c : ℕ) → c < n → slice_get (lists_in lists) c ≡ Some (labels_by c labels)

-- what a run that is held comes to by these seats: its labels, if they are its own, or why not
abbrev pub IsConcluded : {J : Type 0} → Shared J → Development → ℕ → List (Seat J) → Result RunLog (Unfinished J) → Type 0
IsConcluded s D n seats (Ok log) = IsWhole s D n seats × (labels_of log.labels.items ≡ labels_held s)
IsConcluded s D n seats (Err u) = IsWhy s D n seats u.why
