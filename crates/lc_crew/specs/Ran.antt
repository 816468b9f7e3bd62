-- What comes of a plan.
use Rattle.std.specs.Prelude.{◌≡◌, ℕ, suc, true, List, [], ◌∷◌, All, length}
use Rattle.lc_history.specs.History.{Linearizes}
use Rattle.lc_history.specs.Histories.{events_in}
use Rattle.lc_machine.specs.World.{World}
use Rattle.lc_outline.specs.Development.{Development}
use Rattle.lc_plan.specs.Plans.{Script}
use Rattle.lc_run.specs.Labels.{is_unfinished, labels_by}
use Rattle.lc_run.specs.LabelView.{labels_of}
use Rattle.lc_run.specs.Ordering.{order_entries}
use Rattle.lc_seq.specs.TextStep.{text_step, start_of}
use Rattle.lc_sound.specs.Instrumented.{Label, IsRun, history}
use Rattle.lc_sound.specs.Order.{order}
use Rattle.lc_crew.specs.Halts.{fits}
use Rattle.lc_crew.specs.Playing.{HasPlayed, planned}
use Rattle.lc_crew.specs.declared.ended.Ended.{Ended}
use Rattle.lc_crew.specs.declared.plan.Ran.{Ran}

-- a client came to its end as is said: it fits the last call that it made; and it made its calls of the phases in order, all of them
-- or up to the one that halted it
pub record EndsSo (phases : List (List Script)) (labels : List Label) (e : Ended) : Type 0 where
  pub fit : fits e.halt (is_unfinished (labels_by e.client labels)) ≡ true
  pub played : HasPlayed e.halt (planned e.client phases) e.client [] (labels_by e.client labels)

-- their clients are numbered from this one on
abbrev pub AreNumberedFrom : ℕ → List Ended → Type 0
AreNumberedFrom c [] = Unit {0}
AreNumberedFrom c (e ∷ es) = (e.client ≡ c) × AreNumberedFrom (suc c) es

-- for each of n clients it is said once how it came to its end, by their numbers
abbrev pub AreAllEnded : ℕ → List Ended → Type 0
AreAllEnded n ends = (length ends ≡ n) × AreNumberedFrom 0 ends

-- the labels are a run of the development by n clients, the order of the run linearizes its history, and its clients came to
-- these ends
pub record IsOrdered (D : Development) (n : ℕ) (phases : List (List Script)) (labels : List Label) (ends : List Ended) : Type 0 where
  pub run : ∥ ((w : World) × IsRun D n labels w) ∥₁
  pub linearizes : ∥ Linearizes (text_step D.specification.operations) (start_of D.specification.columns) (history labels) (order labels) ∥₁
  pub each : All (EndsSo phases labels) ends
  pub all : AreAllEnded n ends

-- What has run of a development by n clients in these phases: its history and its order are those of such a run
pub record IsRunOf (D : Development) (n : ℕ) (phases : List (List Script)) (ran : Ran) : Type 0 where
  pub ordered : IsOrdered D n phases (labels_of ran.log.labels.items) ran.ends.items
  pub events : events_in ran.log.history ≡ history (labels_of ran.log.labels.items)
  pub entries : order_entries ran.log.order.items ≡ order (labels_of ran.log.labels.items)
