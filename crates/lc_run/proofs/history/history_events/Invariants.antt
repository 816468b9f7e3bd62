use Rattle.std.proofs.Common.{◌≡◌, ◌++◌, drop}
use Rattle.lc_history.specs.View.{events_of}
use Rattle.lc_sound.specs.Instrumented.{history}
use Rattle.lc_run.specs.LabelView.{labels_of}
use Rattle.lc_run.proofs.history.history_events.Given as goal

-- the history so far, followed by that of the remaining labels
abbrev pub invariant-loop-label : goal.invariant-loop-label
invariant-loop-label l = events_of l.events.items ++ history (labels_of (drop l.label-index l.labels)) ≡ history (labels_of l.labels)
