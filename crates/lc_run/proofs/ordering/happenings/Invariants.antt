use Rattle.std.proofs.Common.{◌≡◌, ◌++◌, drop, vec_len}
use Rattle.lc_sound.specs.Order.{happenings, no_call}
use Rattle.lc_run.specs.LabelView.{labels_of}
use Rattle.lc_run.specs.Ordering.{calls_in, happenings_of}
use Rattle.lc_run.proofs.ordering.happenings.Given as goal

-- what happened so far, followed by what happens by the remaining labels
abbrev pub invariant-loop-label : goal.invariant-loop-label
invariant-loop-label l =
    (vec_len l.calls ≡ l.clients)
    × (happenings_of l.happenings.items ++ happenings (calls_in l.calls.items) (labels_of (drop l.label-index l.labels)) ≡ happenings (λ _. no_call) (labels_of l.labels))
