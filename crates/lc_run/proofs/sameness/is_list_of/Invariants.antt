use Rattle.std.proofs.Common.{◌≡◌, ◌↔◌, drop}
use Rattle.lc_run.specs.LabelView.{labels_of}
use Rattle.lc_run.specs.Labels.{labels_by}
use Rattle.lc_run.proofs.sameness.is_list_of.Given as goal

-- the list is that of the client's labels exactly if the rest of it is that of the remaining labels
abbrev pub invariant-loop-label : goal.invariant-loop-label
invariant-loop-label l = (labels_by l.client (labels_of l.fn.labels) ≡ labels_of l.fn.list) ↔ (labels_by l.client (labels_of (drop l.label-index l.labels)) ≡ labels_of l.rest)
