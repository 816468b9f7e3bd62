use Rattle.std.proofs.Common.{◌≡◌, vec_len}
use Rattle.lc_run.specs.LabelView.{labels_of}
use Rattle.lc_run.proofs.SeatLists.{AreListed}
use Rattle.lc_run.proofs.finishing.lists_of.Given as goal

-- the seats so far have left their lists
abbrev pub invariant-loop-seat : goal.invariant-loop-seat
invariant-loop-seat g l = (vec_len l.lists ≡ vec_len l.fn.room) × AreListed (labels_of l._labels) l.lists.items l.yielded
