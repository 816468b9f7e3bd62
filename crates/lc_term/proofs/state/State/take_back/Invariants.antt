use Rattle.std.proofs.Common.{◌≡◌, length}
use Rattle.lc_term.specs.Written.{kept_of, taken_back, CanTakeBack}
use Rattle.lc_term.proofs.state.State.take_back.Given as goal

-- what is left to take back leads to the same
abbrev pub invariant-undo : goal.invariant-undo
invariant-undo l = record {
  same : taken_back (kept_of l.self) l.done.items ≡ taken_back (kept_of l.initial.self) l.initial.done.items;
  can : CanTakeBack (kept_of l.self) l.done.items;
}

abbrev pub decreases-undo : goal.decreases-undo
decreases-undo l = length l.done.items
