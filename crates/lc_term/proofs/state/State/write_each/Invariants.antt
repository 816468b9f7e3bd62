use Rattle.std.proofs.Common.{◌≡◌, length, drop}
use Rattle.lc_term.specs.Updates.{AreWithin}
use Rattle.lc_term.specs.UpdateView.{writes_view}
use Rattle.lc_term.specs.Written.{kept_of, after_writes, taken_back, CanTakeBack}
use Rattle.lc_term.proofs.state.State.write_each.Given as goal

-- what is left to write leads to the same, and what is done can be taken back
abbrev pub invariant-loop-write : goal.invariant-loop-write
invariant-loop-write l =
    let rest = writes_view (drop l.write-index l.writes) in
    record {
      within : AreWithin (length l.self.columns.items) rest;
      same : after_writes (kept_of l.self) rest ≡ after_writes (kept_of l.fn.self) (writes_view l.writes);
      back : taken_back (kept_of l.self) l.done.items ≡ taken_back (kept_of l.fn.self) l.fn.done.items;
      can : CanTakeBack (kept_of l.self) l.done.items;
      columns : length l.self.columns.items ≡ length l.fn.self.columns.items;
    }
