use Rattle.std.proofs.Common.{◌≡◌, ◌≤◌, ◌+◌, ◌-◌, ℕ, List, ◌++◌, length, take, vec_len}
use Rattle.lc_sexp.specs.Text.{uncommented}
use Rattle.lc_sexp.specs.CutFiles.{ends_in_comment}
use Rattle.lc_sexp.specs.Progress.{told, fault_from}
use Rattle.lc_sexp.proofs.machine.Machine.push_all.Given as goal

abbrev pub decreases-loop-at : goal.decreases-loop-at
decreases-loop-at l = length l.within - l.at

abbrev pub invariant-loop-at : goal.invariant-loop-at
invariant-loop-at l = record {
  within : l.at ≤ length l.within;
  offset : l.self.offset ≡ l.fn.self.offset + l.at;
  told : (rest : List ℕ) → told l.self.text.items l.self.start l.self.nodes.items (uncommented l.self.in_comment rest)
      ≡ told l.fn.self.text.items l.fn.self.start l.fn.self.nodes.items (uncommented l.fn.self.in_comment (take l.at l.within ++ rest));
  comment : l.self.in_comment ≡ ends_in_comment l.fn.self.in_comment (take l.at l.within);
  fault : (rest : List ℕ) → fault_from l.self.offset (vec_len l.self.holes) (uncommented l.self.in_comment rest)
      ≡ fault_from l.fn.self.offset (vec_len l.fn.self.holes) (uncommented l.fn.self.in_comment (take l.at l.within ++ rest));
}
