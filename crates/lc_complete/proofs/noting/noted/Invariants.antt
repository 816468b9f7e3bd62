use Rattle.std.proofs.Common.{◌≡◌, ◌≤◌, ◌++◌, drop}
use Rattle.lc_complete.specs.Noted.{noted, noted_from}
use Rattle.lc_complete.proofs.noting.noted.Given as goal

-- what is left, from the line that was come to
abbrev pub invariant-loop-byte : goal.invariant-loop-byte
invariant-loop-byte l = (l.whole.items ++ noted_from l.marks l.line (drop l.byte-index l.text) ≡ noted l.marks l.text) × (l.line ≤ l.byte-index)
