use Rattle.std.proofs.Common.{◌≡◌, ◌++◌, drop}
use Rattle.lc_place.specs.Excerpt.{under_before}
use Rattle.lc_place.proofs.excerpt.push_under_before.Given as goal

abbrev pub invariant-loop-byte : goal.invariant-loop-byte
invariant-loop-byte l = l.text.items ++ under_before (drop l.byte-index l.bytes) ≡ l.fn.text.items ++ under_before l.bytes
