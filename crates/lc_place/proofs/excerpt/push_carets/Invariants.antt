use Rattle.std.proofs.Common.{◌≡◌, ◌++◌, drop}
use Rattle.lc_place.specs.Excerpt.{carets}
use Rattle.lc_place.proofs.excerpt.push_carets.Given as goal

abbrev pub invariant-loop-byte : goal.invariant-loop-byte
invariant-loop-byte l = l.text.items ++ carets (drop l.byte-index l.bytes) ≡ l.fn.text.items ++ carets l.bytes
