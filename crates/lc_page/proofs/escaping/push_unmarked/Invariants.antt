use Rattle.std.proofs.Common.{◌≡◌, ◌++◌, take}
use Rattle.lc_page.specs.Unmarked.{unmarked}
use Rattle.lc_page.proofs.escaping.push_unmarked.Given as goal

-- the bytes so far, with escapes
abbrev pub invariant-loop-byte : goal.invariant-loop-byte
invariant-loop-byte l = l.text.items ≡ l.fn.text.items ++ unmarked (take l.byte-index l.bytes)
