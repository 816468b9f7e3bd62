use Rattle.std.proofs.Common.{◌≡◌, ◌++◌, flat_map, take}
use Rattle.lincheck.specs.Run.{end_text}
use Rattle.lincheck.proofs.run.push_ends.Given as goal

-- the lines so far
abbrev pub invariant-loop-ended : goal.invariant-loop-ended
invariant-loop-ended l = l.text.items ≡ l.fn.text.items ++ flat_map end_text (take l.ended-index l.ends)
