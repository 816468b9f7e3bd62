use Rattle.std.proofs.Common.{◌≡◌, ◌++◌, flat_map, take}
use Rattle.lincheck.specs.Run.{ended_text}
use Rattle.lincheck.proofs.run.push_all_ended.Given as goal

-- the clients so far
abbrev pub invariant-loop-ended : goal.invariant-loop-ended
invariant-loop-ended l = l.line.items ≡ l.fn.line.items ++ flat_map ended_text (take l.ended-index l.ends)
