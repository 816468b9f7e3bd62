use Rattle.std.proofs.Common.{◌≡◌}
use Rattle.lc_term.specs.Truth.{are_ground}
use Rattle.lc_term.proofs.Evaluated.{parts_from}
use Rattle.lc_term.proofs.ground.+is_ground.Given as goal

-- the parts that are left decide the answer
abbrev pub invariant-are_ground_of_quantifiers-loop-part : goal.invariant-are_ground_of_quantifiers-loop-part
invariant-are_ground_of_quantifiers-loop-part l = are_ground (parts_from l.parts 0) ≡ are_ground (parts_from l.parts l.part-index)
