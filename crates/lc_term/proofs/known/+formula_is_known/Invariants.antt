use Rattle.std.proofs.Common.{◌≡◌}
use Rattle.lc_term.specs.Places.{are_known}
use Rattle.lc_term.proofs.Evaluated.{parts_from}
use Rattle.lc_term.proofs.known.+formula_is_known.Given as goal

-- the parts that are left decide the answer
abbrev pub invariant-are_known-loop-part : goal.invariant-are_known-loop-part
invariant-are_known-loop-part l = are_known l.columns l.variables (parts_from l.parts 0) ≡ are_known l.columns l.variables (parts_from l.parts l.part-index)
