use Rattle.std.proofs.Common.{◌≡◌}
use Rattle.lc_object.specs.WellFormed.{are_code_formulas}
use Rattle.lc_term.proofs.Evaluated.{parts_from}
use Rattle.lc_object.proofs.testing.+is_code_formula.Given as goal

-- the parts that are left decide the answer
abbrev pub invariant-are_code_formulas-loop-part : goal.invariant-are_code_formulas-loop-part
invariant-are_code_formulas-loop-part l = are_code_formulas l.variables (parts_from l.parts 0) ≡ are_code_formulas l.variables (parts_from l.parts l.part-index)
