use Rattle.std.proofs.Common.{◌≡◌, drop}
use Rattle.lc_term.specs.Places.{all_pass}
use Rattle.lc_term.specs.Syntax.{formulas}
use Rattle.lc_term.specs.View.{formulas_of}
use Rattle.lc_carry.specs.Renaming.{column_for, covered}
use Rattle.lc_carry.proofs.covering.+is_formula_covered.Given as goal

-- what is left passes exactly if all does
abbrev pub invariant-are_parts_covered-loop-part : goal.invariant-are_parts_covered-loop-part
invariant-are_parts_covered-loop-part l =
    all_pass (λ n. covered (column_for l.columns)) 0 (formulas (formulas_of l.parts)) ≡ all_pass (λ n. covered (column_for l.columns)) 0 (formulas (formulas_of (drop l.part-index l.parts)))
