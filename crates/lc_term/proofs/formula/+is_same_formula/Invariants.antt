use Rattle.std.proofs.Common.{◌≡◌, drop}
use Rattle.lc_term.specs.Syntax.{formulas}
use Rattle.lc_term.specs.Equal.{formulas_eq}
use Rattle.lc_term.specs.View.{formulas_of}
use Rattle.lc_term.proofs.formula.+is_same_formula.Given as goal

-- what is left is the same exactly if all is
abbrev pub invariant-are_same_formulas-loop-i : goal.invariant-are_same_formulas-loop-i
invariant-are_same_formulas-loop-i l =
    formulas_eq (formulas (formulas_of l.left)) (formulas (formulas_of l.right)) ≡ formulas_eq (formulas (formulas_of (drop l.i l.left))) (formulas (formulas_of (drop l.i l.right)))
