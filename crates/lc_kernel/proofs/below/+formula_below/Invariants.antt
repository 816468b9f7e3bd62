use Rattle.std.proofs.Common.{◌≡◌, drop}
use Rattle.lc_kernel.specs.Below.{below}
use Rattle.lc_term.specs.Places.{all_pass}
use Rattle.lc_term.specs.Syntax.{formulas}
use Rattle.lc_term.specs.View.{formulas_of}
use Rattle.lc_kernel.proofs.below.+formula_below.Given as goal

-- what is left passes exactly if all does
abbrev pub invariant-parts_below-loop-part : goal.invariant-parts_below-loop-part
invariant-parts_below-loop-part l =
    all_pass (λ n. below l.count) 0 (formulas (formulas_of l.parts)) ≡ all_pass (λ n. below l.count) 0 (formulas (formulas_of (drop l.part-index l.parts)))
