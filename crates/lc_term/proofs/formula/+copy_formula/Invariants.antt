use Rattle.std.proofs.Common.{◌≡◌, ◌+◌, ◌*◌, take}
use Rattle.lc_term.specs.View.{formulas_of}
use Rattle.lc_term.proofs.formula.+copy_formula.Given as goal

-- the formulas so far are copied
abbrev pub invariant-copy_formulas-loop-formula : goal.invariant-copy_formulas-loop-formula
invariant-copy_formulas-loop-formula l = formulas_of l.copies.items ≡ formulas_of (take l.formula-index l.formulas)

abbrev pub decreases-Formula::try_clone : goal.decreases-Formula::try_clone
decreases-Formula::try_clone l = 3 * goal.size-Formula::try_clone l

-- a box comes before what is in it, and a list before the boxes of what is in it
abbrev pub decreases-boxed_copy : goal.decreases-boxed_copy
decreases-boxed_copy l = 3 * goal.size-boxed_copy l + 1

abbrev pub decreases-copy_formulas : goal.decreases-copy_formulas
decreases-copy_formulas l = 3 * goal.size-copy_formulas l + 2
