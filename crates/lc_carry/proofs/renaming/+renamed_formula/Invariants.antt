use Rattle.std.proofs.Common.{◌≡◌, ◌*◌, ◌+◌, take}
use Rattle.std.specs.Prelude.{map}
use Rattle.lc_term.specs.Replacement.{replace}
use Rattle.lc_term.specs.View.{formulas_of}
use Rattle.lc_carry.specs.Renaming.{column_for, renaming}
use Rattle.lc_carry.proofs.renaming.+renamed_formula.Given as goal

-- the formulas so far are renamed
abbrev pub invariant-renamed_parts-loop-part : goal.invariant-renamed_parts-loop-part
invariant-renamed_parts-loop-part l = formulas_of l.renamed.items ≡ map (replace (renaming (column_for l.columns))) (formulas_of (take l.part-index l.parts))

abbrev pub decreases-renamed_formula : goal.decreases-renamed_formula
decreases-renamed_formula l = 3 * goal.size-renamed_formula l

-- a box comes before what is in it, and a list before the boxes of what is in it
abbrev pub decreases-boxed_formula : goal.decreases-boxed_formula
decreases-boxed_formula l = 3 * goal.size-boxed_formula l + 1

abbrev pub decreases-renamed_parts : goal.decreases-renamed_parts
decreases-renamed_parts l = 3 * goal.size-renamed_parts l + 2
