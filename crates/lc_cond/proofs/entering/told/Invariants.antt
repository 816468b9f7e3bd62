use Rattle.std.proofs.Common.{map, take}
use Rattle.lc_term.specs.Replacement.{replace}
use Rattle.lc_table.specs.Tables.{Keeps, formulas_in}
use Rattle.lc_cond.specs.Adding.{HasFormulas}
use Rattle.lc_put.specs.Put.{Remembers, replacement_of}
use Rattle.lc_cond.proofs.entering.told.Given as goal

-- the formulas so far
abbrev pub invariant-loop-formula : goal.invariant-loop-formula
invariant-loop-formula l =
    Keeps l.fn.terms l.terms × Remembers (replacement_of l.put) l.terms l.done
    × HasFormulas l.terms l.numbers.items (map (replace (replacement_of l.put)) (formulas_in l.fn.terms (take l.formula-index l.formulas)))
