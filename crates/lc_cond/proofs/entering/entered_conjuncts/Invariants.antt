use Rattle.std.proofs.Common.{map, take}
use Rattle.lc_table.specs.Tables.{Keeps}
use Rattle.lc_tie.specs.Tie.{formulas_of}
use Rattle.lc_tie.specs.TieView.{conjunct_of}
use Rattle.lc_cond.specs.Adding.{HasFormulas}
use Rattle.lc_cond.proofs.entering.entered_conjuncts.Given as goal

-- the conjuncts so far
abbrev pub invariant-loop-conjunct : goal.invariant-loop-conjunct
invariant-loop-conjunct l = Keeps l.fn.terms l.terms × HasFormulas l.terms l.numbers.items (formulas_of (map conjunct_of (take l.conjunct-index l.conjuncts)))
