use Rattle.std.proofs.Common.{◌≡◌, take}
use Rattle.lc_table.specs.Tables.{formulas_in, AreFormulas, Keeps}
use Rattle.lc_kernel.specs.Table.{negations}
use Rattle.lc_kernel.proofs.forms.negated_each.Given as goal

-- the formulas so far are negated
abbrev pub invariant-loop-formula : goal.invariant-loop-formula
invariant-loop-formula l =
    Keeps l.fn.terms l.terms × AreFormulas l.terms l.negated_all.items × (formulas_in l.terms l.negated_all.items ≡ negations (formulas_in l.fn.terms (take l.formula-index l.formulas)))
