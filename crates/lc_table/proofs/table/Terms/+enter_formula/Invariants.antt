use Rattle.std.proofs.Common.{◌≡◌, take}
use Rattle.lc_term.specs.View.{formulas_of}
use Rattle.lc_table.specs.Tables.{formulas_in, AreFormulas, Keeps}
use Rattle.lc_table.proofs.table.Terms.+enter_formula.Given as goal

-- the formulas so far are entered
abbrev pub invariant-enter_formulas-loop-part : goal.invariant-enter_formulas-loop-part
invariant-enter_formulas-loop-part l =
    Keeps l.fn.self l.self × AreFormulas l.self l.entered.items × (formulas_in l.self l.entered.items ≡ formulas_of (take l.part-index l.parts))
