use Rattle.std.proofs.Common.{ℕ, IsTrue}
use Rattle.lc_term.specs.Places.{all_pass}
use Rattle.lc_term.specs.Syntax.{formulas}
use Rattle.lc_term.specs.View.{formulas_of}
use Rattle.lc_term.proofs.Each.{ReplacedBelow}
use Rattle.lc_action.specs.Telling.{tellable, telling_under}
use Rattle.lc_action.proofs.telling.+said_formula.Given as goal

-- the parts so far are said, and those that are left can be
abbrev pub invariant-said_formulas-loop-part : goal.invariant-said_formulas-loop-part
invariant-said_formulas-loop-part l =
    (n : ℕ) → IsTrue (all_pass (tellable l.before.columns.now l.before.variables.now) n (formulas (formulas_of l.parts))) →
    ReplacedBelow (tellable l.before.columns.now l.before.variables.now) n (telling_under l.before.columns.now l.before.variables.now n) l.each.items l.parts l.part-index
