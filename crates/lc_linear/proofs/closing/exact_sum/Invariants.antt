use Rattle.std.proofs.Common.{take}
use Rattle.lc_linear.specs.Closing.{combined, entries_in}
use Rattle.lc_linear.specs.Form.{form_of, HasForm}
use Rattle.lc_linear.specs.LinForm.{IsFormIn}
use Rattle.lc_linear.proofs.closing.exact_sum.Given as goal

-- the form of the entries so far, which can be made
abbrev pub invariant-loop-formula : goal.invariant-loop-formula
invariant-loop-formula l =
    HasForm (combined (entries_in l.terms (take l.formula-index l.entries))) × IsFormIn l.terms l.sum (form_of (combined (entries_in l.terms (take l.formula-index l.entries))))
