use Rattle.std.proofs.Common.{take}
use Rattle.lc_linear.specs.Closing.{combined, entries_in}
use Rattle.lc_linear.specs.Form.{form_of}
use Rattle.lc_linear.specs.LinForm.{IsFormIn}
use Rattle.lc_linear.proofs.closing.quick_sum.Given as goal

-- the form of the entries so far
abbrev pub invariant-loop-formula : goal.invariant-loop-formula
invariant-loop-formula l = IsFormIn l.terms l.sum (form_of (combined (entries_in l.terms (take l.formula-index l.entries))))
