use Rattle.lc_linear.specs.Owed.{IsTogether, total}
use Rattle.lc_linear.proofs.shared.light_form.Given as goal

-- the form and what is owed to it are together what was owed in the beginning
abbrev pub invariant-loop-node : goal.invariant-loop-node
invariant-loop-node l = IsTogether l.terms l.form l.owed (total l.terms l.fn.multiples)
