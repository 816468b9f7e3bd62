use Rattle.lc_linear.specs.PartForms.{AreMade}
use Rattle.lc_linear.proofs.exact.exact_form.Given as goal

-- what is made of the nodes so far are their forms
abbrev pub invariant-loop-node : goal.invariant-loop-node
invariant-loop-node l = AreMade l.terms l.forms.entries
