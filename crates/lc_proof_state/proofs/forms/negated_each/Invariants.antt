use Rattle.std.proofs.Common.{◌≡◌, ◌++◌, drop}
use Rattle.lc_kernel.specs.Table.{negations}
use Rattle.lc_term.specs.View.{formulas_of}
use Rattle.lc_proof_state.proofs.forms.negated_each.Given as goal

-- those so far, with those that are left, are all
abbrev pub invariant-loop-formula : goal.invariant-loop-formula
invariant-loop-formula l = formulas_of l.all.items ++ negations (formulas_of (drop l.formula-index l.formulas)) ≡ negations (formulas_of l.formulas)
