use Rattle.std.proofs.Common.{take}
use Rattle.lc_term.specs.Lists.{Every}
use Rattle.lc_term.specs.State.{state_of}
use Rattle.lc_table.specs.Tables.{formulas_in}
use Rattle.lc_watch.specs.Watched.{Fails}
use Rattle.lc_blame.proofs.failing.none_fails.Given as goal

-- none so far
abbrev pub invariant-loop-formula : goal.invariant-loop-formula
invariant-loop-formula l = Every (λ h. Fails l.tried (state_of l.state) l.env.values.items h → ⊥) (formulas_in l.terms (take l.formula-index l.formulas))
