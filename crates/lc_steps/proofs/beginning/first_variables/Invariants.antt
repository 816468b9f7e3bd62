use Rattle.std.proofs.Common.{◌≡◌, pos, ◌∷◌, ◌++◌, replicate}
use Rattle.lc_steps.proofs.beginning.first_variables.Given as goal

-- a 0 for each local so far
abbrev pub invariant-loop : goal.invariant-loop
invariant-loop l = l.values.items ≡ pos l.clients ∷ pos l.client ∷ l.numbers ++ replicate l.index (pos 0)
