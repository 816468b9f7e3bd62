use Rattle.std.proofs.Common.{◌≡◌, drop}
use Rattle.lc_linear.specs.Closing.{entries_in, are_allowed}
use Rattle.lc_linear.proofs.closing.are_allowed.Given as goal

-- the entries that are left decide
abbrev pub invariant-loop-formula : goal.invariant-loop-formula
invariant-loop-formula l = are_allowed (entries_in l.terms l.entries) ≡ are_allowed (entries_in l.terms (drop l.formula-index l.entries))
