use Rattle.std.proofs.Common.{◌≡◌, take}
use Rattle.lc_linear.specs.Form.{Place}
use Rattle.lc_linear.specs.LinForm.{numbers}
use Rattle.lc_linear.specs.Owed.{owed_in, total}
use Rattle.lc_linear.proofs.shared.owed_of.Given as goal

-- the multiples so far are owed
abbrev pub invariant-loop-term : goal.invariant-loop-term
invariant-loop-term l = (p : Place) → owed_in l.terms (numbers l.owed) p ≡ total l.terms (take l.term-index l.multiples) p
