use Rattle.std.proofs.Common.{◌≡◌, length}
use Rattle.lc_linear.proofs.Quotients.{DividedSoFar}
use Rattle.lc_linear.proofs.form.LinForm.divided.Given as goal

-- the coefficients of the entries so far are divided, and nothing else has changed
abbrev pub invariant-loop-index : goal.invariant-loop-index
invariant-loop-index l =
    DividedSoFar l.divisor l.initial.quotient.coefficients.entries l.quotient.coefficients.entries l.index ×
    (length l.quotient.coefficients.entries ≡ l.index-end) × (l.quotient.constant ≡ l.initial.quotient.constant)
