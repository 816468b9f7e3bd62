-- The numbers of reasons.
use Rattle.std.specs.Prelude.{ℕ}
use Rattle.lc_kernel.specs.declared.reason.Reason.{Reason}
use Rattle.lc_kernel.specs.declared.reason.Reason.TheVariants.{NoHypothesis, WrongForm, VariableNotInUse, DoesNotClose, NotDivisible, NotOpposite, IsOpen, WrongQuotient}

-- the number by which a refusal tells a reason
abbrev pub code_of : Reason → ℕ
code_of NoHypothesis = 1
code_of WrongForm = 2
code_of VariableNotInUse = 3
code_of DoesNotClose = 4
code_of NotDivisible = 5
code_of NotOpposite = 6
code_of IsOpen = 7
code_of WrongQuotient = 8
