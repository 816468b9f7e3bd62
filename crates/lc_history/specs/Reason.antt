-- The numbers of the reasons for which an order is refused.
use Rattle.std.specs.Prelude.{ℕ}
use Rattle.lc_history.specs.declared.reason.Reason.{Reason}
use Rattle.lc_history.specs.declared.reason.Reason.TheVariants.{OtherCall, OtherReply, MissingCall, NoStep, Preceded}

abbrev pub code_of : Reason → ℕ
code_of OtherCall = 1
code_of OtherReply = 2
code_of MissingCall = 3
code_of NoStep = 4
code_of Preceded = 5
