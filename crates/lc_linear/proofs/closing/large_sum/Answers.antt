use Rattle.std.proofs.Common.{sym, subst}
use Rattle.std.specs.Prelude.{IfSome}
use Rattle.lc_linear.specs.Closing.{combined, entries_in}
use Rattle.lc_linear.proofs.Loads.{together_form}
use Rattle.lc_linear.specs.Owed.{AreTogether, IsLightTotal}
use Rattle.lc_linear.proofs.closing.large_sum.Goals as goal

pub returns-in-Some : goal.returns-in-Some
returns-in-Some c =
    let ts = c.args.terms.now in
    let t = combined (entries_in ts c.args.entries.now) in
    together_form ts c.deref.result.now t c.in-Some.sum (subst (λ ms. AreTogether ts ms t) (sym c.deref.ensures.value) c.in_ok-multiples_of.ensures)
    (subst (λ o. IfSome o (IsLightTotal ts c.deref.result.now)) c.in-Some.is c.in_ok-sum.ensures)
