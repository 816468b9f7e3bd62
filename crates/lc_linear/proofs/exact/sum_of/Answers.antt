use Rattle.std.proofs.Common.{Some, subst}
use Rattle.lc_table.specs.Tables.{term_in}
use Rattle.lc_linear.specs.LinForm.{numbers}
use Rattle.lc_linear.specs.PartForms.{IsMade}
use Rattle.lc_linear.proofs.Made.{sum_given}
use Rattle.lc_linear.proofs.exact.sum_of.Goals as goal

pub returns : goal.returns
returns c ts k l r is left right =
    let first : IsMade ts l (Some c.in-Some.left) = subst (IsMade ts l) c.in-Some.is left in
    let second : IsMade ts r (Some c.in-Some-right.right) = subst (IsMade ts r) c.in-Some-right.is right in
    c.made.ensures ts k
    (sum_given ts (numbers c.in-Some.left) (numbers c.in-Some-right.right) (term_in ts l) (term_in ts r) (term_in ts k) first.1 second.1 first.0 second.0 c.plus.result is c.plus.ensures)
