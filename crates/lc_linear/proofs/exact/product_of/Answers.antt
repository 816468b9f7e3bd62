use Rattle.std.proofs.Common.{rules, Some, subst, w64}
use Rattle.std.specs.Prelude.{FitsSigned}
use Rattle.lc_table.specs.Tables.{term_in}
use Rattle.lc_linear.specs.LinForm.{numbers}
use Rattle.lc_linear.specs.PartForms.{IsMade}
use Rattle.lc_linear.proofs.Made.{product_given}
use Rattle.lc_linear.proofs.Numbers.{widened_number}
use Rattle.lc_linear.proofs.exact.product_of.Goals as goal

pub returns : goal.returns
returns c ts k l is part =
    let made : IsMade ts l (Some c.in-Some.form) = subst (IsMade ts l) c.in-Some.is part in
    let fits : FitsSigned w64 c.args.factor = search rules in
    c.made.ensures ts k
    (product_given ts (numbers c.zero.result) (numbers c.in-Some.form) c.args.factor _ (term_in ts l) (term_in ts k) c.add_scaled.result is (widened_number c.args.factor c.from.result fits c.from.ensures)
    c.zero.ensures made.1 made.0 c.add_scaled.ensures)
