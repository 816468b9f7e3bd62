use Rattle.std.proofs.Common.{refl}
use Rattle.lc_term.specs.Syntax as S
use Rattle.lc_table.specs.Tables.{term_in}
use Rattle.lc_linear.proofs.Made.{adds_difference}
use Rattle.lc_linear.proofs.Numbers.{wide_number_kept, product_kept}
use Rattle.lc_linear.proofs.quick.add_difference.Goals as goal

pub returns : goal.returns
returns c =
    let ts = c.args.terms.now in
    adds_difference ts c.args.form.now c.add_term-2.new.form (S.Subtract (term_in ts c.args.left) (term_in ts c.args.right)) c.args.count _ (wide_number_kept c.args.count c.ranges.count) (term_in ts c.args.left) (term_in ts c.args.right) c.add_term.new.form _ refl
    (product_kept _ _ c.in_ok-difference.ensures) c.in_ok-add_term.ensures c.in_ok-add_term-2.ensures
