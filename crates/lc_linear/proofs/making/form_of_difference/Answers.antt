use Rattle.std.proofs.Common.{refl}
use Rattle.lc_term.specs.Syntax as S
use Rattle.lc_table.specs.Tables.{term_in}
use Rattle.lc_linear.specs.LinForm.{numbers}
use Rattle.lc_linear.proofs.Made.{difference_given}
use Rattle.lc_linear.proofs.making.form_of_difference.Goals as goal

pub returns-in_ok-exact_form-in-None-2 : goal.returns-in_ok-exact_form-in-None-2
returns-in_ok-exact_form-in-None-2 c =
    let ts = c.args.terms.now in
    let l = c.in_ok-exact_form-in-None.ensures in
    let r = c.in_ok-exact_form-in-None-2.ensures in
    difference_given ts (numbers c.in_ok-exact_form-in-None.field-0) (numbers c.in_ok-exact_form-in-None-2.field-0) (term_in ts c.args.left) (term_in ts c.args.right) (S.Subtract (term_in ts c.args.left) (term_in ts c.args.right)) l.1 r.1 l.0 r.0 c.subtract.result refl
    c.subtract.ensures
