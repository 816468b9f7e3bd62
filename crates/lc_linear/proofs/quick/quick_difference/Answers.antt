use Rattle.lc_term.specs.Syntax as S
use Rattle.lc_table.specs.Tables.{term_in}
use Rattle.lc_linear.specs.Form.{form_of}
use Rattle.lc_linear.proofs.Made.{added_alone}
use Rattle.lc_linear.proofs.quick.quick_difference.Goals as goal

pub returns : goal.returns
returns c =
    added_alone c.args.terms.now c.zero-form.result c.add_difference.new.form (form_of (S.Subtract (term_in c.args.terms.now c.args.left) (term_in c.args.terms.now c.args.right))) c.zero-form.ensures
    c.in_ok-add_difference.ensures
