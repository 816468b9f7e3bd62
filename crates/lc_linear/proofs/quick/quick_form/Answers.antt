use Rattle.lc_table.specs.Tables.{term_in}
use Rattle.lc_linear.specs.Form.{form_of}
use Rattle.lc_linear.proofs.Made.{added_alone}
use Rattle.lc_linear.proofs.quick.quick_form.Goals as goal

pub returns : goal.returns
returns c = added_alone c.args.terms.now c.zero-form.result c.add_term.new.form (form_of (term_in c.args.terms.now c.args.term)) c.zero-form.ensures c.in_ok-add_term.ensures
