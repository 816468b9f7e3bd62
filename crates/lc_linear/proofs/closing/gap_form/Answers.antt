use Rattle.std.proofs.Common.{rules, ◌≡◌, sym, subst, lit<}
use Rattle.std.specs.Prelude.{pos}
use Rattle.lc_term.specs.Syntax.{Number}
use Rattle.lc_table.specs.Tables.{formula_in}
use Rattle.lc_linear.specs.Closing.{gap}
use Rattle.lc_linear.specs.Form.{form_of, HasForm}
use Rattle.lc_linear.specs.LinForm.{IsFormIn}
use Rattle.lc_linear.proofs.Made.{zero_read}
use Rattle.lc_linear.proofs.Weights.{HasForm-weight}
use Rattle.lc_linear.proofs.closing.gap_form.Goals as goal

pub returns-in_default : goal.returns-in_default
returns-in_default c =
    let none : gap (formula_in c.args.terms.now c.args.formula) ≡ Number (pos 0) = search rules in
    subst (λ t. HasForm t × IsFormIn c.args.terms.now c.zero.result (form_of t)) (sym none)
    (HasForm-weight (Number (pos 0)) (lit< tt), zero_read c.args.terms.now c.zero.result c.zero.ensures)
