use Rattle.std.proofs.Common.{◌∙◌, Some, is_some, ap, sym, subst}
use Rattle.lc_term.specs.Syntax.{And, formulas}
use Rattle.lc_table.specs.Tables.{formulas_in, HasFormula}
use Rattle.lc_table.proofs.Later.{formula_is}
use Rattle.lc_kernel.specs.Table.{negations}
use Rattle.lc_kernel.proofs.Numbered.{or_opened}
use Rattle.lc_kernel.proofs.forms.pushed_inward.Goals as goal

pub returns-in_ok-none_of-in-Or-clause-made : goal.returns-in_ok-none_of-in-Or-clause-made
returns-in_ok-none_of-in-Or-clause-made c =
    let ts = c.args.terms.now in
    let now = c.none_of.new.terms in
    let k = c.in_ok-none_of-in-Or.field-0 in
    let opened = or_opened ts c.args.formula c.formula_node.result.now c.in-Or.parts c.in_ok-parts-in-Or.parts.items c.formula_node.ensures.tree c.formula_node.ensures.fits c.in-Or.is (c.in_ok-parts-in-Or.ensures ∙ c.deref.ensures.value) in
    let made = subst (λ l. HasFormula now k (And (formulas (negations (formulas_in ts l))))) c.deref-in-Or.ensures.value c.in_ok-none_of-in-Or.ensures.id in
    (ap is_some made, opened.2 ∙ ap Some (sym (formula_is now k _ made)))
