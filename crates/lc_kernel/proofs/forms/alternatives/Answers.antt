use Rattle.std.proofs.Common.{◌∙◌}
use Rattle.lc_kernel.proofs.Numbered.{or_opened}
use Rattle.lc_kernel.proofs.forms.alternatives.Goals as goal

pub returns-in_ok-copied-in-Or-clause-made : goal.returns-in_ok-copied-in-Or-clause-made
returns-in_ok-copied-in-Or-clause-made c =
    let opened = or_opened c.args.terms.now c.args.formula c.formula_node.result.now c.in-Or.parts c.in_ok-copied-in-Or.field-0.items c.formula_node.ensures.tree c.formula_node.ensures.fits c.in-Or.is (c.in_ok-copied-in-Or.ensures ∙ c.deref.ensures.value) in
    (opened.0, opened.1)
