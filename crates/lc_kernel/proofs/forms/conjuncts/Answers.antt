use Rattle.std.proofs.Common.{◌∙◌}
use Rattle.lc_kernel.proofs.Numbered.{and_opened}
use Rattle.lc_kernel.proofs.forms.conjuncts.Goals as goal

pub returns-in_ok-copied-in-And : goal.returns-in_ok-copied-in-And
returns-in_ok-copied-in-And c =
    and_opened c.args.terms.now c.args.formula c.formula_node.result.now c.in-And.parts c.in_ok-copied-in-And.field-0.items c.formula_node.ensures.tree c.formula_node.ensures.fits c.in-And.is (c.in_ok-copied-in-And.ensures ∙ c.deref.ensures.value)
