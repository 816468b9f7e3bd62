use Rattle.lc_table.proofs.Listed.{are_formulas-get}
use Rattle.lc_houdini.proofs.goals.formula_at.Goals as goal

pub returns : goal.returns
returns c = are_formulas-get c.args.terms.now c.args.formulas.now c.args.place (record { 0 = 0 }) c.requires.formulas c.requires.within
