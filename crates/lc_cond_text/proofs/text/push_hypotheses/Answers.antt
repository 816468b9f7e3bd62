use Rattle.lc_table.proofs.Listed.{are_formulas-get}
use Rattle.lc_cond_text.proofs.text.push_hypotheses.Goals as goal

pub push_repeated-requires-clause-formula : goal.push_repeated-requires-clause-formula
push_repeated-requires-clause-formula c = are_formulas-get c.args.terms.now c.args.formulas.now c.loop-formula.formula-index (record { 0 = 0 }) c.requires.formulas c.loop-formula-test.true
