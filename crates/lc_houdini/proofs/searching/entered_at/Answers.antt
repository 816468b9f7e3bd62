use Rattle.lc_table.proofs.Later.{kept_on, keeps_itself}
use Rattle.lc_houdini.proofs.searching.entered_at.Goals as goal

pub loop-formula-init : goal.loop-formula-init
loop-formula-init c = keeps_itself c.args.terms.now

pub loop-formula-preserved : goal.loop-formula-preserved
loop-formula-preserved c = kept_on c.args.terms.now c.loop-formula.terms c.enter_formula.new.self c.loop-formula.invariant c.in_ok-enter_formula.ensures.kept
