use Rattle.lc_table.proofs.Later.{kept_on, keeps_itself}
use Rattle.lc_houdini.proofs.searching.entered_for.Goals as goal

pub loop-condition-init : goal.loop-condition-init
loop-condition-init c = keeps_itself c.args.terms.now

pub loop-condition-preserved : goal.loop-condition-preserved
loop-condition-preserved c = kept_on c.args.terms.now c.loop-condition.terms c.enter_at.new.terms c.loop-condition.invariant c.in_ok-enter_at.ensures.kept
