use Rattle.lc_cond.proofs.Adding.{are_later}
use Rattle.lc_houdini.proofs.implied.unmark_entered.Goals as goal

pub unmark-requires : goal.unmark-requires
unmark-requires c = are_later c.args.terms.now c.entered_for.new.terms c.args.conditions.now c.requires c.in_ok-entered.ensures.kept
