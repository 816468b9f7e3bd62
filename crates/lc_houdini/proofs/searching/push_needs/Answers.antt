use Rattle.lc_cond.proofs.Adding.{are_later}
use Rattle.lc_houdini.proofs.searching.push_needs.Goals as goal

pub push_entered-requires : goal.push_entered-requires
push_entered-requires c = are_later c.args.terms.now c.entered_for.new.terms c.args.conditions.now c.requires c.in_ok-entered.ensures.kept
