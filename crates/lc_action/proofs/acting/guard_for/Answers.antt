use Rattle.std.proofs.Common.{sym, ap, subst, map, ◌∙◌}
use Rattle.lc_term.specs.View.{term_of, formula_of}
use Rattle.lc_action.proofs.Tellable.{AreClosed, closed_tellable, acting_closed}
use Rattle.lc_action.proofs.acting.guard_for.Goals as goal

pub told-requires : goal.told-requires
told-requires c =
    closed_tellable c.deref.result.now (formula_of c.args.action.now.guard)
    (subst AreClosed (sym (ap (map term_of) c.deref.ensures.value ∙ c.in_ok-variables.ensures)) (acting_closed c.args.actor.now c.args.arguments.now c.requires.actor c.requires.arguments))
