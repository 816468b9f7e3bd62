use Rattle.std.proofs.Common.{subst}
use Rattle.lc_cond.specs.ConditionView.{AreConditions}
use Rattle.lc_check.proofs.Walking.{first_left}
use Rattle.lc_find.proofs.taking.sought.Goals as goal

pub search-requires-clause-hypotheses : goal.search-requires-clause-hypotheses
search-requires-clause-hypotheses c =
    let walk = c.args.walk.now in
    let left = first_left walk.part.items walk.place c.index-condition.result.now c.requires.stands c.index-condition.ensures in
    let known = subst (AreConditions walk.terms) left c.requires.known in
    known.0.0

pub search-requires-clause-goal : goal.search-requires-clause-goal
search-requires-clause-goal c =
    let walk = c.args.walk.now in
    let left = first_left walk.part.items walk.place c.index-condition.result.now c.requires.stands c.index-condition.ensures in
    let known = subst (AreConditions walk.terms) left c.requires.known in
    known.0.1
