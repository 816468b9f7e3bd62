use Rattle.std.proofs.Common.{subst}
use Rattle.lc_check.proofs.Walking.{first_left}
use Rattle.lc_cond.specs.ConditionView.{AreConditions}
use Rattle.lc_check.proofs.walk.Walk.report_missing.Goals as goal

pub miss-requires : goal.miss-requires
miss-requires g c =
    let walk = c.args.self.now in
    let left = first_left walk.part.items walk.place c.index-condition.result.now c.requires.stands c.index-condition.ensures in
    (subst (AreConditions walk.terms) left c.requires.known).0
