use Rattle.std.proofs.Common.{map}
use Rattle.lc_cond.specs.ConditionView.{condition_in}
use Rattle.lc_outline.specs.DevelopmentView.{development_view}
use Rattle.lc_explain_cert.proofs.Bounds.{part_bounded}
use Rattle.lc_explain_cert.proofs.misses.seek_all.Goals as goal

pub seek_part-requires-clause-bounded : goal.seek_part-requires-clause-bounded
seek_part-requires-clause-bounded c =
    let part = c.in_ok-part.part in
    part_bounded (development_view c.args.development.now) part.first (map (condition_in c.part_with.new.terms) part.conditions.items) c.conditions_use_their_variables.ensures
    c.conditions_have_few_variables.ensures c.in_ok-part.ensures.part.stand
