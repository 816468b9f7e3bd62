use Rattle.lc_outline.specs.DevelopmentView.{development_view}
use Rattle.lc_cond.specs.Conditions.{conditions_in}
use Rattle.lc_cond.specs.PartView.{part_of}
use Rattle.lc_cond.proofs.Stretched.{all_adds}
use Rattle.lc_cond.proofs.part.push_with.Goals as goal

pub returns-in_ok-push_part-in_default-clause-with : goal.returns-in_ok-push_part-in_default-clause-with
returns-in_ok-push_part-in_default-clause-with c =
    all_adds c.args.conditions.now.items c.push_part.new.terms c.push_part.new.conditions.items (conditions_in (development_view c.args.development.now) (part_of c.args.part)) c.args.wanted.place c.in_ok-push_part-in_default.ensures.list
