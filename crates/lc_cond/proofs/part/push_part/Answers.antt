use Rattle.std.proofs.Common.{OnOk, sym, subst}
use Rattle.lc_outline.specs.DevelopmentView.{development_view}
use Rattle.lc_cond.specs.Adding.{Adds}
use Rattle.lc_cond.specs.Conditions.{conditions_in}
use Rattle.lc_cond.specs.PartView.{part_of, HasLimits}
use Rattle.lc_cond.proofs.part.push_part.Goals as goal

pub push_entry-requires : goal.push_entry-requires
push_entry-requires c = subst HasLimits c.in-Begin.is c.requires

pub returns-in-Begin-clause-list : goal.returns-in-Begin-clause-list
returns-in-Begin-clause-list c =
    subst (λ p. OnOk c.push_entry.result (Adds c.args.conditions.now.items c.push_entry.new.terms c.push_entry.new.conditions.items (conditions_in (development_view c.args.development.now) (part_of p))))
    (sym c.in-Begin.is) c.push_entry.ensures.list
