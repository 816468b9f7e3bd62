use Rattle.std.proofs.Common.{OnOk, subst}
use Rattle.lc_cond.specs.Heads.{MakesOne}
use Rattle.lc_cond.specs.declared.condition.Which.TheVariants.{Numbered}
use Rattle.lc_cond.proofs.edge_conditions.push_duty.Goals as goal

pub returns : goal.returns
returns c =
    let d = c.args.duty.now in
    subst (λ h. OnOk c.push_made.result (MakesOne h (Numbered d.rider) c.args.known d.goal c.args.conditions.now.items c.push_made.new.conditions.items)) c.on_path-head.ensures c.push_made.ensures
