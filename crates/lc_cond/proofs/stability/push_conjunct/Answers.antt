use Rattle.std.proofs.Common.{None, subst}
use Rattle.std.proofs.lemmas.List.{take_all}
use Rattle.lc_cond.specs.Crossings.{MakesStable}
use Rattle.lc_cond.specs.Heads.{MakesOne}
use Rattle.lc_cond.specs.declared.condition.Kind.TheVariants as K
use Rattle.lc_cond.specs.declared.condition.Passage.TheVariants as P
use Rattle.lc_cond.specs.declared.condition.Which.TheVariants as W
use Rattle.lc_cond.specs.declared.making.Head.{Head}
use Rattle.lc_cond.proofs.Crossed.{stable_none, stable_more}
use Rattle.lc_cond.proofs.stability.push_conjunct.Goals as goal

pub loop-action-init : goal.loop-action-init
loop-action-init c = stable_none c.args.point c.args.number c.args.place c.args.conditions.now.items

pub loop-action-preserved : goal.loop-action-preserved
loop-action-preserved c =
    let crossing = c.index-crossings-action.result in
    let now = c.loop-action.conditions.items in
    let new = c.push_one.new.conditions.items in
    let head : Head = record { kind = K.Stable; variables = crossing.variables; point = c.args.point; passage = P.Action c.loop-action.action; path = None } in
    stable_more c.args.point c.args.number c.args.place c.args.crossings.now c.loop-action.action crossing c.index-goal.result.now c.args.conditions.now.items now new c.loop-action-test.true c.index-crossings-action.is c.loop-action.invariant
    (subst (λ g. MakesOne head (W.Numbered c.args.number) crossing.hypotheses g now new) c.index-goal.ensures c.in_ok-push_one.ensures)

pub returns : goal.returns
returns c =
    subst (λ l. MakesStable c.args.point c.args.number c.args.place l c.args.conditions.now.items c.loop-action.conditions.items) (take_all c.loop-action.action c.args.crossings.now c.loop-action-test.false) c.loop-action.invariant
