use Rattle.std.proofs.Common.{◌≡◌, [], sym, subst, arith}
use Rattle.lc_cond.specs.Adding.{Adds}
use Rattle.lc_cond.proofs.Adding.{adds_nothing}
use Rattle.lc_cond.proofs.Crossed.{goals_enough, conjunct_more, conjuncts_all}
use Rattle.lc_cond.proofs.stability.push_conjuncts.Goals as goal

pub loop-place-init : goal.loop-place-init
loop-place-init c = λ ts D n hs asserts actions h count. subst (λ l. Adds c.args.conditions.now.items ts l []) (sym c.reserve.ensures.items) (adds_nothing c.args.conditions.now.items ts)

pub push_conjunct-requires : goal.push_conjunct-requires
push_conjunct-requires c = goals_enough c.args.count c.loop-place.place c.args.crossings.now c.requires.goals c.loop-place-test.true

pub loop-place-preserved : goal.loop-place-preserved
loop-place-preserved c =
    conjunct_more c.args.point c.args.first c.args.count c.loop-place.place c.args.crossings.now c.args.conditions.now.items c.loop-place.conditions.items c.push_conjunct.new.conditions.items c.loop-place-test.true
    c.loop-place.invariant c.in_ok-push_conjunct.ensures

pub returns : goal.returns
returns c =
    let end : c.loop-place.place ≡ c.args.count = omega arith in
    conjuncts_all c.args.point c.args.first c.args.count c.loop-place.place c.args.crossings.now c.args.conditions.now.items c.loop-place.conditions.items end c.loop-place.invariant
