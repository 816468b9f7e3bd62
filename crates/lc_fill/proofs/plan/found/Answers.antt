use Rattle.std.proofs.Common.{◌+◌, drop, ◌∙◌}
use Rattle.lc_lemmas.proofs.Lists.{drop_at_element, dropped_all}
use Rattle.lc_fill.proofs.Drops.{found_here, found_later, found_none}
use Rattle.lc_fill.proofs.plan.found.Goals as goal

pub loop-one-preserved : goal.loop-one-preserved
loop-one-preserved c =
    let ps = c.args.planned.now in
    let i = c.loop-one.one-index in
    found_later (drop i ps) (drop (i + 1) ps) c.one-item.result c.args.place _ (drop_at_element ps i c.one-item.result c.loop-one-test.true c.one-item.is) c.if-at-place.false c.loop-one.invariant

pub returns-then-at-place : goal.returns-then-at-place
returns-then-at-place c =
    let ps = c.args.planned.now in
    let i = c.loop-one.one-index in
    c.cursor.ensures.rest ∙ found_here (drop i ps) (drop (i + 1) ps) c.one-item.result c.args.place _ (drop_at_element ps i c.one-item.result c.loop-one-test.true c.one-item.is) c.if-at-place.true c.loop-one.invariant

pub returns : goal.returns
returns c =
    let ps = c.args.planned.now in
    let i = c.loop-one.one-index in
    c.empty.ensures.rest ∙ found_none (drop i ps) c.args.place _ (dropped_all ps i c.loop-one-test.false) c.loop-one.invariant
