use Rattle.std.proofs.Common.{arith}
use Rattle.lc_sexp.specs.Shown.{rest_of}
use Rattle.lc_outline_text.proofs.Counting.{count_without_rest, counted_more, count_cap_reached, few_counted}
use Rattle.lc_outline_text.proofs.Walks.{no_trees, no_bodies, body_more}
use Rattle.lc_outline_text.specs.DeclarationsView.{declarations_view}
use Rattle.lc_outline_text.specs.Views.{totals_view}
use Rattle.lc_outline_text.proofs.conditions.bodies_conditions.Goals as goal

pub returns-in_default-clause-count : goal.returns-in_default-clause-count
returns-in_default-clause-count c =
    let d = declarations_view c.args.declarations.now in
    let n = totals_view c.args.totals in
    count_without_rest c.loop-body.count _ _ c.loop-body.invariant.few (no_trees d n c.loop-body.operation _ (rest_of c.loop-body.rest) c.in_default.ensures.1) c.loop-body.invariant.conditions

pub loop-body-preserved : goal.loop-body-preserved
loop-body-preserved c =
    let d = declarations_view c.args.declarations.now in
    let n = totals_view c.args.totals in
    let (at, next) = c.in-Ok.ensures in
    record {
      set = c.in_ok-more.ensures.set;
      conditions = counted_more c.loop-body.count c.in_ok-more.more _ _ _ c.capped_sum-count.result _ c.in_ok-more.ensures.count c.capped_sum-count.ensures
          (body_more d n c.loop-body.operation c.loop-body.body-index c.args.declarations.now.declared.bodies.items c.deref-body-items.result.now c.body-item.result c.loop-body.rest c.next_part.new.list c.in-Ok.part
          (rest_of c.parts_in-parts.result) c.loop-body-test.true c.deref-body-items.ensures.value c.body-item.is next.rest c.parts_in-parts.ensures)
          c.loop-body.invariant.conditions;
      few = few_counted c.capped_sum-count.result _ c.capped_sum-count.ensures;
      number = omega (arith, c.loop-body.invariant.number);
    }

pub returns-clause-count : goal.returns-clause-count
returns-clause-count c =
    let d = declarations_view c.args.declarations.now in
    let n = totals_view c.args.totals in
    count_without_rest c.loop-body.count _ _ c.loop-body.invariant.few
    (no_bodies d n c.loop-body.operation c.loop-body.body-index c.args.declarations.now.declared.bodies.items c.deref-body-items.result.now (rest_of c.loop-body.rest) c.loop-body-test.false c.deref-body-items.ensures.value)
    c.loop-body.invariant.conditions

pub returns-then-count-ge-COUNT_CAP-clause-count : goal.returns-then-count-ge-COUNT_CAP-clause-count
returns-then-count-ge-COUNT_CAP-clause-count c = count_cap_reached c.loop-body.count _ _ c.if-count-ge-COUNT_CAP.true c.loop-body.invariant.few c.loop-body.invariant.conditions
