use Rattle.std.proofs.Common.{ap}
use Rattle.std.specs.Prelude.{sum_by}
use Rattle.lc_sexp.specs.Shown.{rest_of}
use Rattle.lc_object_text.specs.DeclaredView.{body_view}
use Rattle.lc_outline_text.proofs.Counting.{count_without_rest, counted_more, count_cap_reached, few_counted}
use Rattle.lc_outline_text.proofs.Walks.{point_more}
use Rattle.lc_outline_text.specs.DeclarationsView.{declarations_view}
use Rattle.lc_outline_text.specs.Sizes.{point_conditions}
use Rattle.lc_outline_text.specs.Views.{totals_view}
use Rattle.lc_outline_text.proofs.conditions.points_conditions.Goals as goal

pub returns-in_default-clause-count : goal.returns-in_default-clause-count
returns-in_default-clause-count c =
    let each = point_conditions (declarations_view c.args.counting.declarations.now) (totals_view c.args.counting.totals) c.args.counting.operation (body_view c.args.counting.body.now) c.args.counting.asserts.now in
    count_without_rest c.points.count _ _ c.points.invariant.few (ap (sum_by each) c.in_default.ensures) c.points.invariant.counted

pub points-preserved : goal.points-preserved
points-preserved c =
    let each = point_conditions (declarations_view c.args.counting.declarations.now) (totals_view c.args.counting.totals) c.args.counting.operation (body_view c.args.counting.body.now) c.args.counting.asserts.now in
    record {
      set = c.in_ok-more.ensures.set;
      few = few_counted c.capped_sum-count.result _ c.capped_sum-count.ensures;
      counted = counted_more c.points.count c.in_ok-more.more (each (rest_of c.in-Some.point)) _ _ c.capped_sum-count.result _ c.in_ok-more.ensures.count c.capped_sum-count.ensures
          (point_more each c.points.some c.points.rest c.in-Some.point c.next_form.new.list c.in-Some.ensures) c.points.invariant.counted;
    }

pub returns-then-count-ge-COUNT_CAP-clause-count : goal.returns-then-count-ge-COUNT_CAP-clause-count
returns-then-count-ge-COUNT_CAP-clause-count c = count_cap_reached c.points.count _ _ c.if-count-ge-COUNT_CAP.true c.points.invariant.few c.points.invariant.counted
