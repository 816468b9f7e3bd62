use Rattle.std.proofs.Common.{◌≡◌, ◌+◌, ◌≤◌}
use Rattle.std.specs.Prelude.{codes, sum_by}
use Rattle.lc_sexp.specs.Shown.{rest_of}
use Rattle.lc_object_text.specs.DeclaredView.{body_view}
use Rattle.lc_object_text.specs.ObjectNames.{points_in}
use Rattle.lc_object_text.specs.Seen.{size, forms_left}
use Rattle.lc_outline_text.specs.DeclarationsView.{declarations_view}
use Rattle.lc_outline_text.specs.Sizes.{point_conditions}
use Rattle.lc_outline_text.specs.StoredView.{IsSet}
use Rattle.lc_outline_text.specs.Views.{capped, totals_view, count_cap}
use Rattle.lc_outline_text.proofs.conditions.points_conditions.Given as goal

-- the conditions so far, with those of the points that are left, are all
abbrev pub invariant-points : goal.invariant-points
invariant-points l = record {
  set : IsSet l.set;
  few : l.count ≤ count_cap;
  counted :
      let each = point_conditions (declarations_view l.counting.declarations.now) (totals_view l.counting.totals) l.counting.operation (body_view l.counting.body.now) l.counting.asserts.now in
      capped (l.count + sum_by each (forms_left l.some (codes "point") (rest_of l.rest))) ≡ capped (sum_by each (points_in (rest_of l.fn.list)));
}

abbrev pub decreases-points : goal.decreases-points
decreases-points l = size l.rest
