use Rattle.std.proofs.Common.{ℕ, ◌+◌, List, map, Some, ap, ◌∙◌}
use Rattle.std.specs.Prelude.{sum, sum_by}
use Rattle.lc_sexp.specs.Shown.{rest_of}
use Rattle.lc_object_text.specs.DeclaredView.{body_view}
use Rattle.lc_object_text.specs.ObjectNames.{points_in}
use Rattle.lc_outline_text.proofs.Counting.{whole_counted}
use Rattle.lc_outline_text.specs.DeclarationsView.{declarations_view}
use Rattle.lc_outline_text.specs.Sizes.{assert_count, count_at, point_conditions}
use Rattle.lc_outline_text.specs.Views.{capped, totals_view}
use Rattle.lc_outline_text.proofs.conditions.body_conditions.Goals as goal

pub returns-clause-count : goal.returns-clause-count
returns-clause-count c =
    let points = points_in (rest_of c.args.list) in
    let asserts = map assert_count points in
    let each = λ (counts : List ℕ). point_conditions (declarations_view c.args.declarations.now) (totals_view c.args.totals) c.args.operation (body_view c.args.body.now) counts in
    let entry = c.count_at.ensures ∙ ap (λ counts. count_at counts (Some 0)) (c.deref.ensures.value ∙ c.in_ok-asserts.ensures) in
    whole_counted c.args.totals.invariant (count_at asserts (Some 0)) (sum_by (each asserts) points) (sum asserts) c.args.totals.actions c.capped_sum-entry.result c.in_ok-edges.edges c.capped_total.result
    c.capped_product-stable.result c.capped_sum.result c.capped_sum-2.result
    (c.capped_sum-entry.ensures ∙ ap (λ n. capped (c.args.totals.invariant + n)) entry)
    (c.in_ok-edges.ensures.count ∙ ap (λ counts. capped (sum_by (each counts) points)) (c.deref-2.ensures.value ∙ c.in_ok-asserts.ensures))
    (c.capped_total.ensures ∙ ap (λ counts. capped (sum counts)) (c.deref-3.ensures.value ∙ c.in_ok-asserts.ensures)) c.capped_product-stable.ensures c.capped_sum.ensures c.capped_sum-2.ensures
