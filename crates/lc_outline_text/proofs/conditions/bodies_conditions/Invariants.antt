use Rattle.std.proofs.Common.{◌≡◌, ◌+◌, ◌≤◌, drop}
use Rattle.lc_sexp.specs.Shown.{rest_of}
use Rattle.lc_object_text.specs.DeclaredView.{bodies_view}
use Rattle.lc_outline_text.specs.DeclarationsView.{declarations_view}
use Rattle.lc_outline_text.specs.Sizes.{bodies_conditions}
use Rattle.lc_outline_text.specs.StoredView.{IsSet}
use Rattle.lc_outline_text.specs.Views.{capped, totals_view, count_cap}
use Rattle.lc_outline_text.proofs.conditions.bodies_conditions.Given as goal

-- the conditions so far, with those of the bodies that are left, are all
abbrev pub invariant-loop-body : goal.invariant-loop-body
invariant-loop-body l = record {
  set : IsSet l.set;
  conditions : capped (l.count + bodies_conditions (declarations_view l.declarations) (totals_view l.totals) l.operation (bodies_view (drop l.body-index l.declarations.declared.bodies.items)) (rest_of l.rest))
      ≡ capped (bodies_conditions (declarations_view l.declarations) (totals_view l.totals) 0 (bodies_view l.declarations.declared.bodies.items) (rest_of l.fn.list));
  few : l.count ≤ count_cap;
  number : l.operation ≡ l.body-index;
}
