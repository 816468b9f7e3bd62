-- What the test of a development's limits tells.
use Rattle.std.proofs.Common.{◌≡◌, ℕ, zero, suc, ◌≤◌, Bool, true, false, ◌&&◌, cond, Some, List, [], ◌∷◌, length, refl, sym, subst}
use Rattle.std.proofs.lemmas.Option.{same_Some}
use Rattle.std.specs.List.{list_all}
use Rattle.std.specs.Prelude.{nat_le, slice_get}
use Rattle.std.proofs.lemmas.Bool.{leb-true}
use Rattle.lc_lemmas.proofs.Booleans.{left_true, right_true}
use Rattle.lc_base.specs.Limits.{action_limit, column_limit, condition_limit, path_limit, rider_limit}
use Rattle.lc_object.specs.Syntax.{Point}
use Rattle.lc_object.specs.declared.instr.EdgeKind.{EdgeKind}
use Rattle.lc_seq.specs.Specification.{Operation}
use Rattle.lc_outline.specs.Development.{Development, On, Outline, first_system, same_kind, on_for, ons_in, riders_in, riders_at}
use Rattle.lc_outline.specs.Limits.{path_total, IsLimited, riders_are_limited, on_is_limited, outlines_are_limited, is_limited}
use Rattle.lc_outline.specs.Sizes.{sizes_of, count}
use Rattle.lc_outline.proofs.PathTotal.{paths_total}

-- the riders at an edge, if each `on` of its point is within the limits
riders_few : (operations : List Operation) (o : ℕ) (xs : List On) (kind : EdgeKind) → list_all (on_is_limited operations o) xs ≡ true → riders_are_limited operations o (riders_in (on_for xs kind)) ≡ true
riders_few operations o [] kind h = refl
riders_few operations o (x ∷ xs) kind h =
    by_kind (same_kind x.edge kind) (left_true (on_is_limited operations o x) (list_all (on_is_limited operations o) xs) h)
    (riders_few operations o xs kind (right_true (on_is_limited operations o x) (list_all (on_is_limited operations o) xs) h)) where
      by_kind : (b : Bool) → on_is_limited operations o x ≡ true → riders_are_limited operations o (riders_in (on_for xs kind)) ≡ true
          → riders_are_limited operations o (riders_in (cond b (Some x) (on_for xs kind))) ≡ true
      by_kind true here next = here
      by_kind false here next = next

ons_few : (operations : List Operation) (points : List Point) (xs : List Outline) (k : ℕ) (point : Point) → outlines_are_limited operations points xs ≡ true → slice_get points k ≡ Some point
    → list_all (on_is_limited operations point.operation) (ons_in (slice_get xs k)) ≡ true
ons_few operations [] xs k point h e = absurd (cc)
ons_few operations (p ∷ points) [] k point h e = absurd (cc)
ons_few operations (p ∷ points) (x ∷ xs) zero point h e =
    subst (λ (q : Point). list_all (on_is_limited operations q.operation) x.ons ≡ true) (same_Some p point e)
    (left_true (list_all (on_is_limited operations p.operation) x.ons) (outlines_are_limited operations points xs) h)
ons_few operations (p ∷ points) (x ∷ xs) (suc k) point h e =
    ons_few operations points xs k point (right_true (list_all (on_is_limited operations p.operation) x.ons) (outlines_are_limited operations points xs) h) e

-- A development that passes is within its limits
pub passed_is_limited : (D : Development) → is_limited D ≡ true → IsLimited D
passed_is_limited D h =
    let operations = D.specification.operations in
    let a = nat_le (first_system D) column_limit in
    let b = nat_le (length D.actions) action_limit in
    let c = outlines_are_limited operations D.object.points D.outlines in
    let d = nat_le (count (sizes_of D)) condition_limit in
    let three = left_true (a && b && c) d h in
    let outlines = right_true (a && b) c three in
    let riders : (p : ℕ) (point : Point) (kind : EdgeKind) → slice_get D.object.points p ≡ Some point → riders_are_limited operations point.operation (riders_at D p kind) ≡ true =
    λ p point kind e. riders_few operations point.operation (ons_in (slice_get D.outlines p)) kind (ons_few operations D.object.points D.outlines p point outlines e) in
    record {
      columns = leb-true (first_system D) column_limit (left_true a b (left_true (a && b) c three));
      actions = leb-true (length D.actions) action_limit (right_true a b (left_true (a && b) c three));
      riders = λ p point kind e.
          leb-true (length (riders_at D p kind)) rider_limit (left_true (nat_le (length (riders_at D p kind)) rider_limit) (nat_le (path_total operations point.operation (riders_at D p kind)) path_limit) (riders p point kind e));
      paths = λ p point kind e first n variables start.
          subst (λ k. k ≤ path_limit) (sym (paths_total operations first n point.operation variables (riders_at D p kind) start))
          (leb-true (path_total operations point.operation (riders_at D p kind)) path_limit (right_true (nat_le (length (riders_at D p kind)) rider_limit) (nat_le (path_total operations point.operation (riders_at D p kind)) path_limit) (riders p point kind e)));
      conditions = leb-true (count (sizes_of D)) condition_limit (right_true (a && b && c) d h);
    }
