-- Limits: how many columns, actions, riders at an edge, paths past them and conditions a development has at most.
use Rattle.std.specs.Prelude.{◌≡◌, ℕ, ◌+◌, ◌*◌, ◌≤◌, Bool, true, false, ◌&&◌, nat_le, List, [], ◌∷◌, Option, Some, None, length, slice_get}
use Rattle.std.specs.List.{list_all}
use Rattle.lc_base.specs.Limits.{action_limit, column_limit, condition_limit, path_limit, rider_limit}
use Rattle.lc_term.specs.Syntax.{Term, Formula}
use Rattle.lc_seq.specs.Branches.{op_branches}
use Rattle.lc_seq.specs.Specification.{Operation, chosen}
use Rattle.lc_object.specs.Syntax.{Point}
use Rattle.lc_object.specs.declared.instr.EdgeKind.{EdgeKind}
use Rattle.lc_rider.specs.Paths.{Path, paths, marked_op}
use Rattle.lc_rider.specs.Rider.{Deed, Assign, Marks, Rider}
use Rattle.lc_outline.specs.Development.{Development, On, Outline, first_system, riders_at}
use Rattle.lc_outline.specs.Sizes.{sizes_of, count}

-- ---- the paths of an edge

-- in how many ways something is done in the body of the operation o: a mark by each branch that its choice leaves
abbrev pub deed_ways : List Operation → ℕ → Deed → ℕ
deed_ways operations o (Assign u) = 1
deed_ways operations o (Marks k by) = length (chosen by (op_branches operations (marked_op o k)))

-- under a condition there is one way more, on which it does not hold
abbrev pub ways_where : Option Formula → ℕ → ℕ
ways_where None k = k
ways_where (Some f) k = 1 + k

abbrev pub rider_ways : List Operation → ℕ → Rider → ℕ
rider_ways operations o r = ways_where r.condition (deed_ways operations o r.deed)

-- how many paths pass these riders
abbrev pub path_total : List Operation → ℕ → List Rider → ℕ
path_total operations o [] = 1
path_total operations o (r ∷ rs) = rider_ways operations o r * path_total operations o rs

-- ---- what is kept

-- At an edge there are few riders, and few paths pass them, wherever they begin. The conditions are counted by the sizes
pub record IsLimited (D : Development) : Type 0 where
  pub columns : first_system D ≤ column_limit
  pub actions : length D.actions ≤ action_limit
  pub riders : (p : ℕ) (point : Point) (kind : EdgeKind) → slice_get D.object.points p ≡ Some point → length (riders_at D p kind) ≤ rider_limit
  pub paths : (p : ℕ) (point : Point) (kind : EdgeKind) → slice_get D.object.points p ≡ Some point →
      (first n : ℕ) (variables : List Term) (start : Path) → length (paths D.specification.operations first n point.operation variables (riders_at D p kind) start) ≤ path_limit
  pub conditions : count (sizes_of D) ≤ condition_limit

-- ---- the same as a test

abbrev pub riders_are_limited : List Operation → ℕ → List Rider → Bool
riders_are_limited operations o rs = nat_le (length rs) rider_limit && nat_le (path_total operations o rs) path_limit

abbrev pub on_is_limited : List Operation → ℕ → On → Bool
on_is_limited operations o x = riders_are_limited operations o x.riders

-- there is one outline for each of these points
abbrev pub outlines_are_limited : List Operation → List Point → List Outline → Bool
outlines_are_limited operations [] [] = true
outlines_are_limited operations (point ∷ points) (x ∷ xs) =
    list_all (on_is_limited operations point.operation) x.ons && outlines_are_limited operations points xs
outlines_are_limited operations _ _ = false

-- A development is within its limits
abbrev pub is_limited : Development → Bool
is_limited D =
    nat_le (first_system D) column_limit && nat_le (length D.actions) action_limit && outlines_are_limited D.specification.operations D.object.points D.outlines
    && nat_le (count (sizes_of D)) condition_limit

-- what passes is within the limits
abbrev pub WhatPassesIsLimited : Type 0
WhatPassesIsLimited = (D : Development) → is_limited D ≡ true → IsLimited D
