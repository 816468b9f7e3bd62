-- How many conditions a development has, without its conditions: lists are counted, and columns in which something is stored.
use Rattle.std.specs.Prelude.{ℕ, suc, ◌+◌, ◌*◌, ◌==◌, Bool, if◌then◌else◌, List, [], ◌∷◌, ◌++◌, map, length, sum_by, Option, Some, None, option_map, slice_get}
use Rattle.std.specs.List.{list_any}
use Rattle.lc_term.specs.Lists.{concat_map, concat_places}
use Rattle.lc_term.specs.Syntax.{Formula}
use Rattle.lc_term.specs.SystemColumns.{pend}
use Rattle.lc_term.specs.Updates.{Update}
use Rattle.lc_seq.specs.Specification.{Branch, chosen}
use Rattle.lc_seq.specs.Branches.{op_branches}
use Rattle.lc_object.specs.Syntax as O
use Rattle.lc_object.specs.Edges.{Edge, edges}
use Rattle.lc_action.specs.Action.{Action}
use Rattle.lc_rider.specs.Rider.{Marking, Own, Other, Note, Deed, Assign, Marks, Rider}
use Rattle.lc_rider.specs.Paths.{mark_updates, marked_op}
use Rattle.lc_outline.specs.Development.{Development, On, first_system, invariant_of, on_at, asserts_at, asserts_to, riders_in, in_body}

-- the columns in which these store
abbrev pub columns_of : List Update → List ℕ
columns_of us = map (λ (u : Update). u.column) us

-- whether a number is in the list
abbrev pub stands : ℕ → List ℕ → Bool
stands c cs = list_any (λ k. k == c) cs

-- how many different numbers there are
abbrev pub different : List ℕ → ℕ
different [] = 0
different (c ∷ cs) = (if stands c cs then 0 else 1) + different cs

-- ---- the ways in which riders are passed

-- how many conditions are asked on the way, and the columns that are stored in
pub record Way : Type 0 where
  pub asked : ℕ
  pub columns : List ℕ

-- The call that is marked is pending, and a branch is enabled. Of another client's call it is asked too that it is one of the
-- operation that is named; of a note that the branch stores nothing
abbrev pub asked_of : Marking → ℕ
asked_of Own = 2
asked_of (Other t o) = 3
asked_of Note = 3

abbrev pub mark_way : ℕ → Marking → Branch → Way
mark_way first k b = record { asked = asked_of k; columns = columns_of (mark_updates first k b) }

-- a mark has one way for each branch that its choice leaves
abbrev pub deed_ways : Development → ℕ → Deed → List Way
deed_ways D o (Assign u) = record { asked = 0; columns = u.column ∷ [] } ∷ []
deed_ways D o (Marks k by) = map (mark_way (first_system D) k) (chosen by (op_branches D.specification.operations (marked_op o k)))

abbrev pub no_way : Way
no_way = record { asked = 0; columns = [] }

-- under a condition also the way on which it does not hold
abbrev pub ways_where : Option Formula → List Way → List Way
ways_where None ways = ways
ways_where (Some f) ways = ways ++ no_way ∷ []

abbrev pub rider_ways : Development → ℕ → Rider → List Way
rider_ways D o r = ways_where r.condition (deed_ways D o r.deed)

-- ---- edges

-- how many conditions are asked after each path, the columns in which the edge itself stores, the ways past each of its riders,
-- and the columns in which its action stores
pub record EdgeSize : Type 0 where
  pub asked : ℕ
  pub columns : List ℕ
  pub riders : List (List Way)
  pub action : Option (List ℕ)

-- how many ask of a path on which these columns are stored in that it is an instance of an action that stores in those: the
-- action's guard, and each column in which either stores
abbrev pub instance_count : Option (List ℕ) → List ℕ → ℕ
instance_count None columns = 0
instance_count (Some stored) columns = suc (different (columns ++ stored))

-- those of the paths that pass these riders, with `asked` conditions asked and these columns stored in before
abbrev pub way_count : Option (List ℕ) → List (List Way) → ℕ → List ℕ → ℕ
way_count action [] asked columns = asked + instance_count action columns
way_count action (ways ∷ riders) asked columns = sum_by (λ (way : Way). way_count action riders (asked + way.asked) (columns ++ way.columns)) ways

abbrev pub edge_count : EdgeSize → ℕ
edge_count e = way_count e.action e.riders e.asked e.columns

-- a return asks that it gives what was replied, and ends the call
abbrev pub returned : Option ℕ → ℕ
returned (Some q) = 0
returned None = 1

abbrev pub ended_columns : ℕ → Option ℕ → List ℕ
ended_columns first (Some q) = []
ended_columns first None = pend first ∷ []

abbrev pub columns_acted : Development → Option On → Option (List ℕ)
columns_acted D None = None
columns_acted D (Some x) = option_map (λ (a : Action). columns_of a.updates) (slice_get D.actions x.action)

-- an edge in the body of the o-th operation
abbrev pub edge_size : Development → ℕ → Edge → EdgeSize
edge_size D o e = record {
  asked = returned e.next + (length (invariant_of D) + length (asserts_to D e.next));
  columns = columns_of e.updates ++ ended_columns (first_system D) e.next;
  riders = map (rider_ways D o) (riders_in (on_at D e.point e.kind));
  action = columns_acted D (on_at D e.point e.kind);
}

abbrev pub edge_sizes : Development → Edge → List EdgeSize
edge_sizes D e = in_body D.object (λ o operation. edge_size D o e ∷ []) (slice_get D.object.points e.point)

-- ---- the whole

-- how many conjuncts hold in all states, of idle clients, where each operation begins and at each point; the edges; and how many
-- actions others may do
pub record Sizes : Type 0 where
  pub invariant : ℕ
  pub idle : ℕ
  pub first : List ℕ
  pub edges : List EdgeSize
  pub asserts : List ℕ
  pub actions : ℕ

-- At the start; where calls begin; at the edges; and that what holds at points and of idle clients stays under each action
abbrev pub count : Sizes → ℕ
count s =
    (s.invariant + s.idle)
    + (sum_by (λ n. s.invariant + n) s.first
    + (sum_by edge_count s.edges
    + (sum_by (λ n. n * s.actions) s.asserts
    + s.idle * s.actions)))

abbrev pub assert_sizes : Development → ℕ → O.Point → List ℕ
assert_sizes D p point = in_body D.object (λ o operation. length (asserts_at D p) ∷ []) (Some point)

abbrev pub sizes_of : Development → Sizes
sizes_of D = record {
  invariant = length (invariant_of D);
  idle = length D.idle;
  first = map (λ (o : O.Operation). length (asserts_at D o.entry)) D.object.operations;
  edges = concat_map (edge_sizes D) (edges D.object);
  asserts = concat_places (assert_sizes D) 0 D.object.points;
  actions = length D.actions + 2;
}
