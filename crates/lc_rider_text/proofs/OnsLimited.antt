-- What is read at an edge is within its limits.
use Rattle.std.proofs.Common.{◌≡◌, ℕ, ◌+◌, ◌<◌, ◌≤◌, Bool, true, false, List, Option, length, refl, sym, subst, arith}
use Rattle.std.specs.Prelude.{nat_lt}
use Rattle.lc_lemmas.proofs.Numbers.{at_most_from_test}
use Rattle.lc_base.specs.Limits.{path_limit, rider_limit}
use Rattle.lc_sexp.specs.Trees.{Tree, Trees, none, ◌▸◌, item_count}
use Rattle.lc_outline.specs.Development.{On}
use Rattle.lc_outline.specs.Limits.{path_total}
use Rattle.lc_reading.proofs.Holding.{Holds, holds_unit, holds_weaker, and_holds, both_holds, if_holds, limited_holds, behind_holds}
use Rattle.lc_reading.specs.Readings.{Reading, fine, flawed, wrong, limited, both}
use Rattle.lc_reading.specs.declared.pass.Pass.TheVariants.{Shape}
use Rattle.lc_rider.specs.Rider.{Rider}
use Rattle.lc_seq.specs.Branches.{op_branches}
use Rattle.lc_seq.specs.Specification.{Operation}
use Rattle.lc_term.specs.Lists.{Every}
use Rattle.lc_text.specs.Names.{Names}
use Rattle.lc_object_text.proofs.Holding.{limited_below, Each, placed_holds, each_few}
use Rattle.lc_object_text.specs.Rows.{cons}
use Rattle.lc_rider_text.proofs.PathsCounted.{IsWithin, row_counted}
use Rattle.lc_rider_text.specs.Counted.{Goes, AreBranches}
use Rattle.lc_rider_text.specs.Edges.{edge_of, edge_in, is_refused, without}
use Rattle.lc_rider_text.specs.Known.{Known, Ways}
use Rattle.lc_rider_text.specs.Ons.{step_reading, the_on, on_parts_reading, on_reading, ons_reading}
use Rattle.lc_rider_text.specs.Paths.{path_count}
use Rattle.lc_rider_text.specs.Riders.{rider_reading, ith_rider_reading, riders_reading}
use Rattle.lc_rider_text.specs.declared.edges.Edges.{Edges}

-- ---- riders

abbrev IsPlaced : ℕ → Tree → Rider → Type 0
IsPlaced i t r = i < rider_limit

few_riders : (d : Known) (names : Names) (own : Option Ways) (m : ℕ) (ts : Trees) → Holds (λ rs. length rs ≤ rider_limit) (riders_reading d names own m ts)
few_riders d names own m ts =
    holds_weaker (Each IsPlaced 0 ts) (λ rs. length rs ≤ rider_limit) (riders_reading d names own m ts) (λ rs h. omega (arith, each_few IsPlaced rider_limit (λ i t r below. below) 0 ts rs (omega arith) h))
    (placed_holds IsPlaced (ith_rider_reading d names own) (λ i n t. limited_below rider_limit i n (rider_reading d names own n t)) 0 m ts)

-- ---- paths

-- what holds if no limit is passed
within_limit : {X : Type 0} (P : X → Type 0) (b : Bool) (n : ℕ) (r : Reading X) → (b ≡ false → Holds P r) → Holds P (limited b n r)
within_limit P true n (fine x) h = tt
within_limit P true n (flawed f) h = tt
within_limit P false n (fine x) h = h refl
within_limit P false n (flawed f) h = tt

abbrev HasFewPaths : List Operation → ℕ → On → Type 0
HasFewPaths operations o x = path_total operations o x.riders ≤ path_limit

paths_few : (d : Known) (operations : List Operation) (own : Option Ways) (o : ℕ) → IsWithin d operations own o → (names : Names) (edges : Edges) (n m : ℕ) (ts : Trees)
    → Holds (HasFewPaths operations o) (on_parts_reading d names own edges n m ts)
paths_few d operations own o w names edges n m none = tt
paths_few d operations own o w names edges n m (t ▸ none) = tt
paths_few d operations own o w names edges n m (t ▸ u ▸ ts) =
    let P = HasFewPaths operations o in
    let step = step_reading d names m t (m + item_count t) u in
    let riders = riders_reading d names own (m + item_count t + item_count u) ts in
    if_holds P (is_refused edges (edge_of t)) (wrong Shape n) _ tt
    (within_limit P (nat_lt path_limit (path_count d own ts)) n (both the_on step riders)
    (λ few. both_holds (λ p. Unit {0}) (λ rs. path_total operations o rs ≡ path_count d own ts) P the_on step riders (holds_unit step) (row_counted d operations own o w names 0 (m + item_count t + item_count u) ts)
    (λ p rs h g. subst (λ k. k ≤ path_limit) (sym g) (at_most_from_test (path_count d own ts) path_limit few))))

riders_few : (d : Known) (names : Names) (own : Option Ways) (edges : Edges) (n m : ℕ) (ts : Trees) → Holds (λ (x : On). length x.riders ≤ rider_limit) (on_parts_reading d names own edges n m ts)
riders_few d names own edges n m none = tt
riders_few d names own edges n m (t ▸ none) = tt
riders_few d names own edges n m (t ▸ u ▸ ts) =
    let P : On → Type 0 = λ x. length x.riders ≤ rider_limit in
    let step = step_reading d names m t (m + item_count t) u in
    let riders = riders_reading d names own (m + item_count t + item_count u) ts in
    if_holds P (is_refused edges (edge_of t)) (wrong Shape n) _ tt
    (limited_holds P (nat_lt path_limit (path_count d own ts)) n (both the_on step riders)
    (both_holds (λ p. Unit {0}) (λ rs. length rs ≤ rider_limit) P the_on step riders (holds_unit step) (few_riders d names own (m + item_count t + item_count u) ts) (λ p rs h g. g)))

-- ---- what is at an edge

-- it has few riders, and few paths in the body of an operation that goes so
abbrev pub IsOnLimited : Known → Option Ways → On → Type 0
IsOnLimited d own x =
    (length x.riders ≤ rider_limit) × ((operations : List Operation) (o : ℕ) → AreBranches d operations → Goes own (op_branches operations o) → path_total operations o x.riders ≤ path_limit)

always : {X : Type 0} (P : List Operation → ℕ → X → Type 0) (d : Known) (own : Option Ways) (r : Reading X)
    → ((operations : List Operation) (o : ℕ) → AreBranches d operations → Goes own (op_branches operations o) → Holds (P operations o) r)
    → Holds (λ x. (operations : List Operation) (o : ℕ) → AreBranches d operations → Goes own (op_branches operations o) → P operations o x) r
always P d own (fine x) h = h
always P d own (flawed f) h = tt

parts_limited : (d : Known) (names : Names) (own : Option Ways) (edges : Edges) (n m : ℕ) (ts : Trees) → Holds (IsOnLimited d own) (on_parts_reading d names own edges n m ts)
parts_limited d names own edges n m ts =
    let r = on_parts_reading d names own edges n m ts in
    and_holds (λ (x : On). length x.riders ≤ rider_limit) (λ x. (operations : List Operation) (o : ℕ) → AreBranches d operations → Goes own (op_branches operations o) → HasFewPaths operations o x) r
    (riders_few d names own edges n m ts)
    (always HasFewPaths d own r (λ operations o agree goes. paths_few d operations own o (record { others = agree; itself = goes }) names edges n m ts))

on_limited : (d : Known) (names : Names) (own : Option Ways) (edges : Edges) (n : ℕ) (t : Tree) → Holds (IsOnLimited d own) (on_reading d names own edges n t)
on_limited d names own edges n t = behind_holds (IsOnLimited d own) _ (on_parts_reading d names own edges) n t (parts_limited d names own edges)

pub ons_limited : (d : Known) (names : Names) (own : Option Ways) (edges : Edges) (m : ℕ) (ts : Trees) → Holds (Every (IsOnLimited d own)) (ons_reading d names own edges m ts)
ons_limited d names own edges m none = tt
ons_limited d names own edges m (t ▸ ts) =
    both_holds (IsOnLimited d own) (Every (IsOnLimited d own)) (Every (IsOnLimited d own)) cons _ _ (on_limited d names own edges m t)
    (ons_limited d names own (without edges (edge_in t)) (m + item_count t) ts) (λ x xs h g. (h, g))
