-- What holds of all riders, and of all that is done at edges, that are read.
use Rattle.std.proofs.Common.{◌≡◌, ℕ, ◌+◌, ◌<◌, Bool, true, false, ◌&&◌, cond, List, [], Option, Some, None, length, refl, ap, ◌∙◌, subst}
use Rattle.std.specs.List.{list_all}
use Rattle.std.specs.Prelude.{nat_lt, slice_get}
use Rattle.std.proofs.lemmas.Bool.{and_from}
use Rattle.lc_lemmas.proofs.Booleans.{left_true, right_true}
use Rattle.lc_lemmas.proofs.Numbers.{below_from_test, test_from_below}
use Rattle.lc_base.specs.NameText.{is_name}
use Rattle.lc_base.specs.Limits.{path_limit}
use Rattle.lc_sexp.specs.Trees.{Tree, Trees, atom, list, none, ◌▸◌, item_count}
use Rattle.lc_object.specs.declared.instr.EdgeKind.{EdgeKind}
use Rattle.lc_outline.specs.Development.{On}
use Rattle.lc_outline.specs.Resolved.{condition_is_resolved, has_some}
use Rattle.lc_reading.proofs.Holding.{Holds, holds_unit, mapped_holds, both_holds, three_holds, ended_holds, limited_holds, if_holds, listed_holds, behind_holds}
use Rattle.lc_reading.specs.Listed.{place_of}
use Rattle.lc_reading.specs.Naming.{within, use_reading}
use Rattle.lc_reading.specs.Readings.{Reading, fine, wrong, both}
use Rattle.lc_reading.specs.Reserved.{is_action_name}
use Rattle.lc_reading.specs.Words.{is, is_long}
use Rattle.lc_reading.specs.declared.pass.Pass.TheVariants.{Shape, Bound}
use Rattle.lc_rider.specs.Paths.{marked_op}
use Rattle.lc_rider.specs.Rider.{Marking, Deed, Assign, Marks, Rider, Own, Other, Note}
use Rattle.lc_seq.specs.Branches.{op_branches}
use Rattle.lc_seq.specs.Sequential.{Chosen}
use Rattle.lc_seq.specs.Specification.{Operation, chosen}
use Rattle.lc_term.specs.Lists.{Every}
use Rattle.lc_term.specs.Syntax.{Term, Formula}
use Rattle.lc_term.specs.Truth.{is_ground}
use Rattle.lc_term.specs.Updates.{Update}
use Rattle.lc_text.specs.Names.{Names}
use Rattle.lc_text.specs.Terms.{pair, triple, term_reading}
use Rattle.lc_object_text.specs.Rows.{cons, placed_reading}
use Rattle.lc_reading.proofs.Places.{place_below}
use Rattle.lc_rider_text.proofs.ChoicesKnown.{use_placed, arguments_counted, is_choosing, IsInOrder, IsByName, in_order_known, by_known, some_left}
use Rattle.lc_rider_text.proofs.Ground.{quiet_holds}
use Rattle.lc_rider_text.specs.Counted.{AreBranches}
use Rattle.lc_rider_text.specs.Edges.{edge_of, edge_in, edge_reading, is_refused, without}
use Rattle.lc_rider_text.specs.Heads.{head_of}
use Rattle.lc_rider_text.specs.Known.{Known, Ways, entry_at}
use Rattle.lc_rider_text.specs.Ons.{call_parts_reading, step_reading, the_on, on_parts_reading, on_reading, ons_reading}
use Rattle.lc_rider_text.specs.Paths.{path_count}
use Rattle.lc_rider_text.specs.Riders.{other_reading, ways_named, mark_of_other, lin_other_reading, lin_other_by_reading, headed_reading, deed_with, deed_reading, when_reading, always, where_holds, rider_reading, ith_rider_reading, riders_reading}
use Rattle.lc_rider_text.specs.Scopes.{column_place}
use Rattle.lc_rider_text.specs.Terms.{arguments_reading}
use Rattle.lc_rider_text.specs.Updates.{is_open, stored, stored_reading, the_update, update_reading}
use Rattle.lc_rider_text.specs.declared.edges.Edges.{Edges}
use Rattle.lc_rider_text.specs.declared.update.Stores.{Stores}
use Rattle.lc_rider_text.specs.declared.update.Stores.TheVariants.{InAuxiliary}
use Rattle.lc_rider_text.specs.declared.words.Head.{Head}
use Rattle.lc_rider_text.specs.declared.words.Head.TheVariants as H

-- ---- stores

-- the column of an update is one in which may be stored
stored_open : (stores : Stores) (names : Known) (n : ℕ) (w : List ℕ) (o : Option ℕ) → Holds (λ k. is_open stores names k ≡ true) (stored stores names n w o)
stored_open stores names n w None = tt
stored_open stores names n w (Some k) = by_test (is_open stores names k) refl where
  by_test : (b : Bool) → is_open stores names k ≡ b → Holds (λ j. is_open stores names j ≡ true) (cond b (within n w k) (wrong Shape n))
  by_test true e = if_holds (λ j. is_open stores names j ≡ true) (is_long w) (wrong Bound n) (fine k) tt e
  by_test false e = tt

column_open : (stores : Stores) (names : Known) (n : ℕ) (t : Tree) → Holds (λ k. is_open stores names k ≡ true) (stored_reading stores names n t)
column_open stores names n (atom w) =
    if_holds (λ k. is_open stores names k ≡ true) (is_name w) _ (wrong Shape n) (stored_open stores names n w (column_place names.columns w)) tt
column_open stores names n (list ts) = tt

pub update_open : (stores : Stores) (d : Known) (names : Names) (n m : ℕ) (ts : Trees) → Holds (λ (u : Update). is_open stores d u.column ≡ true) (update_reading stores d names n m ts)
update_open stores d names n m none = tt
update_open stores d names n m (t ▸ none) = tt
update_open stores d names n m (t ▸ u ▸ none) = tt
update_open stores d names n m (t ▸ u ▸ v ▸ ts) =
    mapped_holds (λ (p : (ℕ × Term) × Term). is_open stores d p.0.0 ≡ true) (λ (u : Update). is_open stores d u.column ≡ true) the_update _
    (ended_holds (λ (p : (ℕ × Term) × Term). is_open stores d p.0.0 ≡ true) _ ts _
    (three_holds (λ k. is_open stores d k ≡ true) (λ t. Unit {0}) (λ t. Unit {0}) (λ (p : (ℕ × Term) × Term). is_open stores d p.0.0 ≡ true) triple _ _ _
    (column_open stores d m t) (holds_unit (term_reading names [] (m + item_count t) u)) (holds_unit (term_reading names [] (m + item_count t + item_count u) v)) (λ x y z h g i. h)))
    (λ p h. h)

-- ---- riders

-- What is stored goes to an auxiliary column, an operation that is named is declared, and its branch, or one of an operation that
-- goes so, may be chosen as it is
abbrev pub deed_is_known : Known → Option Ways → Deed → Bool
deed_is_known d own (Assign u) = is_open InAuxiliary d u.column
deed_is_known d own (Marks Own by) = is_choosing own by
deed_is_known d own (Marks (Other t p) by) = nat_lt p (length d.operations) && is_choosing (slice_get d.ways p) by
deed_is_known d own (Marks Note by) = is_choosing own by

-- and no quantifier occurs in the condition
abbrev pub rider_is_known : Known → Option Ways → Rider → Bool
rider_is_known d own r = condition_is_resolved r.condition && deed_is_known d own r.deed

-- an operation that is named is declared, and it is the one that it is known of how it goes
abbrev pub IsOther : Known → Tree → Term × ℕ → Type 0
IsOther d u p = (p.1 < length d.operations) × (ways_named d u ≡ slice_get d.ways p.1)

pub other_known : (d : Known) (names : Names) (m : ℕ) (t : Tree) (l : ℕ) (u : Tree) → Holds (IsOther d u) (other_reading d names m t l u)
other_known d names m t l (atom w) =
    both_holds (λ x. Unit {0}) (λ k. place_of d.operations w ≡ Some k) (IsOther d (atom w)) pair _ (use_reading d.operations l (atom w))
    (holds_unit (term_reading names [] m t)) (use_placed d.operations l w) (λ x k h e. (place_below d.operations w k e, ap (entry_at d.ways) e))
other_known d names m t l (list us) =
    both_holds (λ x. Unit {0}) (λ k. ⊥) (IsOther d (list us)) pair _ (use_reading d.operations l (list us)) (holds_unit (term_reading names [] m t)) tt (λ x k h e. absurd e)

other_chosen : (d : Known) (own : Option Ways) (u : Tree) (p : Term × ℕ) (by : Chosen Term) → IsOther d u p → is_choosing (ways_named d u) by ≡ true → deed_is_known d own (mark_of_other p by) ≡ true
other_chosen d own u p by h e = and_from (nat_lt p.1 (length d.operations)) _ (test_from_below p.1 (length d.operations) h.0) (subst (λ o. is_choosing o by ≡ true) h.1 e)

lin_other_known : (d : Known) (names : Names) (own : Option Ways) (n m : ℕ) (ts : Trees) → Holds (λ x. deed_is_known d own x ≡ true) (lin_other_reading d names n m ts)
lin_other_known d names own n m none = tt
lin_other_known d names own n m (t ▸ none) = tt
lin_other_known d names own n m (t ▸ u ▸ ts) =
    ended_holds (λ x. deed_is_known d own x ≡ true) _ ts _
    (both_holds (IsOther d u) (IsInOrder (ways_named d u)) (λ x. deed_is_known d own x ≡ true) mark_of_other _ _ (other_known d names m t (m + item_count t) u) (in_order_known (ways_named d u) n)
    (λ p by h g. other_chosen d own u p by h g.1))

lin_other_by_known : (d : Known) (names : Names) (own : Option Ways) (n m : ℕ) (ts : Trees) → Holds (λ x. deed_is_known d own x ≡ true) (lin_other_by_reading d names n m ts)
lin_other_by_known d names own n m none = tt
lin_other_by_known d names own n m (t ▸ none) = tt
lin_other_by_known d names own n m (t ▸ u ▸ ts) =
    both_holds (IsOther d u) (IsByName (ways_named d u)) (λ x. deed_is_known d own x ≡ true) mark_of_other _ _ (other_known d names m t (m + item_count t) u)
    (by_known names (ways_named d u) n (m + item_count t + item_count u) ts) (λ p by h g. other_chosen d own u p by h g.1)

headed_known : (d : Known) (names : Names) (own : Option Ways) (h : Head) (n m : ℕ) (ts : Trees) → Holds (λ x. deed_is_known d own x ≡ true) (headed_reading d names own h n m ts)
headed_known d names own H.Set n m ts =
    mapped_holds (λ (u : Update). is_open InAuxiliary d u.column ≡ true) (λ x. deed_is_known d own x ≡ true) Assign _ (update_open InAuxiliary d names n m ts) (λ u e. e)
headed_known d names own H.Lin n m ts =
    ended_holds (λ x. deed_is_known d own x ≡ true) m ts _ (mapped_holds (IsInOrder own) (λ x. deed_is_known d own x ≡ true) (Marks Own) _ (in_order_known own n) (λ by h. h.1))
headed_known d names own H.LinOther n m ts = lin_other_known d names own n m ts
headed_known d names own H.Note n m ts =
    ended_holds (λ x. deed_is_known d own x ≡ true) m ts _ (mapped_holds (IsInOrder own) (λ x. deed_is_known d own x ≡ true) (Marks Note) _ (in_order_known own n) (λ by h. h.1))
headed_known d names own H.LinBy n m ts = mapped_holds (IsByName own) (λ x. deed_is_known d own x ≡ true) (Marks Own) _ (by_known names own n m ts) (λ by h. h.1)
headed_known d names own H.LinOtherBy n m ts = lin_other_by_known d names own n m ts
headed_known d names own H.NoteBy n m ts = mapped_holds (IsByName own) (λ x. deed_is_known d own x ≡ true) (Marks Note) _ (by_known names own n m ts) (λ by h. h.1)

begun_known : (d : Known) (names : Names) (own : Option Ways) (n m : ℕ) (ts : Trees) (o : Option Head) → Holds (λ x. deed_is_known d own x ≡ true) (deed_with d names own n m ts o)
begun_known d names own n m ts None = tt
begun_known d names own n m ts (Some h) = headed_known d names own h n m ts

deed_known : (d : Known) (names : Names) (own : Option Ways) (n : ℕ) (t : Tree) → Holds (λ x. deed_is_known d own x ≡ true) (deed_reading d names own n t)
deed_known d names own n (atom w) = tt
deed_known d names own n (list none) = tt
deed_known d names own n (list (list us ▸ ts)) = tt
deed_known d names own n (list (atom w ▸ ts)) = begun_known d names own n (n + 2) ts (head_of w)

when_known : (d : Known) (names : Names) (own : Option Ways) (n m : ℕ) (ts : Trees) → Holds (λ (p : Formula × Deed). (is_ground p.0 ≡ true) × (deed_is_known d own p.1 ≡ true)) (when_reading d names own n m ts)
when_known d names own n m none = tt
when_known d names own n m (t ▸ none) = tt
when_known d names own n m (t ▸ u ▸ ts) =
    ended_holds (λ (p : Formula × Deed). (is_ground p.0 ≡ true) × (deed_is_known d own p.1 ≡ true)) _ ts _
    (both_holds (λ f. is_ground f ≡ true) (λ x. deed_is_known d own x ≡ true) (λ (p : Formula × Deed). (is_ground p.0 ≡ true) × (deed_is_known d own p.1 ≡ true)) pair _ _
    (quiet_holds names m t) (deed_known d names own (m + item_count t) u) (λ x y h g. (h, g)))

pub rider_known : (d : Known) (names : Names) (own : Option Ways) (n : ℕ) (t : Tree) → Holds (λ r. rider_is_known d own r ≡ true) (rider_reading d names own n t)
rider_known d names own n (atom w) = tt
rider_known d names own n (list none) = tt
rider_known d names own n (list (list us ▸ ts)) = tt
rider_known d names own n (list (atom w ▸ ts)) =
    if_holds (λ r. rider_is_known d own r ≡ true) (is w _) _ _
    (mapped_holds (λ (p : Formula × Deed). (is_ground p.0 ≡ true) × (deed_is_known d own p.1 ≡ true)) (λ r. rider_is_known d own r ≡ true) where_holds _ (when_known d names own n (n + 2) ts)
    (λ p h. and_from (is_ground p.0) (deed_is_known d own p.1) h.0 h.1))
    (mapped_holds (λ x. deed_is_known d own x ≡ true) (λ r. rider_is_known d own r ≡ true) always _ (begun_known d names own n (n + 2) ts (head_of w)) (λ x h. h))

pub placed_holds : {X : Type 0} (test : X → Bool) (read : ℕ → ℕ → Tree → Reading X) → ((i n : ℕ) (t : Tree) → Holds (λ x. test x ≡ true) (read i n t)) → (i m : ℕ) (ts : Trees)
    → Holds (λ xs. list_all test xs ≡ true) (placed_reading read i m ts)
placed_holds test read h i m none = refl
placed_holds test read h i m (t ▸ ts) =
    both_holds (λ x. test x ≡ true) (λ xs. list_all test xs ≡ true) (λ xs. list_all test xs ≡ true) cons (read i m t) (placed_reading read (i + 1) (m + item_count t) ts)
    (h i m t) (placed_holds test read h (i + 1) (m + item_count t) ts) (λ x xs u v. and_from (test x) (list_all test xs) u v)

ith_known : (d : Known) (names : Names) (own : Option Ways) (i n : ℕ) (t : Tree) → Holds (λ r. rider_is_known d own r ≡ true) (ith_rider_reading d names own i n t)
ith_known d names own i n t = limited_holds (λ r. rider_is_known d own r ≡ true) _ n _ (rider_known d names own n t)

pub riders_known : (d : Known) (names : Names) (own : Option Ways) (m : ℕ) (ts : Trees) → Holds (λ rs. list_all (rider_is_known d own) rs ≡ true) (riders_reading d names own m ts)
riders_known d names own m ts = placed_holds (rider_is_known d own) (ith_rider_reading d names own) (ith_known d names own) 0 m ts

-- ---- edges

-- the action is declared, and has as many terms as it has parameters
abbrev pub IsCallKnown : Known → ℕ → List Term → Type 0
IsCallKnown d a args = (a < length d.actions) × ((k : ℕ) → slice_get d.parameters a ≡ Some k → length args ≡ k)

abbrev pub IsOnKnown : Known → Option Ways → On → Type 0
IsOnKnown d own x = IsCallKnown d x.action x.arguments × (list_all (rider_is_known d own) x.riders ≡ true)

call_known : (d : Known) (names : Names) (n i k : ℕ) (w : List ℕ) (ts : Trees) (b : Bool)
    → Holds (λ (p : ℕ × List Term). IsCallKnown d p.0 p.1) (both pair (cond b (wrong Shape i) (use_reading d.actions i (atom w)))
    (arguments_reading names (cond b None (entry_at d.parameters (place_of d.actions w))) n k ts))
call_known d names n i k w ts true =
    both_holds (λ a. ⊥) (λ args. Unit {0}) (λ (p : ℕ × List Term). IsCallKnown d p.0 p.1) pair (wrong Shape i) (arguments_reading names None n k ts) tt
    (holds_unit (arguments_reading names None n k ts)) (λ a args h g. absurd h)
call_known d names n i k w ts false =
    both_holds (λ a. place_of d.actions w ≡ Some a) (λ (args : List Term). (k : ℕ) → entry_at d.parameters (place_of d.actions w) ≡ Some k → length args ≡ k)
    (λ (p : ℕ × List Term). IsCallKnown d p.0 p.1) pair _ _
    (use_placed d.actions i w)
    (arguments_counted names (entry_at d.parameters (place_of d.actions w)) n k ts)
    (λ a args h g. (place_below d.actions w a h, λ k e. g k (ap (entry_at d.parameters) h ∙ e)))

calls_known : (d : Known) (names : Names) (n m : ℕ) (ts : Trees) → Holds (λ (p : ℕ × List Term). IsCallKnown d p.0 p.1) (call_parts_reading d names n m ts)
calls_known d names n m none = tt
calls_known d names n m (atom w ▸ ts) = call_known d names n m (m + 1) w ts (is_action_name w)
calls_known d names n m (list us ▸ ts) =
    both_holds (λ a. ⊥) (λ args. Unit {0}) (λ (p : ℕ × List Term). IsCallKnown d p.0 p.1) pair (wrong Shape m) _ tt
    (holds_unit (arguments_reading names None n (m + item_count (list us)) ts)) (λ a args h g. absurd h)

step_known : (d : Known) (names : Names) (m : ℕ) (t : Tree) (n : ℕ) (u : Tree) → Holds (λ (p : EdgeKind × (ℕ × List Term)). IsCallKnown d p.1.0 p.1.1) (step_reading d names m t n u)
step_known d names m t n u =
    both_holds (λ e. Unit {0}) (λ (p : ℕ × List Term). IsCallKnown d p.0 p.1) (λ (p : EdgeKind × (ℕ × List Term)). IsCallKnown d p.1.0 p.1.1) pair _ _
    (holds_unit (edge_reading m t)) (listed_holds (λ (p : ℕ × List Term). IsCallKnown d p.0 p.1) (call_parts_reading d names) n u (calls_known d names)) (λ e p h g. g)

parts_known : (d : Known) (names : Names) (own : Option Ways) (edges : Edges) (n m : ℕ) (ts : Trees) → Holds (IsOnKnown d own) (on_parts_reading d names own edges n m ts)
parts_known d names own edges n m none = tt
parts_known d names own edges n m (t ▸ none) = tt
parts_known d names own edges n m (t ▸ u ▸ ts) =
    if_holds (IsOnKnown d own) (is_refused edges (edge_of t)) (wrong Shape n) _ tt
    (limited_holds (IsOnKnown d own) (nat_lt path_limit (path_count d own ts)) n _
    (both_holds (λ (p : EdgeKind × (ℕ × List Term)). IsCallKnown d p.1.0 p.1.1) (λ rs. list_all (rider_is_known d own) rs ≡ true) (IsOnKnown d own) the_on _ _
    (step_known d names m t (m + item_count t) u) (riders_known d names own (m + item_count t + item_count u) ts) (λ p rs h g. (h, g))))

pub on_known : (d : Known) (names : Names) (own : Option Ways) (edges : Edges) (n : ℕ) (t : Tree) → Holds (IsOnKnown d own) (on_reading d names own edges n t)
on_known d names own edges n t = behind_holds (IsOnKnown d own) _ (on_parts_reading d names own edges) n t (parts_known d names own edges)

pub ons_known : (d : Known) (names : Names) (own : Option Ways) (edges : Edges) (m : ℕ) (ts : Trees) → Holds (Every (IsOnKnown d own)) (ons_reading d names own edges m ts)
ons_known d names own edges m none = tt
ons_known d names own edges m (t ▸ ts) =
    both_holds (IsOnKnown d own) (Every (IsOnKnown d own)) (Every (IsOnKnown d own)) cons _ _ (on_known d names own edges m t)
    (ons_known d names own (without edges (edge_in t)) (m + item_count t) ts) (λ x xs h g. (h, g))

-- ---- marks

-- If each operation has a branch, and goes as is known of it, a mark that is read leaves one
pub mark_leaves : (d : Known) (operations : List Operation) → AreBranches d operations → ((k : ℕ) → k < length d.operations → has_some (op_branches operations k) ≡ true) → (o : ℕ) → o < length d.operations
    → (k : Marking) (by : Chosen Term) → deed_is_known d (slice_get d.ways o) (Marks k by) ≡ true → has_some (chosen by (op_branches operations (marked_op o k))) ≡ true
mark_leaves d operations agree some o below Own by h = some_left (slice_get d.ways o) (op_branches operations o) (agree o below) (some o below) by h
mark_leaves d operations agree some o below (Other t p) by h =
    let named = nat_lt p (length d.operations) in
    let choosing = is_choosing (slice_get d.ways p) by in
    let there : p < length d.operations = below_from_test p (length d.operations) (left_true named choosing h) in
    some_left (slice_get d.ways p) (op_branches operations p) (agree p there) (some p there) by (right_true named choosing h)
mark_leaves d operations agree some o below Note by h = some_left (slice_get d.ways o) (op_branches operations o) (agree o below) (some o below) by h
