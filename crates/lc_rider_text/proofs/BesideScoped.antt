-- Updates, conjuncts, riders, and what is done at edges, if they are read, use only what is in scope.
use Rattle.std.proofs.Common.{◌≡◌, ℕ, ◌+◌, Bool, true, List, [], Option, Some, None, length, refl}
use Rattle.std.specs.List.{list_all}
use Rattle.std.specs.Prelude.{nat_lt}
use Rattle.std.proofs.lemmas.Bool.{and_from}
use Rattle.lc_lemmas.proofs.Numbers.{test_from_below}
use Rattle.lc_base.specs.NameText.{is_name}
use Rattle.lc_base.specs.Limits.{path_limit}
use Rattle.lc_sexp.specs.Trees.{Tree, Trees, atom, list, none, ◌▸◌, item_count}
use Rattle.lc_object.specs.declared.instr.EdgeKind.{EdgeKind}
use Rattle.lc_object_text.specs.Rows.{cons}
use Rattle.lc_outline.specs.Development.{On}
use Rattle.lc_outline.specs.Scope.{is_scoped, deed_is_scoped, rider_is_scoped, on_is_scoped}
use Rattle.lc_reading.proofs.Holding.{Holds, holds_unit, holds_weaker, mapped_holds, both_holds, three_holds, ended_holds, limited_holds, if_holds, listed_holds, behind_holds, each_holds, counted_holds}
use Rattle.lc_reading.specs.Naming.{within, name_reading, use_reading}
use Rattle.lc_reading.specs.Readings.{fine, wrong}
use Rattle.lc_reading.specs.Words.{is, is_long}
use Rattle.lc_reading.specs.declared.pass.Pass.TheVariants.{Shape, Bound}
use Rattle.lc_rider.specs.Rider.{Deed, Assign, Marks, Rider, Own, Note}
use Rattle.lc_seq.specs.Sequential.{Chosen, InOrder, ByName, given_in}
use Rattle.lc_seq.specs.Specification.{update_is_resolved}
use Rattle.lc_term.specs.Places.{known, term_passes}
use Rattle.lc_term.specs.Syntax.{Term, Formula}
use Rattle.lc_term.specs.SystemColumns.{column_count}
use Rattle.lc_term.specs.Updates.{Update}
use Rattle.lc_text.specs.Names.{Names}
use Rattle.lc_text.specs.Terms.{pair, triple, term_reading}
use Rattle.lc_tie.specs.Tie.{Conjunct}
use Rattle.lc_rider_text.proofs.ReadsScoped.{AreInScope, variable_total, term_known, formula_scoped, column_below, beside_in_scope, quiet_in_scope}
use Rattle.lc_rider_text.proofs.RidersKnown.{placed_holds}
use Rattle.lc_rider_text.specs.Choices.{may_choose, may_go_in_order, in_order_reading, choice_use, terms_due, by_reading}
use Rattle.lc_rider_text.specs.Conjuncts.{the_conjunct, conjunct_parts_reading, conjunct_reading}
use Rattle.lc_rider_text.specs.Edges.{edge_of, edge_in, edge_reading, is_refused, without}
use Rattle.lc_rider_text.specs.Heads.{head_of}
use Rattle.lc_rider_text.specs.Known.{Known, Ways}
use Rattle.lc_rider_text.specs.Ons.{action_use, arguments_due, call_parts_reading, step_reading, the_on, on_parts_reading, on_reading, ons_reading}
use Rattle.lc_rider_text.specs.Paths.{path_count}
use Rattle.lc_rider_text.specs.Riders.{other_reading, ways_named, mark_of_other, lin_other_reading, lin_other_by_reading, headed_reading, deed_with, deed_reading, when_reading, always, where_holds, rider_reading, ith_rider_reading, riders_reading}
use Rattle.lc_rider_text.specs.Scopes.{beside_names, column_place, quiet}
use Rattle.lc_rider_text.specs.Terms.{arguments_reading}
use Rattle.lc_rider_text.specs.Updates.{is_open, stored, stored_reading, the_update, update_reading}
use Rattle.lc_rider_text.specs.declared.edges.Edges.{Edges}
use Rattle.lc_rider_text.specs.declared.update.Stores.{Stores}
use Rattle.lc_rider_text.specs.declared.update.Stores.TheVariants.{InAuxiliary}
use Rattle.lc_rider_text.specs.declared.words.Head.{Head}
use Rattle.lc_rider_text.specs.declared.words.Head.TheVariants as H

-- as many columns as are declared, and those of the system
abbrev pub column_total : Known → ℕ
column_total d = column_count (length d.columns)

-- ---- updates

-- a column that is stored in is one that there is
abbrev IsThere : Known → ℕ → Type 0
IsThere d k = nat_lt k (column_total d) ≡ true

stored_there : (stores : Stores) (d : Known) (n : ℕ) (w : List ℕ) (o : Option ℕ) → column_place d.columns w ≡ o → Holds (IsThere d) (stored stores d n w o)
stored_there stores d n w None e = tt
stored_there stores d n w (Some k) e =
    if_holds (IsThere d) (is_open stores d k) (within n w k) (wrong Shape n) (if_holds (IsThere d) (is_long w) (wrong Bound n) (fine k) tt (test_from_below k (column_total d) (column_below d.columns w k e))) tt

column_there : (stores : Stores) (d : Known) (n : ℕ) (t : Tree) → Holds (IsThere d) (stored_reading stores d n t)
column_there stores d n (atom w) = if_holds (IsThere d) (is_name w) _ (wrong Shape n) (stored_there stores d n w (column_place d.columns w) refl) tt
column_there stores d n (list ts) = tt

pub update_scoped : (stores : Stores) (d : Known) (variables : ℕ) (names : Names) → AreInScope (column_total d) variables names → (n m : ℕ) (ts : Trees)
    → Holds (λ (u : Update). update_is_resolved (column_total d) variables u ≡ true) (update_reading stores d names n m ts)
update_scoped stores d variables names all n m none = tt
update_scoped stores d variables names all n m (t ▸ none) = tt
update_scoped stores d variables names all n m (t ▸ u ▸ none) = tt
update_scoped stores d variables names all n m (t ▸ u ▸ v ▸ ts) =
    let IsKnown : Term → Type 0 = λ t. term_passes (known (column_total d) variables) t ≡ true in
    let P : (ℕ × Term) × Term → Type 0 = λ p. update_is_resolved (column_total d) variables (the_update p) ≡ true in
    mapped_holds P (λ (u : Update). update_is_resolved (column_total d) variables u ≡ true) the_update _
    (ended_holds P _ ts _
    (three_holds (IsThere d) IsKnown IsKnown P triple _ _ _
    (column_there stores d m t) (term_known (column_total d) variables names all (m + item_count t) u) (term_known (column_total d) variables names all (m + item_count t + item_count u) v)
    (λ k i x h g e. and_from (nat_lt k (column_total d)) _ h (and_from (term_passes (known (column_total d) variables) i) (term_passes (known (column_total d) variables) x) g e))))
    (λ p h. h)

-- ---- conjuncts

-- a conjunct of the invariant uses the number of clients alone
pub conjunct_scoped : (columns : List (List ℕ)) (n : ℕ) (t : Tree) → Holds (λ (c : Conjunct). is_scoped (column_count (length columns)) 1 c.formula ≡ true) (conjunct_reading (beside_names columns None) n t)
conjunct_scoped columns n t =
    mapped_holds P (λ (c : Conjunct). is_scoped (column_count (length columns)) 1 c.formula ≡ true) the_conjunct _
    (listed_holds P (conjunct_parts_reading (beside_names columns None)) n t parts) (λ p h. h) where
      P : List ℕ × Formula → Type 0
      P p = is_scoped (column_count (length columns)) 1 p.1 ≡ true

      parts : (n m : ℕ) (ts : Trees) → Holds P (conjunct_parts_reading (beside_names columns None) n m ts)
      parts n m none = tt
      parts n m (t ▸ none) = tt
      parts n m (t ▸ u ▸ ts) =
          ended_holds P _ ts _
          (both_holds (λ w. Unit {0}) (λ f. is_scoped (column_count (length columns)) 1 f ≡ true) P pair (name_reading None [] m t) _ (holds_unit (name_reading None [] m t))
          (formula_scoped (column_count (length columns)) 1 (beside_names columns None) (beside_in_scope columns None) (m + item_count t) u) (λ w f h g. g))

-- ---- riders

module _ (d : Known) (others : Option (List (List ℕ))) where
  abbrev names : Names
  names = beside_names d.columns others

  abbrev columns : ℕ
  columns = column_total d

  abbrev count : ℕ
  count = variable_total others

  abbrev all : AreInScope columns count names
  all = beside_in_scope d.columns others

  abbrev term_is_known : Term → Bool
  term_is_known t = term_passes (known columns count) t

  abbrev AreKnown : List Term → Type 0
  AreKnown ts = list_all term_is_known ts ≡ true

  arguments_known : (due : Option ℕ) (n m : ℕ) (ts : Trees) → Holds AreKnown (arguments_reading names due n m ts)
  arguments_known None n m ts = each_holds term_is_known (term_reading names []) (term_known columns count names all) m ts
  arguments_known (Some c) n m ts =
      holds_weaker (λ (args : List Term). AreKnown args × (length args ≡ c)) AreKnown (arguments_reading names (Some c) n m ts) (λ args h. h.0)
      (counted_holds term_is_known (term_reading names []) (term_known columns count names all) n c m ts)

  -- the terms of a choice
  abbrev AreGivenKnown : Chosen Term → Type 0
  AreGivenKnown by = AreKnown (given_in by)

  in_order_known : (ways : Option Ways) (n : ℕ) → Holds AreGivenKnown (in_order_reading ways n)
  in_order_known ways n = if_holds AreGivenKnown (may_choose ways) (wrong Shape n) (fine InOrder) tt refl

  by_known : (ways : Option Ways) (n m : ℕ) (ts : Trees) → Holds AreGivenKnown (by_reading names ways n m ts)
  by_known ways n m none = if_holds AreGivenKnown (may_go_in_order ways) (wrong Shape n) (wrong Shape n) tt tt
  by_known ways n m (t ▸ ts) =
      if_holds AreGivenKnown (may_go_in_order ways) (wrong Shape n) _ tt
      (both_holds (λ w. Unit {0}) AreKnown AreGivenKnown ByName (choice_use ways m t) _ (holds_unit (choice_use ways m t)) (arguments_known (terms_due ways t) n (m + item_count t) ts) (λ w args h g. g))

  abbrev IsDeed : Deed → Type 0
  IsDeed x = deed_is_scoped columns count x ≡ true

  -- the client whose call is marked
  abbrev IsClientKnown : Term × ℕ → Type 0
  IsClientKnown p = term_is_known p.0 ≡ true

  client_known : (m : ℕ) (t : Tree) (l : ℕ) (u : Tree) → Holds IsClientKnown (other_reading d names m t l u)
  client_known m t l u =
      both_holds (λ x. term_is_known x ≡ true) (λ k. Unit {0}) IsClientKnown pair _ (use_reading d.operations l u) (term_known columns count names all m t) (holds_unit (use_reading d.operations l u)) (λ x k h g. h)

  other_scoped : (p : Term × ℕ) (by : Chosen Term) → IsClientKnown p → AreGivenKnown by → IsDeed (mark_of_other p by)
  other_scoped p by h g = and_from (term_is_known p.0) (list_all term_is_known (given_in by)) h g

  lin_other_scoped : (n m : ℕ) (ts : Trees) → Holds IsDeed (lin_other_reading d names n m ts)
  lin_other_scoped n m none = tt
  lin_other_scoped n m (t ▸ none) = tt
  lin_other_scoped n m (t ▸ u ▸ ts) =
      ended_holds IsDeed _ ts _ (both_holds IsClientKnown AreGivenKnown IsDeed mark_of_other _ _ (client_known m t (m + item_count t) u) (in_order_known (ways_named d u) n) other_scoped)

  lin_other_by_scoped : (n m : ℕ) (ts : Trees) → Holds IsDeed (lin_other_by_reading d names n m ts)
  lin_other_by_scoped n m none = tt
  lin_other_by_scoped n m (t ▸ none) = tt
  lin_other_by_scoped n m (t ▸ u ▸ ts) =
      both_holds IsClientKnown AreGivenKnown IsDeed mark_of_other _ _ (client_known m t (m + item_count t) u) (by_known (ways_named d u) n (m + item_count t + item_count u) ts) other_scoped

  headed_scoped : (own : Option Ways) (h : Head) (n m : ℕ) (ts : Trees) → Holds IsDeed (headed_reading d names own h n m ts)
  headed_scoped own H.Set n m ts =
      mapped_holds (λ (u : Update). update_is_resolved columns count u ≡ true) IsDeed Assign _ (update_scoped InAuxiliary d count names all n m ts) (λ u h. h)
  headed_scoped own H.Lin n m ts = ended_holds IsDeed m ts _ (mapped_holds AreGivenKnown IsDeed (Marks Own) _ (in_order_known own n) (λ by h. h))
  headed_scoped own H.LinOther n m ts = lin_other_scoped n m ts
  headed_scoped own H.Note n m ts = ended_holds IsDeed m ts _ (mapped_holds AreGivenKnown IsDeed (Marks Note) _ (in_order_known own n) (λ by h. h))
  headed_scoped own H.LinBy n m ts = mapped_holds AreGivenKnown IsDeed (Marks Own) _ (by_known own n m ts) (λ by h. h)
  headed_scoped own H.LinOtherBy n m ts = lin_other_by_scoped n m ts
  headed_scoped own H.NoteBy n m ts = mapped_holds AreGivenKnown IsDeed (Marks Note) _ (by_known own n m ts) (λ by h. h)

  begun_scoped : (own : Option Ways) (n m : ℕ) (ts : Trees) (h : Option Head) → Holds IsDeed (deed_with d names own n m ts h)
  begun_scoped own n m ts None = tt
  begun_scoped own n m ts (Some h) = headed_scoped own h n m ts

  deed_scoped : (own : Option Ways) (n : ℕ) (t : Tree) → Holds IsDeed (deed_reading d names own n t)
  deed_scoped own n (atom w) = tt
  deed_scoped own n (list none) = tt
  deed_scoped own n (list (list us ▸ ts)) = tt
  deed_scoped own n (list (atom w ▸ ts)) = begun_scoped own n (n + 2) ts (head_of w)

  abbrev IsRider : Rider → Type 0
  IsRider r = rider_is_scoped columns count r ≡ true

  abbrev IsConditional : Formula × Deed → Type 0
  IsConditional p = IsRider (where_holds p)

  when_scoped : (own : Option Ways) (n m : ℕ) (ts : Trees) → Holds IsConditional (when_reading d names own n m ts)
  when_scoped own n m none = tt
  when_scoped own n m (t ▸ none) = tt
  when_scoped own n m (t ▸ u ▸ ts) =
      ended_holds IsConditional _ ts _
      (both_holds (λ f. is_scoped columns count f ≡ true) IsDeed IsConditional pair _ _ (formula_scoped columns count (quiet names) (quiet_in_scope columns count names all) m t) (deed_scoped own (m + item_count t) u)
      (λ f x h g. and_from (is_scoped columns count f) (deed_is_scoped columns count x) h g))

  rider_scoped : (own : Option Ways) (n : ℕ) (t : Tree) → Holds IsRider (rider_reading d names own n t)
  rider_scoped own n (atom w) = tt
  rider_scoped own n (list none) = tt
  rider_scoped own n (list (list us ▸ ts)) = tt
  rider_scoped own n (list (atom w ▸ ts)) =
      if_holds IsRider (is w _) _ _ (mapped_holds IsConditional IsRider where_holds _ (when_scoped own n (n + 2) ts) (λ p h. h))
      (mapped_holds IsDeed IsRider always _ (begun_scoped own n (n + 2) ts (head_of w)) (λ x h. h))

  riders_scoped : (own : Option Ways) (m : ℕ) (ts : Trees) → Holds (λ rs. list_all (rider_is_scoped columns count) rs ≡ true) (riders_reading d names own m ts)
  riders_scoped own m ts = placed_holds (rider_is_scoped columns count) (ith_rider_reading d names own) (λ i n t. limited_holds IsRider _ n _ (rider_scoped own n t)) 0 m ts

  -- ---- what is done at edges

  call_known : (n m : ℕ) (ts : Trees) → Holds (λ (p : ℕ × List Term). AreKnown p.1) (call_parts_reading d names n m ts)
  call_known n m none = tt
  call_known n m (t ▸ ts) =
      both_holds (λ a. Unit {0}) AreKnown (λ (p : ℕ × List Term). AreKnown p.1) pair (action_use d m t) (arguments_reading names (arguments_due d t) n (m + item_count t) ts)
      (holds_unit (action_use d m t)) (arguments_known (arguments_due d t) n (m + item_count t) ts) (λ a args h g. g)

  step_known : (m : ℕ) (t : Tree) (n : ℕ) (u : Tree) → Holds (λ (p : EdgeKind × (ℕ × List Term)). AreKnown p.1.1) (step_reading d names m t n u)
  step_known m t n u =
      both_holds (λ e. Unit {0}) (λ (p : ℕ × List Term). AreKnown p.1) (λ (p : EdgeKind × (ℕ × List Term)). AreKnown p.1.1) pair (edge_reading m t) _
      (holds_unit (edge_reading m t)) (listed_holds (λ (p : ℕ × List Term). AreKnown p.1) (call_parts_reading d names) n u call_known) (λ e p h g. g)

  abbrev IsOn : On → Type 0
  IsOn x = on_is_scoped columns count x ≡ true

  parts_scoped : (own : Option Ways) (edges : Edges) (n m : ℕ) (ts : Trees) → Holds IsOn (on_parts_reading d names own edges n m ts)
  parts_scoped own edges n m none = tt
  parts_scoped own edges n m (t ▸ none) = tt
  parts_scoped own edges n m (t ▸ u ▸ ts) =
      if_holds IsOn (is_refused edges (edge_of t)) (wrong Shape n) _ tt
      (limited_holds IsOn (nat_lt path_limit (path_count d own ts)) n _
      (both_holds (λ (p : EdgeKind × (ℕ × List Term)). AreKnown p.1.1) (λ rs. list_all (rider_is_scoped columns count) rs ≡ true) IsOn the_on _ _
      (step_known m t (m + item_count t) u) (riders_scoped own (m + item_count t + item_count u) ts)
      (λ p rs h g. and_from (list_all term_is_known p.1.1) (list_all (rider_is_scoped columns count) rs) h g)))

  pub ons_scoped : (own : Option Ways) (edges : Edges) (m : ℕ) (ts : Trees) → Holds (λ xs. list_all (on_is_scoped columns count) xs ≡ true) (ons_reading d names own edges m ts)
  ons_scoped own edges m none = refl
  ons_scoped own edges m (t ▸ ts) =
      both_holds IsOn (λ xs. list_all (on_is_scoped columns count) xs ≡ true) (λ xs. list_all (on_is_scoped columns count) xs ≡ true) cons (on_reading d names own edges m t) _
      (behind_holds IsOn _ (on_parts_reading d names own edges) m t (parts_scoped own edges)) (ons_scoped own (without edges (edge_in t)) (m + item_count t) ts)
      (λ x xs h g. and_from (on_is_scoped columns count x) (list_all (on_is_scoped columns count) xs) h g)
