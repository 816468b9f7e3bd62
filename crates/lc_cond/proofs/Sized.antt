-- A development has as many conditions as its sizes come to.
use Rattle.std.proofs.Common.{◌≡◌, ℕ, zero, suc, ◌+◌, ◌*◌, ◌-◌, ◌<◌, ◌≤◌, Bool, true, false, not, ◌&&◌, ◌||◌, ◌==◌, Option, Some, None, List, [], ◌∷◌, ◌++◌, map, length, refl, sym, ap, ap₂, ◌∙◌, subst, inl, inr, pos, arith}
use Rattle.std.specs.Prelude.{sum_by, slice_get, option_map, nat_le, nat_lt}
use Rattle.std.specs.List.{list_all}
use Rattle.std.proofs.lemmas.Bool.Decides.{nat_tests}
use Rattle.std.proofs.lemmas.List.{length-append, length-map}
use Rattle.std.proofs.lemmas.List.Folds.{list_any-append}
use Rattle.std.proofs.lemmas.List.Sums.{sum_by-cons, sum_by-append}
use Rattle.std.proofs.lemmas.Option.{same_Some}
use Rattle.lc_lemmas.proofs.Numbers.{equal_to_itself}
use Rattle.lc_lemmas.proofs.Booleans.{left_true, right_true}
use Rattle.lc_term.specs.Lists.{Every, IsIn, numbered, concat_map, concat_places}
use Rattle.lc_term.specs.Syntax.{Term, Variable, Number, Column, Base, Formula, Le, Not}
use Rattle.lc_term.specs.Replacement.{replacing, replace_term}
use Rattle.lc_term.specs.Updates.{Update}
use Rattle.lc_term.specs.Said.{put, after, said, told, term_at, at_client}
use Rattle.lc_term.specs.SystemColumns.{pend, rep_columns, noted, note_columns, column_count}
use Rattle.lc_term.proofs.Stores.{Every-append}
use Rattle.lc_seq.specs.Specification as Q
use Rattle.lc_seq.specs.Specification.{Branch, branch_is_resolved, update_is_resolved, operation_is_resolved, chosen}
use Rattle.lc_seq.specs.Branches.{op_branches, branches_in, arity}
use Rattle.lc_seq.specs.Sequential.{given_in}
use Rattle.lc_seq.proofs.Choosing.{chosen-every}
use Rattle.lc_object.specs.Syntax as O
use Rattle.lc_object.specs.Edges.{Edge, edges, edges_at, edges_from, row_updates, row_sums, array_columns, columns_in}
use Rattle.lc_object.specs.Places.{operation_at}
use Rattle.lc_object.specs.WellFormed.{variable_count, is_array, is_width, are_distinct, are_operations, is_point}
use Rattle.lc_action.specs.Action.{Action, enter, leave, post_columns, acting_variables}
use Rattle.lc_rider.specs.Rider.{Marking, Own, Other, Note, Deed, Assign, Marks, Rider}
use Rattle.lc_rider.specs.Paths.{Path, with_fact, edge_variables, path_start, observing_duty, mark_duties, branch_variables, mark_updates, marked_op, marked_client, branch_paths, deed_paths, deed_paths_where, rider_paths, paths}
use Rattle.lc_outline.specs.Development.{Development, On, first_system, invariant_of, on_at, asserts_at, riders_in, all_actions, asserts_to, in_operation, in_body}
use Rattle.lc_outline.specs.Resolved.{IsDeedResolved, IsRiderResolved, IsOnResolved, IsResolved, is_resolved}
use Rattle.lc_outline.proofs.Resolving.{passed_is_resolved}
use Rattle.lc_cond.specs.Stretches.{stable_from}
use Rattle.lc_cond.specs.Conditions.{Init, InitIdle, Entry, First, Reply, Invariant, NextKind, Head, conditions_of, at_start, at_entry, on_path, alone_on_path, range, idle_frame, body_frame, justified, start_formula, start_conditions, entry_variables, entered, entry_conditions, at_end, reply_goals, is_base, column_condition, action_conditions, on_conditions, duty_condition, path_conditions, body_hypotheses, edge_conditions_in, edge_conditions, stable_under, stable_conditions, point_stability, idle_stability}
use Rattle.lc_outline.specs.Sizes.{columns_of, stands, Way, asked_of, mark_way, deed_ways, no_way, ways_where, rider_ways, instance_count, way_count, edge_count, returned, ended_columns, columns_acted, edge_size, edge_sizes, assert_sizes}
use Rattle.lc_cond.specs.Counted.{AreCounted}
use Rattle.lc_cond.proofs.Stored.{and_true, not_either, puts_base, after_base, changed, columns_length, changed_different}
use Rattle.lc_cond.proofs.Counts.{numbered_length, concat_places_length, total_mapped, total_places, total_each, concat_alike_length, sum_joined}
use Rattle.lc_outline.proofs.InScope.{list_all_every}

-- ---- each element

pub every_at : {A : Type 0} (P : A → Type 0) (xs : List A) (k : ℕ) (x : A) → Every P xs → slice_get xs k ≡ Some x → P x
every_at P [] k x h e = cc
every_at P (y ∷ xs) zero x h e = subst P (same_Some y x e) h.0
every_at P (y ∷ xs) (suc k) x h e = every_at P xs k x h.1 e

every_mapped : {A B : Type 0} (P : B → Type 0) (f : A → B) (xs : List A) → Every (λ x. P (f x)) xs → Every P (map f xs)
every_mapped P f [] h = tt
every_mapped P f (x ∷ xs) h = (h.0, every_mapped P f xs h.1)

every_in : {A : Type 0} (P : A → Type 0) (xs : List A) → Every P xs → (x : A) → IsIn x xs → P x
every_in P [] h x i = absurd i
every_in P (y ∷ xs) h x (inl e) = subst P (sym e) h.0
every_in P (y ∷ xs) h x (inr i) = every_in P xs h.1 x i

each_in : {A : Type 0} (P : A → Type 0) (xs : List A) → ((x : A) → IsIn x xs → P x) → Every P xs
each_in P [] h = tt
each_in P (x ∷ xs) h = (h x (inl refl), each_in P xs (λ y i. h y (inr i)))

-- ---- tests

more : (x e s d : Bool) → (x && not e) ≡ not s → ((x && not d) && not e) ≡ not (s || d)
more true e true true h = refl
more true e false true h = refl
more false e true true h = refl
more false e false true h = refl
more true e true false h = h
more true e false false h = h
more false e true false h = h
more false e false false h = h

-- ---- marks

-- for a note one is asked after its branch
abbrev pub noting : Marking → ℕ
noting Own = 0
noting (Other t o) = 0
noting Note = 1

pub length_of_observing : (ops : List Q.Operation) (first n : ℕ) (k : Marking) (fs : List Formula) (b : Branch) → length (observing_duty ops first n k fs b) ≡ noting k
length_of_observing ops first n Own fs b = refl
length_of_observing ops first n (Other t o) fs b = refl
length_of_observing ops first n Note fs b = refl

pub length_of_mark_duties : (ops : List Q.Operation) (first n : ℕ) (k : Marking) (p : Path) (c : Term) (υ : List Term) (bs : List Branch) → length (mark_duties ops first n k p c υ bs) + noting k ≡ asked_of k
length_of_mark_duties ops first n Own p c υ bs = refl
length_of_mark_duties ops first n (Other t q) p c υ bs = refl
length_of_mark_duties ops first n Note p c υ bs = refl

at_columns : (P : ℕ → Type 0) (cs : List ℕ) (ts : List Term) → Every P cs → Every P (columns_of (at_client cs ts))
at_columns P [] ts h = tt
at_columns P (c ∷ cs) [] h = tt
at_columns P (c ∷ cs) (t ∷ ts) h = (h.0, at_columns P cs ts h.1)

joined_columns : (P : ℕ → Type 0) (us vs : List Update) → Every P (columns_of us) → Every P (columns_of vs) → Every P (columns_of (us ++ vs))
joined_columns P [] vs h g = g
joined_columns P (u ∷ us) vs h g = (h.0, joined_columns P us vs h.1 g)

module _ (first : ℕ) where
  abbrev Below : ℕ → Type 0
  Below c = c < column_count first

  replies_below : Every Below (rep_columns first)
  replies_below = (omega arith, (omega arith, (omega arith, tt)))

  notes_below : Every Below (noted first ∷ note_columns first)
  notes_below = (omega arith, (omega arith, (omega arith, (omega arith, tt))))

  settled_below : (b : Branch) → Every Below (columns_of b.updates) → Every Below (columns_of (b.updates ++ (at_client (rep_columns first) b.replies ++ at_client (pend first ∷ []) (Number (pos 2) ∷ []))))
  settled_below b h =
      joined_columns Below b.updates _ h
      (joined_columns Below (at_client (rep_columns first) b.replies) _ (at_columns Below (rep_columns first) b.replies replies_below) (omega arith, tt))

  mark_below : (k : Marking) (b : Branch) → Every Below (columns_of b.updates) → Every Below (columns_of (mark_updates first k b))
  mark_below Own b h = settled_below b h
  mark_below (Other t o) b h = settled_below b h
  mark_below Note b h = at_columns Below (noted first ∷ note_columns first) (Number (pos 1) ∷ b.replies) notes_below

-- ---- paths

module _ (D : Development) (base : ℕ) (ends : List ℕ) where
  abbrev ops : List Q.Operation
  ops = D.specification.operations

  abbrev first : ℕ
  first = first_system D

  abbrev AllBelow : List ℕ → Type 0
  AllBelow cs = Every (λ c. c < column_count first) cs

  -- the columns that are stored in on a path and after it
  abbrev Stores : Path → List ℕ → Type 0
  Stores p cs = (c : ℕ) → (is_base c (p.columns c) && not (stands c ends)) ≡ not (stands c cs)

  record Fits (p : Path) (a : ℕ) (cs : List ℕ) : Type 0 where
    asked : base + length p.duties ≡ a
    stores : Stores p cs
    below : AllBelow cs

  stores_more : (p q : Path) (cs ds : List ℕ) → Stores p cs → ((c : ℕ) → is_base c (q.columns c) ≡ (is_base c (p.columns c) && not (stands c ds))) → Stores q (cs ++ ds)
  stores_more p q cs ds h g c =
      ap (λ b. b && not (stands c ends)) (g c)
      ∙ more (is_base c (p.columns c)) (stands c ends) (stands c cs) (stands c ds) (h c)
      ∙ ap not (sym (list_any-append (λ k. k == c) cs ds))

  fits_more : (p q : Path) (a b : ℕ) (cs ds : List ℕ) → Fits p a cs → base + length q.duties ≡ b → ((c : ℕ) → is_base c (q.columns c) ≡ (is_base c (p.columns c) && not (stands c ds))) → AllBelow ds → Fits q b (cs ++ ds)
  fits_more p q a b cs ds h e g below = record { asked = e; stores = stores_more p q cs ds h.stores g; below = Every-append (λ c. c < column_count first) cs ds h.below below }

  abbrev Branches : List Branch → Type 0
  Branches bs = Every (λ (b : Branch). AllBelow (columns_of b.updates)) bs

  module _ (F : Path → ℕ) (G : ℕ → List ℕ → ℕ) (same : (p : Path) (a : ℕ) (cs : List ℕ) → Fits p a cs → F p ≡ G a cs) where
    abbrev over : ℕ → List ℕ → Way → ℕ
    over a cs way = G (a + way.asked) (cs ++ way.columns)

    branch_sum : (n : ℕ) (k : Marking) (υ : List Term) (bs : List Branch) (p : Path) (a : ℕ) (cs : List ℕ) → base + length p.duties + noting k ≡ a + asked_of k → Stores p cs → AllBelow cs → Branches bs →
        sum_by F (branch_paths ops first n k υ bs p) ≡ sum_by (over a cs) (map (mark_way first k) bs)
    branch_sum n k υ [] p a cs e h below all = refl
    branch_sum n k υ (b ∷ bs) p a cs e h below all =
        let g = told p.columns υ b.guard in
        let facts = p.facts ++ g ∷ [] in
        let us = mark_updates first k b in
        let owes = observing_duty ops first n k facts b in
        let q : Path = record { columns = after p.columns υ us; facts = facts; duties = p.duties ++ owes } in
        let longer = length-append p.duties owes in
        let extra = length_of_observing ops first n k facts b in
        let fits : Fits q (a + asked_of k) (cs ++ columns_of us) = record {
          asked = omega (arith, longer, extra, e);
          stores = stores_more p q cs (columns_of us) h (after_base p.columns υ us);
          below = Every-append (λ d. d < column_count first) cs (columns_of us) below (mark_below first k b all.0);
        } in
        sum_by-cons F q (branch_paths ops first n k υ bs (with_fact p (Not g)))
        ∙ ap₂ (λ x y. x + y) (same q (a + asked_of k) (cs ++ columns_of us) fits) (branch_sum n k υ bs (with_fact p (Not g)) a cs e h below all.1)
        ∙ sym (sum_by-cons (over a cs) (mark_way first k b) (map (mark_way first k) bs))

    -- one way
    alone : (q : Path) (a : ℕ) (cs : List ℕ) (way : Way) → Fits q (a + way.asked) (cs ++ way.columns) → sum_by F (q ∷ []) ≡ sum_by (over a cs) (way ∷ [])
    alone q a cs way fits = sum_by-cons F q [] ∙ ap (λ x. x + 0) (same q (a + way.asked) (cs ++ way.columns) fits) ∙ sym (sum_by-cons (over a cs) way [])

    -- the same columns under another fact
    facts_fit : (p q : Path) (a : ℕ) (cs : List ℕ) → Fits p a cs → q.duties ≡ p.duties → q.columns ≡ p.columns → Fits q (a + 0) (cs ++ [])
    facts_fit p q a cs h duties columns =
        let count = ap length duties in
        let asked = h.asked in
        fits_more p q a (a + 0) cs [] h (omega (arith, count, asked)) (λ c. (λ i. is_base c (columns i c)) ∙ sym (and_true (is_base c (p.columns c)))) tt

    deed_sum : (n o : ℕ) (τ : List Term) (d : Deed) (p : Path) (a : ℕ) (cs : List ℕ) → Fits p a cs → ((u : Update) → d ≡ Assign u → u.column < column_count first) → ((q : ℕ) → Branches (op_branches ops q)) →
        sum_by F (deed_paths ops first n o τ d p) ≡ sum_by (over a cs) (deed_ways D o d)
    deed_sum n o τ (Assign u) p a cs h low all =
        let v = said p.columns τ u in
        let q : Path = record p { columns = put p.columns v } in
        let asked = h.asked in
        alone q a cs (record { asked = 0; columns = u.column ∷ [] })
        (fits_more p q a (a + 0) cs (u.column ∷ []) h (omega (arith, asked)) (puts_base p.columns (v ∷ [])) (low u refl, tt))
    deed_sum n o τ (Marks k by) p a cs h low all =
        let said : Term → Term = replace_term (replacing p.columns (term_at τ)) in
        let c = said (marked_client k) in
        let bs = chosen by (op_branches ops (marked_op o k)) in
        let υ = branch_variables p.columns first (arity ops (marked_op o k)) c (map said (given_in by)) in
        let owes = mark_duties ops first n k p c υ bs in
        let longer = length-append p.duties owes in
        let extra = length_of_mark_duties ops first n k p c υ bs in
        let asked = h.asked in
        branch_sum n k υ bs (record p { duties = p.duties ++ owes }) a cs (omega (arith, longer, extra, asked)) h.stores h.below
        (chosen-every (λ (b : Branch). AllBelow (columns_of b.updates)) by (op_branches ops (marked_op o k)) (all (marked_op o k)))

    where_sum : (f : Option Formula) (n o : ℕ) (τ : List Term) (d : Deed) (p : Path) (a : ℕ) (cs : List ℕ) → Fits p a cs → ((u : Update) → d ≡ Assign u → u.column < column_count first) → ((q : ℕ) → Branches (op_branches ops q)) →
        sum_by F (deed_paths_where ops first f n o τ d p) ≡ sum_by (over a cs) (ways_where f (deed_ways D o d))
    where_sum None n o τ d p a cs h low all = deed_sum n o τ d p a cs h low all
    where_sum (Some f) n o τ d p a cs h low all =
        let yes' = with_fact p (told p.columns τ f) in
        let no' = with_fact p (Not (told p.columns τ f)) in
        sum_by-append F (deed_paths ops first n o τ d yes') (no' ∷ [])
        ∙ ap₂ (λ x y. x + y) (deed_sum n o τ d yes' a cs (record { asked = h.asked; stores = h.stores; below = h.below }) low all)
        (alone no' a cs no_way (facts_fit p no' a cs h refl refl))
        ∙ sym (sum_by-append (over a cs) (deed_ways D o d) (no_way ∷ []))

  -- all paths past riders
  path_sum : (F : Path → ℕ) (action : Option (List ℕ)) → ((p : Path) (a : ℕ) (cs : List ℕ) → Fits p a cs → F p ≡ a + instance_count action cs) → ((q : ℕ) → Branches (op_branches ops q)) →
      (n o : ℕ) (τ : List Term) (rs : List Rider) → Every (λ (r : Rider). (u : Update) → r.deed ≡ Assign u → u.column < column_count first) rs → (p : Path) (a : ℕ) (cs : List ℕ) → Fits p a cs →
      sum_by F (paths ops first n o τ rs p) ≡ way_count action (map (rider_ways D o) rs) a cs
  path_sum F action same all n o τ [] low p a cs h = sum_by-cons F p [] ∙ (let e = same p a cs h in omega (arith, e))
  path_sum F action same all n o τ (r ∷ rs) low p a cs h =
      sum_joined F (paths ops first (suc n) o τ rs) (rider_paths ops first n o τ r p)
      ∙ where_sum (λ q. sum_by F (paths ops first (suc n) o τ rs q)) (way_count action (map (rider_ways D o) rs)) (path_sum F action same all (suc n) o τ rs low.1) r.condition n o τ r.deed p a cs h low.0 all

-- ---- columns that there are

module _ (D : Development) (R : IsResolved D) where
  abbrev Low : ℕ → Type 0
  Low c = c < column_count (first_system D)

  abbrev AllLow : List ℕ → Type 0
  AllLow cs = Every Low cs

  low_first : (c : ℕ) → c < length D.specification.columns → Low c
  low_first c h = omega arith

  updates_low : (v : ℕ) (us : List Update) → list_all (update_is_resolved (length D.specification.columns) v) us ≡ true → AllLow (columns_of us)
  updates_low v [] h = tt
  updates_low v (u ∷ us) h =
      let one = left_true (update_is_resolved (length D.specification.columns) v u) (list_all (update_is_resolved (length D.specification.columns) v) us) h in
      let rest = right_true (update_is_resolved (length D.specification.columns) v u) (list_all (update_is_resolved (length D.specification.columns) v) us) h in
      let test : nat_lt u.column (length D.specification.columns) ≡ true = left_true (nat_lt u.column (length D.specification.columns)) _ one in
      (low_first u.column (grind (arith, nat_tests)), updates_low v us rest)

  branch_low : (v : ℕ) (b : Branch) → branch_is_resolved (length D.specification.columns) v b ≡ true → AllLow (columns_of b.updates)
  branch_low v b h = updates_low v b.updates (left_true (list_all (update_is_resolved (length D.specification.columns) v) b.updates) _ (right_true _ _ h))

  abbrev AllBranches : List Branch → Type 0
  AllBranches bs = Every (λ (b : Branch). AllLow (columns_of b.updates)) bs

  operation_low : (o : Q.Operation) → operation_is_resolved (length D.specification.columns) o ≡ true → AllBranches o.branches
  operation_low o h =
      list_all_every (λ (b : Branch). AllLow (columns_of b.updates)) (λ (b : Branch). branch_is_resolved (length D.specification.columns) (Q.variables_of o.arguments b) b)
      (λ b. branch_low (Q.variables_of o.arguments b) b) o.branches
      (left_true (list_all (λ (b : Branch). branch_is_resolved (length D.specification.columns) (Q.variables_of o.arguments b) b) o.branches) _ h)

  branches_low : (q : ℕ) → AllBranches (op_branches D.specification.operations q)
  branches_low q = of (slice_get D.specification.operations q) refl
    where
      all : Every (λ (o : Q.Operation). AllBranches o.branches) D.specification.operations
      all = list_all_every (λ (o : Q.Operation). AllBranches o.branches) (operation_is_resolved (length D.specification.columns)) (operation_low) D.specification.operations R.specification

      of : (o : Option Q.Operation) → slice_get D.specification.operations q ≡ o → AllBranches (branches_in o)
      of None e = tt
      of (Some o) e = every_at (λ (x : Q.Operation). AllBranches x.branches) D.specification.operations q o all e

  array_test : (c : ℕ) → (nat_le (length D.object.abstracts) c && nat_lt (c - length D.object.abstracts) (length D.object.concretes)) ≡ true → Low c
  array_test c h =
      let a : nat_le (length D.object.abstracts) c ≡ true = left_true (nat_le (length D.object.abstracts) c) _ h in
      let b : nat_lt (c - length D.object.abstracts) (length D.object.concretes) ≡ true = right_true (nat_le (length D.object.abstracts) c) _ h in
      let e = R.abstracts in
      let ab : length D.object.abstracts ≤ c = grind (arith, nat_tests) in
      let be : c - length D.object.abstracts < length D.object.concretes = grind (arith, nat_tests) in
      omega (arith, e, ab, be)

  array_low : (a : O.Array) → is_array D.object a ≡ true → AllLow a.columns
  array_low a h =
      list_all_every Low (λ c. nat_le (length D.object.abstracts) c && nat_lt (c - length D.object.abstracts) (length D.object.concretes)) array_test a.columns
      (right_true (is_width (length a.columns) && are_distinct a.columns) _ h)

  arrays_tested : list_all (is_array D.object) D.object.arrays ≡ true
  arrays_tested = right_true _ (list_all (is_array D.object) D.object.arrays) (left_true _ (are_operations D.object 0 D.object.operations) (left_true _ (list_all (is_point D.object) D.object.points) R.object))

  columns_low : (k : ℕ) → AllLow (array_columns D.object k)
  columns_low k = of (slice_get D.object.arrays k) refl
    where
      of : (a : Option O.Array) → slice_get D.object.arrays k ≡ a → AllLow (columns_in a)
      of None e = tt
      of (Some a) e = every_at (λ (x : O.Array). AllLow x.columns) D.object.arrays k a (list_all_every (λ (x : O.Array). AllLow x.columns) (is_array D.object) array_low D.object.arrays arrays_tested) e

  row_low : (cs : List ℕ) (t : Term) (vs : List Term) → AllLow cs → AllLow (columns_of (row_updates cs t vs))
  row_low [] t vs h = tt
  row_low (c ∷ cs) t [] h = tt
  row_low (c ∷ cs) t (v ∷ vs) h = (h.0, row_low cs t vs h.1)

  abbrev EdgeLow : Edge → Type 0
  EdgeLow e = AllLow (columns_of e.updates)

  edges_low : (p : ℕ) (i : O.Instr) → Every EdgeLow (edges_at D.object p i)
  edges_low p (O.Load a t rs l) = (tt, tt)
  edges_low p (O.Store a t vs l) = (row_low (array_columns D.object a) t vs (columns_low a), tt)
  edges_low p (O.Cas a t old new l m) = (row_low (array_columns D.object a) t new (columns_low a), (tt, tt))
  edges_low p (O.Set rs vs l) = (tt, tt)
  edges_low p (O.Faa a t rs ds l) = (row_low (array_columns D.object a) t (row_sums (array_columns D.object a) t ds) (columns_low a), tt)
  edges_low p (O.If f l m) = (tt, (tt, tt))
  edges_low p (O.Return vs) = (tt, tt)

  all_low : (p : ℕ) (points : List O.Point) → Every EdgeLow (edges_from D.object p points)
  all_low p [] = tt
  all_low p (point ∷ points) = Every-append EdgeLow (edges_at D.object p point.instruction) (edges_from D.object (suc p) points) (edges_low p point.instruction) (all_low (suc p) points)

  -- ---- riders

  rider_low : (o : ℕ) (r : Rider) → IsRiderResolved D o r → (u : Update) → r.deed ≡ Assign u → Low u.column
  rider_low o r h u e = (let is = (subst (IsDeedResolved D o) e h.1).1 in omega (arith, is))

  riders_low : (o : ℕ) (rs : List Rider) → Every (IsRiderResolved D o) rs → Every (λ (r : Rider). (u : Update) → r.deed ≡ Assign u → Low u.column) rs
  riders_low o [] h = tt
  riders_low o (r ∷ rs) h = (rider_low o r h.0, riders_low o rs h.1)

  on_low : (o : ℕ) (e : Edge) (x : Option On) → IsOnResolved D o e x → Every (λ (r : Rider). (u : Update) → r.deed ≡ Assign u → Low u.column) (riders_in x)
  on_low o e None h = tt
  on_low o e (Some x) h = riders_low o x.riders h.1

  -- ---- actions

  abbrev pub acted_size : (ℕ → Column) → List Term → Option Action → ℕ
  acted_size σ ts None = 0
  acted_size σ ts (Some a) = suc (changed 0 (column_count (first_system D)) σ (post_columns a (Variable 1) ts))

  abbrev pub on_size : (ℕ → Column) → Option On → ℕ
  on_size σ None = 0
  on_size σ (Some x) = acted_size σ x.arguments (slice_get D.actions x.action)

  acted_length : (e : Edge) (v j : ℕ) (hs : List Formula) (σ : ℕ → Column) (ts : List Term) (a : Option Action) → length (action_conditions D e v j hs σ ts a) ≡ acted_size σ ts a
  acted_length e v j hs σ ts None = refl
  acted_length e v j hs σ ts (Some a) = ap suc (columns_length (column_condition e v j hs) 0 (column_count (first_system D)) σ (post_columns a (Variable 1) ts))

  on_length : (e : Edge) (v j : ℕ) (hs : List Formula) (σ : ℕ → Column) (x : Option On) → length (on_conditions D e v j hs σ x) ≡ on_size σ x
  on_length e v j hs σ None = refl
  on_length e v j hs σ (Some x) = acted_length e v j hs σ x.arguments (slice_get D.actions x.action)

  acted_counted : (σ : ℕ → Column) (cs : List ℕ) (ts : List Term) (k : ℕ) (a : Option Action) → slice_get D.actions k ≡ a → ((c : ℕ) → is_base c (σ c) ≡ not (stands c cs)) → AllLow cs →
      acted_size σ ts a ≡ instance_count (option_map (λ (x : Action). columns_of x.updates) a) cs
  acted_counted σ cs ts k None e h low = refl
  acted_counted σ cs ts k (Some a) e h low =
      let few = every_at (λ (x : Action). Every (λ (u : Update). u.column < column_count (first_system D)) x.updates) D.actions k a R.actions e in
      ap suc (changed_different σ (post_columns a (Variable 1) ts) cs (columns_of a.updates) (column_count (first_system D)) h
      (λ c. after_base Base (acting_variables (Variable 1) ts) a.updates c ∙ ap (λ b. b && not (stands c (columns_of a.updates))) (equal_to_itself c))
      (Every-append Low cs (columns_of a.updates) low (every_mapped Low (λ (u : Update). u.column) a.updates few)))

  on_counted : (σ : ℕ → Column) (cs : List ℕ) (x : Option On) → ((c : ℕ) → is_base c (σ c) ≡ not (stands c cs)) → AllLow cs → on_size σ x ≡ instance_count (columns_acted D x) cs
  on_counted σ cs None h low = refl
  on_counted σ cs (Some x) h low = acted_counted σ cs x.arguments x.action (slice_get D.actions x.action) refl h low

  -- ---- paths

  join : {A : Type 0} (xs ys : List A) (m n : ℕ) → length xs ≡ m → length ys ≡ n → length (xs ++ ys) ≡ m + n
  join xs ys m n h g = length-append xs ys ∙ ap₂ (λ a b. a + b) h g

  told_length : (h : Head) (hs : List Formula) (f : Formula → Formula) (goals : List Formula) → length (conditions_of h hs (map f goals)) ≡ length goals
  told_length h hs f goals = numbered_length (λ j g. record { kind = h.kind; place = h.place j; variables = h.variables; hypotheses = hs; goal = g }) 0 (map f goals) ∙ length-map goals f

  reply_length : (x : Formula) (next : Option ℕ) → length {A = Formula} (elim next [ Some q ↦ [] | None ↦ x ∷ [] ]) ≡ returned next
  reply_length x None = refl
  reply_length x (Some q) = refl

  abbrev pub path_size : Edge → Option On → Path → ℕ
  path_size e on p = length p.duties + (returned e.next + (length (invariant_of D) + (length (asserts_to D e.next) + on_size (at_end (first_system D) e.next p.columns) on)))

  pub path_length : (e : Edge) (v : ℕ) (on : Option On) (hs : List Formula) (j : ℕ) (p : Path) → length (path_conditions D e v on hs j p) ≡ path_size e on p
  path_length e v on hs j p =
      let first = first_system D in
      let τ = edge_variables v e in
      let all = hs ++ p.facts in
      let σ = at_end first e.next p.columns in
      let duties = map (duty_condition e v j hs) p.duties in
      let replies = conditions_of (alone_on_path Reply e v j) all (map (told p.columns τ) (reply_goals first e)) in
      let invariants = conditions_of (on_path Invariant e v j) all (map (told σ τ) (invariant_of D)) in
      let nexts = conditions_of (on_path NextKind e v j) all (map (told σ τ) (asserts_to D e.next)) in
      let ons = on_conditions D e v j all σ on in
      join duties (replies ++ (invariants ++ (nexts ++ ons))) _ _ (length-map p.duties (duty_condition e v j hs))
      (join replies (invariants ++ (nexts ++ ons)) _ _ (told_length (alone_on_path Reply e v j) all (told p.columns τ) (reply_goals first e) ∙ reply_length (justified first e.replies) e.next)
      (join invariants (nexts ++ ons) _ _ (told_length (on_path Invariant e v j) all (told σ τ) (invariant_of D))
      (join nexts ons _ _ (told_length (on_path NextKind e v j) all (told σ τ) (asserts_to D e.next)) (on_length e v j all σ on))))

  ended : (next : Option ℕ) (σ : ℕ → Column) (c : ℕ) → is_base c (at_end (first_system D) next σ c) ≡ (is_base c (σ c) && not (stands c (ended_columns (first_system D) next)))
  ended (Some q) σ c = sym (and_true (is_base c (σ c)))
  ended None σ c = puts_base σ (record { column = pend (first_system D); index = Variable 1; value = Number (pos 0) } ∷ []) c

  ended_low : (next : Option ℕ) → AllLow (ended_columns (first_system D) next)
  ended_low (Some q) = tt
  ended_low None = (omega arith, tt)

  -- ---- edges

  edge_length : (o : ℕ) (operation : O.Operation) (e : Edge) → IsIn e (edges D.object) → length (edge_conditions_in D o operation e) ≡ edge_count (edge_size D o e)
  edge_length o operation e i =
      let on = on_at D e.point e.kind in
      let v = variable_count operation in
      let base = returned e.next + (length (invariant_of D) + length (asserts_to D e.next)) in
      let ends = ended_columns (first_system D) e.next in
      let start : Fits D base ends (path_start e) base (columns_of e.updates ++ ends) = record {
        asked = omega arith;
        stores = λ c. ap (λ b. b && not (stands c ends)) (puts_base Base e.updates c ∙ ap (λ b. b && not (stands c (columns_of e.updates))) (equal_to_itself c))
            ∙ not_either (stands c (columns_of e.updates)) (stands c ends) ∙ ap not (sym (list_any-append (λ k. k == c) (columns_of e.updates) ends));
        below = Every-append Low (columns_of e.updates) ends (every_in EdgeLow (edges D.object) (all_low 0 D.object.points) e i) (ended_low e.next);
      } in
      concat_places_length (path_size e on) (path_conditions D e v on (body_hypotheses D o operation e.point ++ e.facts)) (λ j p. path_length e v on (body_hypotheses D o operation e.point ++ e.facts) j p) 0
      (paths D.specification.operations (first_system D) 0 o (edge_variables v e) (riders_in on) (path_start e))
      ∙ path_sum D base ends (path_size e on) (columns_acted D on) (same e on base ends refl refl) branches_low 0 o (edge_variables v e) (riders_in on)
      (on_low (operation_at D.object e.point) e on (R.ons e i)) (path_start e) base (columns_of e.updates ++ ends) start
    where
      same : (e : Edge) (on : Option On) (base : ℕ) (ends : List ℕ) → base ≡ returned e.next + (length (invariant_of D) + length (asserts_to D e.next)) → ends ≡ ended_columns (first_system D) e.next →
          (p : Path) (a : ℕ) (cs : List ℕ) → Fits D base ends p a cs → path_size e on p ≡ a + instance_count (columns_acted D on) cs
      same e on base ends is are p a cs h =
          let stored = on_counted (at_end (first_system D) e.next p.columns) cs on (λ c. ended e.next p.columns c ∙ ap (λ l. is_base c (p.columns c) && not (stands c l)) (sym are) ∙ h.stores c) h.below in
          let asked = h.asked in
          omega (arith, stored, asked, is)

  sum_alone : {X : Type 0} (G : X → ℕ) (x : X) → G x ≡ sum_by G (x ∷ [])
  sum_alone G x = (let e = sum_by-cons G x [] in omega (arith, e))

  in_one : {A X : Type 0} (G : X → ℕ) (f : ℕ → O.Operation → List A) (g : ℕ → O.Operation → List X) → ((k : ℕ) (o : O.Operation) → length (f k o) ≡ sum_by G (g k o)) → (k : ℕ) (o : Option O.Operation) →
      length (in_operation f k o) ≡ sum_by G (in_operation g k o)
  in_one G f g h k None = refl
  in_one G f g h k (Some o) = h k o

  in_some : {A X : Type 0} (G : X → ℕ) (f : ℕ → O.Operation → List A) (g : ℕ → O.Operation → List X) → ((k : ℕ) (o : O.Operation) → length (f k o) ≡ sum_by G (g k o)) → (p : Option O.Point) →
      length (in_body D.object f p) ≡ sum_by G (in_body D.object g p)
  in_some G f g h None = refl
  in_some G f g h (Some p) = in_one G f g h p.operation (slice_get D.object.operations p.operation)

  edge_sized : (e : Edge) → IsIn e (edges D.object) → length (edge_conditions D e) ≡ sum_by edge_count (edge_sizes D e)
  edge_sized e i =
      in_some edge_count (λ o operation. edge_conditions_in D o operation e) (λ o operation. edge_size D o e ∷ []) (λ o operation. edge_length o operation e i ∙ sum_alone edge_count (edge_size D o e)) (slice_get D.object.points e.point)

  -- ---- the others

  pub actions_length : length (all_actions D) ≡ length D.actions + 2
  actions_length = length-append D.actions (enter (first_system D) ∷ leave (first_system D) ∷ [])

  -- some conjuncts, under all actions
  pub stable_from_length : (point : Option ℕ) (n : ℕ) (hs : List Formula) (k : ℕ) (fs : List Formula) → length (stable_from D point n hs k fs) ≡ length fs * (length D.actions + 2)
  stable_from_length point n hs k fs =
      concat_alike_length (length D.actions + 2) (λ j f. numbered (stable_under D point n hs j f) 0 (all_actions D))
      (λ j f. numbered_length (stable_under D point n hs j f) 0 (all_actions D) ∙ actions_length) k fs

  pub stable_length : (point : Option ℕ) (n : ℕ) (frame asserts : List Formula) → length (stable_conditions D point n frame asserts) ≡ length asserts * (length D.actions + 2)
  stable_length point n frame asserts = stable_from_length point n (frame ++ (invariant_of D ++ asserts)) 0 asserts

  abbrev by_actions : ℕ → ℕ
  by_actions n = n * (length D.actions + 2)

  point_sized : (p : ℕ) (point : O.Point) → length (point_stability D p point) ≡ sum_by by_actions (assert_sizes D p point)
  point_sized p point =
      in_some by_actions (λ o operation. stable_conditions D (Some p) (variable_count operation) (body_frame (first_system D) o (length operation.arguments)) (asserts_at D p)) (λ o operation. length (asserts_at D p) ∷ [])
      (λ o operation. stable_length (Some p) (variable_count operation) (body_frame (first_system D) o (length operation.arguments)) (asserts_at D p) ∙ sum_alone by_actions (length (asserts_at D p))) (Some point)

  pub entry_sized : (k : ℕ) (o : O.Operation) → length (entry_conditions D k o) ≡ length (invariant_of D) + length (asserts_at D o.entry)
  entry_sized k o =
      let hs = range (Variable 1) ++ (idle_frame (first_system D) ++ (invariant_of D ++ D.idle)) in
      let f = told (entered (first_system D) k o) (entry_variables o) in
      join (conditions_of (at_entry Entry o) hs (map f (invariant_of D))) (conditions_of (at_entry First o) hs (map f (asserts_at D o.entry))) _ _
      (told_length (at_entry Entry o) hs f (invariant_of D)) (told_length (at_entry First o) hs f (asserts_at D o.entry))

  pub start_sized : length (start_conditions D) ≡ length (invariant_of D) + length D.idle
  start_sized =
      join (conditions_of (at_start Init 1) (Le (Number (pos 0)) (Variable 0) ∷ []) (map (start_formula D) (invariant_of D))) (conditions_of (at_start InitIdle 2) (range (Variable 1)) (map (start_formula D) D.idle)) _ _
      (told_length (at_start Init 1) (Le (Number (pos 0)) (Variable 0) ∷ []) (start_formula D) (invariant_of D)) (told_length (at_start InitIdle 2) (range (Variable 1)) (start_formula D) D.idle)

  counted : AreCounted D
  counted =
      let entries = concat_places (entry_conditions D) 0 D.object.operations in
      let passes = concat_map (edge_conditions D) (edges D.object) in
      let stays = concat_places (point_stability D) 0 D.object.points in
      join (start_conditions D) (entries ++ (passes ++ (stays ++ idle_stability D))) _ _ start_sized
      (join entries (passes ++ (stays ++ idle_stability D)) _ _ (total_mapped (λ n. length (invariant_of D) + n) (λ (o : O.Operation). length (asserts_at D o.entry)) (entry_conditions D) entry_sized 0 D.object.operations)
      (join passes (stays ++ idle_stability D) _ _ (total_each edge_count (edge_sizes D) (edge_conditions D) (edges D.object) (each_in (λ e. length (edge_conditions D e) ≡ sum_by edge_count (edge_sizes D e)) (edges D.object) edge_sized))
      (join stays (idle_stability D) _ _ (total_places by_actions (assert_sizes D) (point_stability D) point_sized 0 D.object.points)
      (stable_length None 2 (idle_frame (first_system D)) D.idle))))

-- A development has as many conditions as its sizes come to
pub are_counted : (D : Development) → is_resolved D ≡ true → AreCounted D
are_counted D h = counted D (passed_is_resolved D h)
