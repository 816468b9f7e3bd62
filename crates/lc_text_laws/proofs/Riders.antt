-- Riders, and what is done at an edge, are printed as they stood.
use Rattle.std.proofs.Common.{◌≡◌, ℕ, ◌+◌, Bool, true, false, cond, List, [], Option, Some, None, map, refl, sym, ap, ◌∙◌, subst}
use Rattle.std.specs.Prelude.{codes, nat_lt, nat_le, length, ◌&&◌, if◌then◌else◌}
use Rattle.lc_base.specs.NameText.{is_name}
use Rattle.lc_base.specs.Limits.{path_limit, rider_limit}
use Rattle.lc_sexp.specs.Trees.{Tree, Trees, atom, list, none, ◌▸◌, item_count, row}
use Rattle.lc_reading.proofs.Fine.{IfFine, if_fine_unit, cond_fine, mapped_fine, both_fine}
use Rattle.lc_reading.proofs.Words.{is-true}
use Rattle.lc_reading.specs.Naming.{within, spelled_reading, use_reading}
use Rattle.lc_reading.specs.Readings.{Reading, fine, wrong, mapped, ended, three_of}
use Rattle.lc_reading.specs.Reserved.{is_action_name}
use Rattle.lc_reading.specs.Words.{is, is_long}
use Rattle.lc_reading.specs.declared.pass.Pass.TheVariants.{Shape, Bound, Unknown}
use Rattle.lc_term.specs.Syntax.{Term}
use Rattle.lc_term.specs.Updates.{Update}
use Rattle.lc_text.specs.Names.{Names}
use Rattle.lc_text.specs.Spelling.{Spelled}
use Rattle.lc_text.specs.SpelledTree.{term_tree, formula_tree}
use Rattle.lc_text.specs.Terms.{pair, triple, term_reading}
use Rattle.lc_object.specs.Syntax.{Object}
use Rattle.lc_object.specs.declared.instr.EdgeKind.{EdgeKind}
use Rattle.lc_object.specs.declared.instr.EdgeKind.TheVariants.{Next, Then, Else}
use Rattle.lc_action.specs.Action.{Action}
use Rattle.lc_seq.specs.Sequential.{Chosen, InOrder, ByName}
use Rattle.lc_rider.specs.Rider.{Deed, Assign, Marks, Rider, Own, Other, Note}
use Rattle.lc_outline.specs.Development.{On}
use Rattle.lc_object_text.specs.Rows.{cons, placed_reading}
use Rattle.lc_rider_text.specs.Choices.{may_choose, may_go_in_order, in_order_reading, choice_use, terms_due, choice_reading, by_reading}
use Rattle.lc_rider_text.specs.Edges.{edge_of, edge_in, edge_reading, found_edge, is_refused, without}
use Rattle.lc_rider_text.specs.Heads.{head_of, kind_of}
use Rattle.lc_rider_text.specs.Known.{Known, Ways}
use Rattle.lc_rider_text.specs.Ons.{action_use, arguments_due, call_parts_reading, call_reading, step_reading, the_on, on_parts_reading, on_reading, ons_reading}
use Rattle.lc_rider_text.specs.Paths.{path_count}
use Rattle.lc_rider_text.specs.Riders.{other_reading, ways_named, mark_of_other, lin_other_reading, lin_other_by_reading, deed_with, deed_reading, when_reading, always, where_holds, rider_reading, ith_rider_reading, riders_reading}
use Rattle.lc_rider_text.specs.Scopes.{column_place, quiet}
use Rattle.lc_rider_text.specs.Terms.{arguments_reading}
use Rattle.lc_rider_text.specs.Updates.{the_update, listed_update_reading}
use Rattle.lc_rider_text.specs.declared.edges.Edges.{Edges}
use Rattle.lc_outline.specs.EdgeWords.{edge_word}
use Rattle.lc_outline_print.specs.Naming.{operation_name, action_name}
use Rattle.lc_outline_print.specs.Parts.{term_trees, update_parts, update_tree}
use Rattle.lc_outline_print.specs.Beside.{deed_tree, rider_tree, on_tree}
use Rattle.lc_text_laws.specs.KnownSpelled.{AreKnown}
use Rattle.lc_text_laws.specs.Spellings.{IsSpelledSo}
use Rattle.lc_text_laws.proofs.Alike.{ended_at, two_at}
use Rattle.lc_text_laws.proofs.Rows.{both_trees, IsRow, each_row, counted_row, in_list, behind_word, limited_fine, three_at, use_stood}
use Rattle.lc_text_laws.proofs.Terms.{one_word, term_stood, formula_stood}

-- ---- rows that are placed

module _ {X : Type 0} (tree : X → Tree) where
  pub placed_row : (read : ℕ → ℕ → Tree → Reading X) → ((i n : ℕ) (t : Tree) → IfFine (read i n t) (λ x. tree x ≡ t)) → (i m : ℕ) (ts : Trees) → IfFine (placed_reading read i m ts) (IsRow tree ts)
  placed_row read h i m none = refl
  placed_row read h i m (t ▸ ts) =
      both_fine (λ x. tree x ≡ t) (IsRow tree ts) (IsRow tree (t ▸ ts)) cons (read i m t) (placed_reading read (i + 1) (m + item_count t) ts) (h i m t) (placed_row read h (i + 1) (m + item_count t) ts)
      (λ x xs a b. both_trees (tree x) t (row (map tree xs)) ts a b)

-- ---- words

found_stood : (n : ℕ) (w : List ℕ) → IfFine (found_edge n (kind_of w)) (λ k. atom (edge_word k) ≡ atom w)
found_stood n w =
    one_word (found_edge n) (λ k. atom (edge_word k) ≡ atom w) (is w (codes "next")) Next _ (λ e. ap atom (sym (is-true w (codes "next") e)))
    (one_word (found_edge n) (λ k. atom (edge_word k) ≡ atom w) (is w (codes "then")) Then _ (λ e. ap atom (sym (is-true w (codes "then") e)))
    (one_word (found_edge n) (λ k. atom (edge_word k) ≡ atom w) (is w (codes "else")) Else None (λ e. ap atom (sym (is-true w (codes "else") e))) tt))

edge_stood : (n : ℕ) (t : Tree) → IfFine (edge_reading n t) (λ k. atom (edge_word k) ≡ t)
edge_stood n (atom w) = found_stood n w
edge_stood n (list ts) = tt

pub quiet_spelled : (names : Names) (by : Spelled) → IsSpelledSo names by → IsSpelledSo (quiet names) by
quiet_spelled names by spelled = record { variables = spelled.variables; columns = spelled.columns; unnumbered = refl; unbuilt = refl }

-- ---- updates

module _ (known : Known) (names : Names) (by : Spelled) (spelled : IsSpelledSo names by) (columns : (w : List ℕ) (k : ℕ) → column_place known.columns w ≡ Some k → by.column k ≡ w) where
  -- the same readings, with the columns that may be stored in given by a test
  abbrev stored_by : (ℕ → Bool) → ℕ → List ℕ → Option ℕ → Reading ℕ
  stored_by usable n w (Some k) = if usable k then within n w k else wrong Shape n
  stored_by usable n w None = wrong Unknown n

  abbrev column_by : (ℕ → Bool) → ℕ → Tree → Reading ℕ
  column_by usable n t = spelled_reading (λ w. stored_by usable n w (column_place known.columns w)) n t

  abbrev parts_by : (ℕ → Bool) → ℕ → ℕ → Trees → Reading ((ℕ × Term) × Term)
  parts_by usable n m (t ▸ u ▸ v ▸ ts) =
      three_of triple m t u v ts (column_by usable m t) (term_reading names [] (m + item_count t) u) (term_reading names [] (m + item_count t + item_count u) v)
  parts_by usable n m _ = wrong Shape n

  abbrev pub update_by : (ℕ → Bool) → ℕ → ℕ → Trees → Reading Update
  update_by usable n m ts = mapped the_update (parts_by usable n m ts)

  stored_stood : (usable : ℕ → Bool) (n : ℕ) (w : List ℕ) (o : Option ℕ) → column_place known.columns w ≡ o → IfFine (stored_by usable n w o) (λ k. atom (by.column k) ≡ atom w)
  stored_stood usable n w None e = tt
  stored_stood usable n w (Some k) e =
      cond_fine (λ k. atom (by.column k) ≡ atom w) (usable k) (within n w k) (wrong Shape n)
      (cond_fine (λ k. atom (by.column k) ≡ atom w) (is_long w) (wrong Bound n) (fine k) tt (ap atom (columns w k e))) tt

  column_stood : (usable : ℕ → Bool) (n : ℕ) (t : Tree) → IfFine (column_by usable n t) (λ k. atom (by.column k) ≡ t)
  column_stood usable n (list ts) = tt
  column_stood usable n (atom w) =
      cond_fine (λ k. atom (by.column k) ≡ atom w) (is_name w) (stored_by usable n w (column_place known.columns w)) (wrong Shape n) (stored_stood usable n w (column_place known.columns w) refl) tt

  abbrev parts_of : (ℕ × Term) × Term → Trees
  parts_of p = update_parts by (the_update p)

  parts_stood : (usable : ℕ → Bool) (n m : ℕ) (ts : Trees) → IfFine (parts_by usable n m ts) (λ p. parts_of p ≡ ts)
  parts_stood usable n m none = tt
  parts_stood usable n m (t ▸ none) = tt
  parts_stood usable n m (t ▸ u ▸ none) = tt
  parts_stood usable n m (t ▸ u ▸ v ▸ ts) =
      three_at (λ k. atom (by.column k) ≡ t) (λ x. term_tree by 0 x ≡ u) (λ x. term_tree by 0 x ≡ v) (λ ts p. parts_of p ≡ t ▸ u ▸ v ▸ ts) triple m t u v ts
      (column_by usable m t) (term_reading names [] (m + item_count t) u) (term_reading names [] (m + item_count t + item_count u) v)
      (column_stood usable m t) (term_stood names by spelled (m + item_count t) u) (term_stood names by spelled (m + item_count t + item_count u) v)
      (λ x y z a b c. both_trees _ _ _ _ a (both_trees _ _ _ _ b (both_trees _ _ _ _ c refl)))

  pub update_stood : (usable : ℕ → Bool) (n m : ℕ) (ts : Trees) → IfFine (update_by usable n m ts) (λ u. update_parts by u ≡ ts)
  update_stood usable n m ts = mapped_fine (λ p. parts_of p ≡ ts) (λ u. update_parts by u ≡ ts) the_update (parts_by usable n m ts) (parts_stood usable n m ts) (λ p e. e)

  -- in any column
  pub listed_update_stood : (n : ℕ) (t : Tree) → IfFine (listed_update_reading known names n t) (λ u. update_tree by u ≡ t)
  listed_update_stood n t = in_list (update_parts by) (update_by (λ k. true)) (update_stood (λ k. true)) n t

-- ---- riders

module _ (known : Known) (names : Names) (by : Spelled) (object : Object) (actions : List Action) (all : AreKnown known names by object actions) where
  abbrev IsDeed : List ℕ → Trees → Deed → Type 0
  IsDeed w ts d = deed_tree object by d ≡ list (atom w ▸ ts)

  arguments_stood : (due : Option ℕ) (n m : ℕ) (ts : Trees) → IfFine (arguments_reading names due n m ts) (IsRow (term_tree by 0) ts)
  arguments_stood None n m ts = each_row (term_tree by 0) (term_reading names []) (term_stood names by all.spelled) m ts
  arguments_stood (Some count) n m ts = counted_row (term_tree by 0) (term_reading names []) (term_stood names by all.spelled) n count m ts

  -- ---- how a branch is chosen

  in_order_stood : (ways : Option Ways) (n : ℕ) → IfFine (in_order_reading ways n) (λ c. c ≡ InOrder)
  in_order_stood ways n = cond_fine (λ c. c ≡ InOrder) (may_choose ways) (wrong Shape n) (fine InOrder) tt refl

  choice_use_stood : (ways : Option Ways) (n : ℕ) (t : Tree) → IfFine (choice_use ways n t) (λ w. atom w ≡ t)
  choice_use_stood None n (atom w) =
      cond_fine (λ v. atom v ≡ atom w) (is_name w) (within n w w) (wrong Shape n) (cond_fine (λ v. atom v ≡ atom w) (is_long w) (wrong Bound n) (fine w) tt refl) tt
  choice_use_stood (Some ways) n (atom w) =
      mapped_fine (λ k. Unit {0}) (λ v. atom v ≡ atom w) (λ k. w) (use_reading ways.choices n (atom w)) (if_fine_unit (use_reading ways.choices n (atom w))) (λ k u. refl)
  choice_use_stood None n (list ts) = tt
  choice_use_stood (Some ways) n (list ts) = tt

  -- by a name, which is printed as it stood, with its terms
  abbrev IsByName : Trees → Chosen Term → Type 0
  IsByName ts InOrder = ⊥
  IsByName ts (ByName w xs) = atom w ▸ term_trees by xs ≡ ts

  choice_stood : (ways : Option Ways) (n m : ℕ) (ts : Trees) → IfFine (choice_reading names ways n m ts) (IsByName ts)
  choice_stood ways n m none = tt
  choice_stood ways n m (t ▸ ts) =
      both_fine (λ w. atom w ≡ t) (IsRow (term_tree by 0) ts) (IsByName (t ▸ ts)) ByName (choice_use ways m t) _
      (choice_use_stood ways m t) (arguments_stood (terms_due ways t) n (m + item_count t) ts) (λ w xs a b. both_trees _ _ _ _ a b)

  by_stood : (ways : Option Ways) (n m : ℕ) (ts : Trees) → IfFine (by_reading names ways n m ts) (IsByName ts)
  by_stood ways n m ts = cond_fine (IsByName ts) (may_go_in_order ways) (wrong Shape n) (choice_reading names ways n m ts) tt (choice_stood ways n m ts)

  -- ---- marks of the own call

  own_stood : (own : Option Ways) (n m : ℕ) (ts : Trees) → IfFine (ended m ts (mapped (Marks Own) (in_order_reading own n))) (IsDeed (codes "lin") ts)
  own_stood own n m ts =
      ended_at (λ ts. IsDeed (codes "lin") ts) m ts _
      (mapped_fine (λ c. c ≡ InOrder) (IsDeed (codes "lin") none) (Marks Own) (in_order_reading own n) (in_order_stood own n) (λ c e. ap (λ c. deed_tree object by (Marks Own c)) e))

  note_stood : (own : Option Ways) (n m : ℕ) (ts : Trees) → IfFine (ended m ts (mapped (Marks Note) (in_order_reading own n))) (IsDeed (codes "note") ts)
  note_stood own n m ts =
      ended_at (λ ts. IsDeed (codes "note") ts) m ts _
      (mapped_fine (λ c. c ≡ InOrder) (IsDeed (codes "note") none) (Marks Note) (in_order_reading own n) (in_order_stood own n) (λ c e. ap (λ c. deed_tree object by (Marks Note c)) e))

  own_chosen : (ts : Trees) (c : Chosen Term) → IsByName ts c → IsDeed (codes "lin-by") ts (Marks Own c)
  own_chosen ts InOrder e = absurd e
  own_chosen ts (ByName w xs) e = ap (λ ts. list (atom (codes "lin-by") ▸ ts)) e

  note_chosen : (ts : Trees) (c : Chosen Term) → IsByName ts c → IsDeed (codes "note-by") ts (Marks Note c)
  note_chosen ts InOrder e = absurd e
  note_chosen ts (ByName w xs) e = ap (λ ts. list (atom (codes "note-by") ▸ ts)) e

  own_by_stood : (own : Option Ways) (n m : ℕ) (ts : Trees) → IfFine (mapped (Marks Own) (by_reading names own n m ts)) (IsDeed (codes "lin-by") ts)
  own_by_stood own n m ts = mapped_fine (IsByName ts) (IsDeed (codes "lin-by") ts) (Marks Own) (by_reading names own n m ts) (by_stood own n m ts) (own_chosen ts)

  note_by_stood : (own : Option Ways) (n m : ℕ) (ts : Trees) → IfFine (mapped (Marks Note) (by_reading names own n m ts)) (IsDeed (codes "note-by") ts)
  note_by_stood own n m ts = mapped_fine (IsByName ts) (IsDeed (codes "note-by") ts) (Marks Note) (by_reading names own n m ts) (by_stood own n m ts) (note_chosen ts)

  -- ---- marks of the call of another client

  abbrev IsOther : Tree → Tree → Term × ℕ → Type 0
  IsOther t u p = (term_tree by 0 p.0 ≡ t) × (atom (operation_name object p.1) ≡ u)

  other_stood : (m : ℕ) (t : Tree) (l : ℕ) (u : Tree) → IfFine (other_reading known names m t l u) (IsOther t u)
  other_stood m t l u =
      both_fine (λ x. term_tree by 0 x ≡ t) (λ k. atom (operation_name object k) ≡ u) (IsOther t u) pair (term_reading names [] m t) (use_reading known.operations l u)
      (term_stood names by all.spelled m t) (use_stood known.operations (operation_name object) all.operations l u) (λ x k a b. (a, b))

  lin_other_stood : (n m : ℕ) (ts : Trees) → IfFine (lin_other_reading known names n m ts) (IsDeed (codes "lin-other") ts)
  lin_other_stood n m none = tt
  lin_other_stood n m (t ▸ none) = tt
  lin_other_stood n m (t ▸ u ▸ ts) =
      two_at (IsOther t u) (λ c. c ≡ InOrder) (λ ts. IsDeed (codes "lin-other") (t ▸ u ▸ ts)) mark_of_other m t u ts
      (other_reading known names m t (m + item_count t) u) (in_order_reading (ways_named known u) n) (other_stood m t (m + item_count t) u) (in_order_stood (ways_named known u) n)
      (λ p c a e. ap (λ c. deed_tree object by (Marks (Other p.0 p.1) c)) e ∙ ap (λ ts. list (atom (codes "lin-other") ▸ ts)) (both_trees _ _ _ _ a.0 (both_trees _ _ _ _ a.1 refl)))

  other_chosen : (t u : Tree) (ts : Trees) (p : Term × ℕ) (c : Chosen Term) → IsOther t u p → IsByName ts c → IsDeed (codes "lin-other-by") (t ▸ u ▸ ts) (mark_of_other p c)
  other_chosen t u ts p InOrder a e = absurd e
  other_chosen t u ts p (ByName w xs) a e = ap (λ ts. list (atom (codes "lin-other-by") ▸ ts)) (both_trees _ _ _ _ a.0 (both_trees _ _ _ _ a.1 e))

  lin_other_by_stood : (n m : ℕ) (ts : Trees) → IfFine (lin_other_by_reading known names n m ts) (IsDeed (codes "lin-other-by") ts)
  lin_other_by_stood n m none = tt
  lin_other_by_stood n m (t ▸ none) = tt
  lin_other_by_stood n m (t ▸ u ▸ ts) =
      both_fine (IsOther t u) (IsByName ts) (IsDeed (codes "lin-other-by") (t ▸ u ▸ ts)) mark_of_other (other_reading known names m t (m + item_count t) u) _
      (other_stood m t (m + item_count t) u) (by_stood (ways_named known u) n (m + item_count t + item_count u) ts) (other_chosen t u ts)

  -- ---- riders

  -- a column may be stored in that is auxiliary
  abbrev is_auxiliary : ℕ → Bool
  is_auxiliary k = nat_le known.auxiliaries k && nat_lt k (length known.columns)

  abbrev set_by : ℕ → ℕ → Trees → Reading Deed
  set_by n m ts = mapped Assign (update_by known names by all.spelled all.columns is_auxiliary n m ts)

  set_stood : (n m : ℕ) (ts : Trees) → IfFine (set_by n m ts) (IsDeed (codes "set") ts)
  set_stood n m ts =
      mapped_fine (λ u. update_parts by u ≡ ts) (IsDeed (codes "set") ts) Assign (update_by known names by all.spelled all.columns is_auxiliary n m ts)
      (update_stood known names by all.spelled all.columns is_auxiliary n m ts) (λ u e. ap (λ ts. list (atom (codes "set") ▸ ts)) e)

  as_word : (c w : List ℕ) (ts : Trees) (r : Reading Deed) → is w c ≡ true → IfFine r (IsDeed c ts) → IfFine r (IsDeed w ts)
  as_word c w ts r e h = subst (λ w. IfFine r (IsDeed w ts)) (sym (is-true w c e)) h

  deed_with_stood : (own : Option Ways) (n m : ℕ) (w : List ℕ) (ts : Trees) → IfFine (deed_with known names own n m ts (head_of w)) (IsDeed w ts)
  deed_with_stood own n m w ts =
      one_word (λ o. deed_with known names own n m ts o) (IsDeed w ts) (is w (codes "set")) _ _ (λ e. as_word (codes "set") w ts (set_by n m ts) e (set_stood n m ts))
      (one_word (λ o. deed_with known names own n m ts o) (IsDeed w ts) (is w (codes "lin")) _ _ (λ e. as_word (codes "lin") w ts _ e (own_stood own n m ts))
      (one_word (λ o. deed_with known names own n m ts o) (IsDeed w ts) (is w (codes "lin-other")) _ _ (λ e. as_word (codes "lin-other") w ts _ e (lin_other_stood n m ts))
      (one_word (λ o. deed_with known names own n m ts o) (IsDeed w ts) (is w (codes "note")) _ _ (λ e. as_word (codes "note") w ts _ e (note_stood own n m ts))
      (one_word (λ o. deed_with known names own n m ts o) (IsDeed w ts) (is w (codes "lin-by")) _ _ (λ e. as_word (codes "lin-by") w ts _ e (own_by_stood own n m ts))
      (one_word (λ o. deed_with known names own n m ts o) (IsDeed w ts) (is w (codes "lin-other-by")) _ _ (λ e. as_word (codes "lin-other-by") w ts _ e (lin_other_by_stood n m ts))
      (one_word (λ o. deed_with known names own n m ts o) (IsDeed w ts) (is w (codes "note-by")) _ _ (λ e. as_word (codes "note-by") w ts _ e (note_by_stood own n m ts)) tt))))))

  deed_stood : (own : Option Ways) (n : ℕ) (t : Tree) → IfFine (deed_reading known names own n t) (λ d. deed_tree object by d ≡ t)
  deed_stood own n (atom w) = tt
  deed_stood own n (list none) = tt
  deed_stood own n (list (list us ▸ ts)) = tt
  deed_stood own n (list (atom w ▸ ts)) = deed_with_stood own n (n + 2) w ts

  abbrev IsRider : List ℕ → Trees → Rider → Type 0
  IsRider w ts r = rider_tree object by r ≡ list (atom w ▸ ts)

  when_stood : (own : Option Ways) (n m : ℕ) (ts : Trees) → IfFine (when_reading known names own n m ts) (λ p. IsRider (codes "when") ts (where_holds p))
  when_stood own n m none = tt
  when_stood own n m (t ▸ none) = tt
  when_stood own n m (t ▸ u ▸ ts) =
      two_at (λ f. formula_tree by 0 f ≡ t) (λ d. deed_tree object by d ≡ u) (λ ts p. IsRider (codes "when") (t ▸ u ▸ ts) (where_holds p)) pair m t u ts _ _
      (formula_stood (quiet names) by (quiet_spelled names by all.spelled) refl m t) (deed_stood own (m + item_count t) u)
      (λ x y a b. ap (λ ts. list (atom (codes "when") ▸ ts)) (both_trees _ _ _ _ a (both_trees _ _ _ _ b refl)))

  behind_stood : (own : Option Ways) (n : ℕ) (w : List ℕ) (ts : Trees) (b : Bool) → is w (codes "when") ≡ b
      → IfFine (cond b (mapped where_holds (when_reading known names own n (n + 2) ts)) (mapped always (deed_with known names own n (n + 2) ts (head_of w)))) (IsRider w ts)
  behind_stood own n w ts true e =
      subst (λ w. IfFine (mapped where_holds (when_reading known names own n (n + 2) ts)) (IsRider w ts)) (sym (is-true w (codes "when") e))
      (mapped_fine (λ p. IsRider (codes "when") ts (where_holds p)) (IsRider (codes "when") ts) where_holds (when_reading known names own n (n + 2) ts) (when_stood own n (n + 2) ts) (λ p e. e))
  behind_stood own n w ts false e =
      mapped_fine (IsDeed w ts) (IsRider w ts) always (deed_with known names own n (n + 2) ts (head_of w)) (deed_with_stood own n (n + 2) w ts) (λ d e. e)

  rider_stood : (own : Option Ways) (n : ℕ) (t : Tree) → IfFine (rider_reading known names own n t) (λ r. rider_tree object by r ≡ t)
  rider_stood own n (atom w) = tt
  rider_stood own n (list none) = tt
  rider_stood own n (list (list us ▸ ts)) = tt
  rider_stood own n (list (atom w ▸ ts)) = behind_stood own n w ts (is w (codes "when")) refl

  ith_stood : (own : Option Ways) (i n : ℕ) (t : Tree) → IfFine (ith_rider_reading known names own i n t) (λ r. rider_tree object by r ≡ t)
  ith_stood own i n t = limited_fine (λ r. rider_tree object by r ≡ t) (nat_le rider_limit i) n (rider_reading known names own n t) (rider_stood own n t)

  riders_stood : (own : Option Ways) (m : ℕ) (ts : Trees) → IfFine (riders_reading known names own m ts) (IsRow (rider_tree object by) ts)
  riders_stood own m ts = placed_row (rider_tree object by) (ith_rider_reading known names own) (ith_stood own) 0 m ts

  -- ---- what is done at an edge

  action_stood : (n : ℕ) (t : Tree) → IfFine (action_use known n t) (λ k. atom (action_name actions k) ≡ t)
  action_stood n (list ts) = tt
  action_stood n (atom w) =
      cond_fine (λ k. atom (action_name actions k) ≡ atom w) (is_action_name w) (wrong Shape n) (use_reading known.actions n (atom w)) tt (use_stood known.actions (action_name actions) all.acting n (atom w))

  abbrev call_trees : ℕ × List Term → Trees
  call_trees p = atom (action_name actions p.0) ▸ term_trees by p.1

  call_parts_stood : (n m : ℕ) (ts : Trees) → IfFine (call_parts_reading known names n m ts) (λ p. call_trees p ≡ ts)
  call_parts_stood n m none = tt
  call_parts_stood n m (t ▸ ts) =
      both_fine (λ k. atom (action_name actions k) ≡ t) (IsRow (term_tree by 0) ts) (λ p. call_trees p ≡ t ▸ ts) pair (action_use known m t) _
      (action_stood m t) (arguments_stood (arguments_due known t) n (m + item_count t) ts) (λ k xs a b. both_trees _ _ _ _ a b)

  call_stood : (n : ℕ) (t : Tree) → IfFine (call_reading known names n t) (λ p. list (call_trees p) ≡ t)
  call_stood n t = in_list call_trees (call_parts_reading known names) call_parts_stood n t

  abbrev IsStep : Tree → Tree → EdgeKind × (ℕ × List Term) → Type 0
  IsStep t u p = (atom (edge_word p.0) ≡ t) × (list (call_trees p.1) ≡ u)

  step_stood : (m : ℕ) (t : Tree) (n : ℕ) (u : Tree) → IfFine (step_reading known names m t n u) (IsStep t u)
  step_stood m t n u = both_fine (λ k. atom (edge_word k) ≡ t) (λ p. list (call_trees p) ≡ u) (IsStep t u) pair (edge_reading m t) (call_reading known names n u) (edge_stood m t) (call_stood n u) (λ k p a b. (a, b))

  -- EDGE (ACTION T*) RIDER*
  abbrev on_parts : On → Trees
  on_parts x = atom (edge_word x.edge) ▸ list (atom (action_name actions x.action) ▸ term_trees by x.arguments) ▸ row (map (rider_tree object by) x.riders)

  on_parts_stood : (own : Option Ways) (edges : Edges) (n m : ℕ) (ts : Trees) → IfFine (on_parts_reading known names own edges n m ts) (λ x. on_parts x ≡ ts)
  on_parts_stood own edges n m none = tt
  on_parts_stood own edges n m (t ▸ none) = tt
  on_parts_stood own edges n m (t ▸ u ▸ ts) =
      cond_fine (λ x. on_parts x ≡ t ▸ u ▸ ts) (is_refused edges (edge_of t)) (wrong Shape n) _ tt
      (limited_fine (λ x. on_parts x ≡ t ▸ u ▸ ts) (nat_lt path_limit (path_count known own ts)) n _
      (both_fine (IsStep t u) (IsRow (rider_tree object by) ts) (λ x. on_parts x ≡ t ▸ u ▸ ts) the_on (step_reading known names m t (m + item_count t) u)
      (riders_reading known names own (m + item_count t + item_count u) ts) (step_stood m t (m + item_count t) u) (riders_stood own (m + item_count t + item_count u) ts)
      (λ p rs a b. both_trees _ _ _ _ a.0 (both_trees _ _ _ _ a.1 b))))

  on_stood : (own : Option Ways) (edges : Edges) (n : ℕ) (t : Tree) → IfFine (on_reading known names own edges n t) (λ x. on_tree object actions by x ≡ t)
  on_stood own edges n t = behind_word on_parts (codes "on") (on_parts_reading known names own edges) (on_parts_stood own edges) n t

  pub ons_stood : (own : Option Ways) (edges : Edges) (m : ℕ) (ts : Trees) → IfFine (ons_reading known names own edges m ts) (IsRow (on_tree object actions by) ts)
  ons_stood own edges m none = refl
  ons_stood own edges m (t ▸ ts) =
      both_fine (λ x. on_tree object actions by x ≡ t) (IsRow (on_tree object actions by) ts) (IsRow (on_tree object actions by) (t ▸ ts)) cons (on_reading known names own edges m t)
      (ons_reading known names own (without edges (edge_in t)) (m + item_count t) ts) (on_stood own edges m t) (ons_stood own (without edges (edge_in t)) (m + item_count t) ts)
      (λ x xs a b. both_trees (on_tree object actions by x) t (row (map (on_tree object actions by) xs)) ts a b)
