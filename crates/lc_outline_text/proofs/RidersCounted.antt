-- What is done at an edge is passed in the ways that its text says.
use Rattle.std.proofs.Common.{◌≡◌, ℕ, ◌+◌, Bool, true, false, cond, List, [], ◌∷◌, ◌++◌, map, Option, Some, None, refl, sym, ap, ap₂, ◌∙◌, subst, ◌<◌, arith}
use Rattle.std.specs.Prelude.{codes, option_map, slice_get, nat_le, nat_lt, length, ◌&&◌}
use Rattle.lc_base.specs.NameText.{is_name}
use Rattle.lc_base.specs.Limits.{rider_limit}
use Rattle.lc_sexp.specs.Trees.{Tree, Trees, atom, list, none, ◌▸◌, item_count}
use Rattle.lc_reading.proofs.Holding.{Holds, holds_unit, and_holds, mapped_holds, both_holds, ended_holds, limited_holds, if_holds, holds_weaker}
use Rattle.lc_reading.proofs.Words.{is-true}
use Rattle.lc_reading.specs.Listed.{place_of}
use Rattle.lc_reading.specs.Naming.{known, use_reading, within}
use Rattle.lc_reading.specs.Readings.{Reading, fine, wrong, mapped, ended}
use Rattle.lc_reading.specs.Reserved.{is_action_name}
use Rattle.lc_reading.specs.Words.{is, is_long}
use Rattle.lc_reading.specs.declared.pass.Pass.TheVariants.{Shape, Bound}
use Rattle.lc_term.specs.Syntax.{Term, Formula}
use Rattle.lc_term.specs.Updates.{Update}
use Rattle.lc_text.specs.Formulas.{formula_reading}
use Rattle.lc_text.specs.Names.{Names}
use Rattle.lc_text.specs.Terms.{pair, term_reading}
use Rattle.lc_seq.specs.Branches.{op_branches}
use Rattle.lc_seq.specs.Sequential.{Chosen, ByName}
use Rattle.lc_seq.specs.Specification.{chosen}
use Rattle.lc_action.specs.Action.{Action}
use Rattle.lc_object.specs.declared.instr.EdgeKind.{EdgeKind}
use Rattle.lc_object.specs.declared.instr.EdgeKind.TheVariants.{Next, Then, Else}
use Rattle.lc_object_text.proofs.Holding.{form_holds}
use Rattle.lc_object_text.specs.ObjectNames.{text_in, first_text, items_within, within_first, later}
use Rattle.lc_object_text.specs.Rows.{cons, placed_reading}
use Rattle.lc_object_text.specs.Sections.{before_others, forms_in}
use Rattle.lc_rider.specs.Paths.{marked_op}
use Rattle.lc_rider.specs.Rider.{Marking, Deed, Assign, Marks, Rider, Own, Other, Note}
use Rattle.lc_outline.specs.Development.{Development, On, first_system, same_kind, on_for, riders_in}
use Rattle.lc_rider_text.proofs.ChoicesKnown.{is_choosing, IsInOrder, IsByName, in_order_known, by_known}
use Rattle.lc_rider_text.proofs.RidersKnown.{IsOther, other_known}
use Rattle.lc_rider_text.specs.Choices.{may_go_in_order, in_order_reading, choice_use, choice_reading, by_reading}
use Rattle.lc_rider_text.specs.Edges.{edge_of, edge_in, found_edge, is_refused, without}
use Rattle.lc_rider_text.specs.Heads.{head_of, kind_of}
use Rattle.lc_rider_text.specs.Known.{Known, Ways}
use Rattle.lc_rider_text.specs.Ons.{action_use, call_reading, the_on, on_parts_reading, on_reading, ons_reading}
use Rattle.lc_rider_text.specs.Riders.{other_reading, ways_named, mark_of_other, lin_other_reading, lin_other_by_reading, deed_with, deed_reading, when_reading, always, where_holds, rider_reading, ith_rider_reading, riders_reading}
use Rattle.lc_rider_text.specs.Scopes.{quiet}
use Rattle.lc_rider_text.specs.declared.edges.Edges.{Edges}
use Rattle.lc_outline.specs.Sizes as C
use Rattle.lc_outline.specs.Sizes.{columns_of}
use Rattle.lc_outline_text.specs.Declarations.{Declarations, known_of, own_ways, branches_in, form_at}
use Rattle.lc_outline.specs.EdgeWords.{edge_word}
use Rattle.lc_outline_text.specs.Sizes as Z
use Rattle.lc_outline_text.specs.Sizes.{column_named, columns_settled, columns_noted, mark_ways, choice_named, choice_ways, on_of}
use Rattle.lc_outline_text.proofs.RowsCounted.{Alike, IsForm}
use Rattle.lc_outline_text.proofs.UpdatesCounted.{IsColumn, stored_by, update_by_test, update_said}
use Rattle.lc_outline_text.proofs.Needed.{edge_text, edge_found}

-- the branches and the actions of a development store in the columns that the declarations name
pub record Agrees (d : Declarations) (D : Development) : Type 0 where
  pub own : (o : ℕ) → o < length d.declared.operations → own_ways d o ≡ slice_get (known_of d).ways o
  pub in_order : (k : Marking) (o : ℕ) → o < length d.declared.operations → (by : Chosen Term) → IsInOrder (slice_get (known_of d).ways o) by →
      map (C.mark_way (first_system D) k) (chosen by (op_branches D.specification.operations o)) ≡ mark_ways (stored_by d.declared.columns k) (C.asked_of k) (branches_in (form_at d.operations (Some o)))
  pub by_name : (k : Marking) (o : ℕ) → o < length d.declared.operations → (name : List ℕ) (terms : List Term) → is_choosing (slice_get (known_of d).ways o) (ByName name terms) ≡ true →
      map (C.mark_way (first_system D) k) (chosen (ByName name terms) (op_branches D.specification.operations o))
      ≡ choice_ways (stored_by d.declared.columns k) (C.asked_of k) (choice_named (form_at d.operations (Some o)) name)
  pub acted : (w : List ℕ) (a : ℕ) → place_of (map first_text d.actions) w ≡ Some a → option_map (λ (x : Action). columns_of x.updates) (slice_get D.actions a) ≡ Some (Z.columns_acted d w)

-- ---- names

use_said : (names : List (List ℕ)) (n : ℕ) (t : Tree) → Holds (λ k. place_of names (text_in t) ≡ Some k) (use_reading names n t)
use_said names n (list ts) = tt
use_said names n (atom w) = if_holds (λ k. place_of names w ≡ Some k) (is_name w) (known n w (place_of names w)) (wrong Shape n) (at_place (place_of names w) refl) tt where
  at_place : (o : Option ℕ) → place_of names w ≡ o → Holds (λ k. place_of names w ≡ Some k) (known n w o)
  at_place None e = tt
  at_place (Some k) e = if_holds (λ k. place_of names w ≡ Some k) (is_long w) (wrong Bound n) (fine k) tt e

-- ---- how the branch of a mark is chosen

-- by the name that is the first of these
abbrev IsNamedBy : Trees → Chosen Term → Type 0
IsNamedBy ts by = (terms : List Term) × (by ≡ ByName (first_text ts) terms)

name_said : (ways : Option Ways) (n : ℕ) (t : Tree) → Holds (λ w. w ≡ text_in t) (choice_use ways n t)
name_said None n (atom w) = if_holds (λ v. v ≡ w) (is_name w) (within n w w) (wrong Shape n) (if_holds (λ v. v ≡ w) (is_long w) (wrong Bound n) (fine w) tt refl) tt
name_said (Some ways) n (atom w) = mapped_holds (λ k. Unit {0}) (λ v. v ≡ w) (λ k. w) (use_reading ways.choices n (atom w)) (holds_unit (use_reading ways.choices n (atom w))) (λ k u. refl)
name_said None n (list ts) = tt
name_said (Some ways) n (list ts) = tt

choice_said : (names : Names) (ways : Option Ways) (n m : ℕ) (ts : Trees) → Holds (IsNamedBy ts) (choice_reading names ways n m ts)
choice_said names ways n m none = tt
choice_said names ways n m (t ▸ ts) =
    both_holds (λ w. w ≡ text_in t) (λ xs. Unit {0}) (IsNamedBy (t ▸ ts)) ByName (choice_use ways m t) _ (name_said ways m t) (holds_unit _) (λ w xs h u. (xs, ap (λ v. ByName v xs) h))

-- and an operation that goes so may be marked so
abbrev IsSaidBy : Option Ways → Trees → Chosen Term → Type 0
IsSaidBy ways ts by = IsNamedBy ts by × (is_choosing ways by ≡ true)

by_said : (names : Names) (ways : Option Ways) (n m : ℕ) (ts : Trees) → Holds (IsSaidBy ways ts) (by_reading names ways n m ts)
by_said names ways n m ts =
    let r = by_reading names ways n m ts in
    holds_weaker (λ by. IsNamedBy ts by × IsByName ways by) (IsSaidBy ways ts) r (λ by h. (h.0, h.1.1))
    (and_holds (IsNamedBy ts) (IsByName ways) r (if_holds (IsNamedBy ts) (may_go_in_order ways) (wrong Shape n) (choice_reading names ways n m ts) tt (choice_said names ways n m ts)) (by_known names ways n m ts))

-- the other operation is at its place, and so is how it goes
abbrev IsOtherAt : Known → Tree → Term × ℕ → Type 0
IsOtherAt known u p = (place_of known.operations (text_in u) ≡ Some p.1) × IsOther known u p

other_said : (known : Known) (names : Names) (m : ℕ) (t : Tree) (l : ℕ) (u : Tree) → Holds (IsOtherAt known u) (other_reading known names m t l u)
other_said known names m t l u =
    let r = other_reading known names m t l u in
    and_holds (λ (p : Term × ℕ). place_of known.operations (text_in u) ≡ Some p.1) (IsOther known u) r
    (both_holds (λ x. Unit {0}) (λ k. place_of known.operations (text_in u) ≡ Some k) (λ (p : Term × ℕ). place_of known.operations (text_in u) ≡ Some p.1) pair (term_reading names [] m t) (use_reading known.operations l u)
    (holds_unit (term_reading names [] m t)) (use_said known.operations l u) (λ x k h g. g)) (other_known known names m t l u)

-- ---- deeds

-- what is done has the ways of this text
abbrev HasWays : Declarations → ℕ → List C.Way → Deed → Type 0
HasWays d o ways x = (D : Development) → Agrees d D → o < length d.declared.operations → C.deed_ways D o x ≡ ways

abbrev HasRiderWays : Declarations → ℕ → List C.Way → Rider → Type 0
HasRiderWays d o ways r = (D : Development) → Agrees d D → o < length d.declared.operations → C.rider_ways D o r ≡ ways

module _ (d : Declarations) (o : ℕ) where
  -- the text of the operation itself, and of the one that is named
  abbrev own : Trees
  own = form_at d.operations (Some o)

  abbrev other : Trees → Trees
  other ts = form_at d.operations (place_of d.declared.operations (first_text (later ts)))

  abbrev settled : Trees → List ℕ
  settled = columns_settled d.declared.columns

  abbrev noted : Trees → List ℕ
  noted = columns_noted d.declared.columns

  abbrev set_ways : Trees → List C.Way
  set_ways ts = record { asked = 0; columns = column_named d.declared.columns (first_text ts) } ∷ []

  abbrev other_ways : Trees → List C.Way
  other_ways ts = mark_ways settled 3 (branches_in (other ts))

  abbrev other_by_ways : Trees → List C.Way
  other_by_ways ts = choice_ways settled 3 (choice_named (other ts) (first_text (later (later ts))))

  -- a column may be stored in that is auxiliary
  abbrev is_auxiliary : ℕ → Bool
  is_auxiliary k = nat_le d.declared.auxiliaries k && nat_lt k (length d.declared.columns)

  abbrev set_by_test : Names → ℕ → ℕ → Trees → Reading Deed
  set_by_test names n m ts = mapped Assign (update_by_test (known_of d) names is_auxiliary n m ts)

  set_said : (names : Names) (n m : ℕ) (ts : Trees) → Holds (HasWays d o (set_ways ts)) (set_by_test names n m ts)
  set_said names n m ts =
      mapped_holds (λ (u : Update). IsColumn d.declared.columns (first_text ts) u.column) (HasWays d o (set_ways ts)) Assign (update_by_test (known_of d) names is_auxiliary n m ts)
      (update_said (known_of d) names is_auxiliary n m ts) (λ u h D a few. ap one_way (sym h)) where
        one_way : List ℕ → List C.Way
        one_way cs = record { asked = 0; columns = cs } ∷ []

  -- the own call is marked, by its branches, or by a choice
  own_said : (k : Marking) → ((n : ℕ) → marked_op n k ≡ n) → (n m : ℕ) (ts : Trees)
      → Holds (HasWays d o (mark_ways (stored_by d.declared.columns k) (C.asked_of k) (branches_in own))) (ended m ts (mapped (Marks k) (in_order_reading (own_ways d o) n)))
  own_said k same n m ts =
      let ways = mark_ways (stored_by d.declared.columns k) (C.asked_of k) (branches_in own) in
      ended_holds (HasWays d o ways) m ts _ (mapped_holds (IsInOrder (own_ways d o)) (HasWays d o ways) (Marks k) _ (in_order_known (own_ways d o) n)
      (λ by h D a few. ap (λ p. map (C.mark_way (first_system D) k) (chosen by (op_branches D.specification.operations p))) (same o) ∙ a.in_order k o few by (subst (λ ways. IsInOrder ways by) (a.own o few) h)))

  own_by_said : (k : Marking) → ((n : ℕ) → marked_op n k ≡ n) → (names : Names) (n m : ℕ) (ts : Trees)
      → Holds (HasWays d o (choice_ways (stored_by d.declared.columns k) (C.asked_of k) (choice_named own (first_text ts)))) (mapped (Marks k) (by_reading names (own_ways d o) n m ts))
  own_by_said k same names n m ts =
      mapped_holds (IsSaidBy (own_ways d o) ts) (HasWays d o (choice_ways (stored_by d.declared.columns k) (C.asked_of k) (choice_named own (first_text ts)))) (Marks k) _ (by_said names (own_ways d o) n m ts)
      (λ by h D a few.
      let marked = λ (p : ℕ) (c : Chosen Term). map (C.mark_way (first_system D) k) (chosen c (op_branches D.specification.operations p)) in
      ap₂ marked (same o) h.0.1 ∙ a.by_name k o few (first_text ts) h.0.0
      (subst (λ ways. is_choosing ways (ByName (first_text ts) h.0.0) ≡ true) (a.own o few) (subst (λ c. is_choosing (own_ways d o) c ≡ true) h.0.1 h.1)))

  -- another client's call is marked
  others_said : (names : Names) (n m : ℕ) (ts : Trees) → Holds (HasWays d o (other_ways ts)) (lin_other_reading (known_of d) names n m ts)
  others_said names n m none = tt
  others_said names n m (t ▸ none) = tt
  others_said names n m (t ▸ u ▸ ts) =
      let ways = ways_named (known_of d) u in
      let P = HasWays d o (other_ways (t ▸ u ▸ ts)) in
      ended_holds P (m + item_count t + item_count u) ts _
      (both_holds (IsOtherAt (known_of d) u) (IsInOrder ways) P mark_of_other (other_reading (known_of d) names m t (m + item_count t) u) (in_order_reading ways n)
      (other_said (known_of d) names m t (m + item_count t) u) (in_order_known ways n)
      (λ p by h g D a few. a.in_order (Other p.0 p.1) p.1 h.1.0 by (subst (λ ways. IsInOrder ways by) h.1.1 g) ∙ ap (λ q. mark_ways settled 3 (branches_in (form_at d.operations q))) (sym h.0)))

  others_by_said : (names : Names) (n m : ℕ) (ts : Trees) → Holds (HasWays d o (other_by_ways ts)) (lin_other_by_reading (known_of d) names n m ts)
  others_by_said names n m none = tt
  others_by_said names n m (t ▸ none) = tt
  others_by_said names n m (t ▸ u ▸ ts) =
      let ways = ways_named (known_of d) u in
      let k = m + item_count t + item_count u in
      both_holds (IsOtherAt (known_of d) u) (IsSaidBy ways ts) (HasWays d o (other_by_ways (t ▸ u ▸ ts))) mark_of_other (other_reading (known_of d) names m t (m + item_count t) u) (by_reading names ways n k ts)
      (other_said (known_of d) names m t (m + item_count t) u) (by_said names ways n k ts)
      (λ p by h g D a few.
      let choosing : is_choosing (slice_get (known_of d).ways p.1) (ByName (first_text ts) g.0.0) ≡ true = subst (λ ways. is_choosing ways (ByName (first_text ts) g.0.0) ≡ true) h.1.1 (subst (λ c. is_choosing ways c ≡ true) g.0.1 g.1) in
      ap (λ c. map (C.mark_way (first_system D) (Other p.0 p.1)) (chosen c (op_branches D.specification.operations p.1))) g.0.1
      ∙ a.by_name (Other p.0 p.1) p.1 h.1.0 (first_text ts) g.0.0 choosing ∙ ap (λ q. choice_ways settled 3 (choice_named (form_at d.operations q) (first_text ts))) (sym h.0))

  begun_said : (names : Names) (n m : ℕ) (w : List ℕ) (ts : Trees) → Holds (HasWays d o (Z.ways_with d o w ts)) (deed_with (known_of d) names (own_ways d o) n m ts (head_of w))
  begun_said names n m w ts =
      by_tests (is w (codes "set")) (is w (codes "lin")) (is w (codes "lin-other")) (is w (codes "note")) (is w (codes "lin-by")) (is w (codes "lin-other-by")) (is w (codes "note-by")) where
        by_tests : (a b c e f g h : Bool)
            → Holds (HasWays d o (cond a (set_ways ts) (cond b (mark_ways settled 2 (branches_in own)) (cond c (other_ways ts) (cond e (mark_ways noted 3 (branches_in own))
            (cond f (choice_ways settled 2 (choice_named own (first_text ts))) (cond g (other_by_ways ts) (cond h (choice_ways noted 3 (choice_named own (first_text ts))) []))))))))
            (deed_with (known_of d) names (own_ways d o) n m ts (cond a (head_of (codes "set")) (cond b (head_of (codes "lin")) (cond c (head_of (codes "lin-other")) (cond e (head_of (codes "note"))
            (cond f (head_of (codes "lin-by")) (cond g (head_of (codes "lin-other-by")) (cond h (head_of (codes "note-by")) None))))))))
        by_tests true b c e f g h = set_said names n m ts
        by_tests false true c e f g h = own_said Own (λ n. refl) n m ts
        by_tests false false true e f g h = others_said names n m ts
        by_tests false false false true f g h = own_said Note (λ n. refl) n m ts
        by_tests false false false false true g h = own_by_said Own (λ n. refl) names n m ts
        by_tests false false false false false true h = others_by_said names n m ts
        by_tests false false false false false false true = own_by_said Note (λ n. refl) names n m ts
        by_tests false false false false false false false = tt

  deed_said : (names : Names) (n : ℕ) (t : Tree) → Holds (HasWays d o (Z.deed_ways d o (items_within t))) (deed_reading (known_of d) names (own_ways d o) n t)
  deed_said names n (atom w) = tt
  deed_said names n (list none) = tt
  deed_said names n (list (list us ▸ ts)) = tt
  deed_said names n (list (atom w ▸ ts)) = begun_said names n (n + 2) w ts

  -- ---- riders

  abbrev when_ways : Trees → List C.Way
  when_ways ts = Z.deed_ways d o (within_first (later ts)) ++ C.no_way ∷ []

  when_said : (names : Names) (n m : ℕ) (ts : Trees) → Holds (λ (p : Formula × Deed). HasWays d o (Z.deed_ways d o (within_first (later ts))) p.1) (when_reading (known_of d) names (own_ways d o) n m ts)
  when_said names n m none = tt
  when_said names n m (t ▸ none) = tt
  when_said names n m (t ▸ u ▸ ts) =
      let P : Formula × Deed → Type 0 = λ p. HasWays d o (Z.deed_ways d o (items_within u)) p.1 in
      ended_holds P (m + item_count t + item_count u) ts _
      (both_holds (λ f. Unit {0}) (HasWays d o (Z.deed_ways d o (items_within u))) P pair (formula_reading (quiet names) [] m t) (deed_reading (known_of d) names (own_ways d o) (m + item_count t) u)
      (holds_unit (formula_reading (quiet names) [] m t)) (deed_said names (m + item_count t) u) (λ f x h g. g))

  rider_said : (names : Names) (n : ℕ) (t : Tree) → Holds (HasRiderWays d o (Z.rider_ways d o (items_within t))) (rider_reading (known_of d) names (own_ways d o) n t)
  rider_said names n (atom w) = tt
  rider_said names n (list none) = tt
  rider_said names n (list (list us ▸ ts)) = tt
  rider_said names n (list (atom w ▸ ts)) = by_word (is w (codes "when")) where
    by_word : (b : Bool) → Holds (HasRiderWays d o (cond b (when_ways ts) (Z.ways_with d o w ts)))
        (cond b (mapped where_holds (when_reading (known_of d) names (own_ways d o) n (n + 2) ts)) (mapped always (deed_with (known_of d) names (own_ways d o) n (n + 2) ts (head_of w))))
    by_word true =
        mapped_holds (λ (p : Formula × Deed). HasWays d o (Z.deed_ways d o (within_first (later ts))) p.1) (HasRiderWays d o (when_ways ts)) where_holds (when_reading (known_of d) names (own_ways d o) n (n + 2) ts) (when_said names n (n + 2) ts)
        (λ p h D a few. ap (λ l. l ++ C.no_way ∷ []) (h D a few))
    by_word false =
        mapped_holds (HasWays d o (Z.ways_with d o w ts)) (HasRiderWays d o (Z.ways_with d o w ts)) always (deed_with (known_of d) names (own_ways d o) n (n + 2) ts (head_of w)) (begun_said names n (n + 2) w ts) (λ x h. h)

  abbrev HaveWays : Trees → List Rider → Type 0
  HaveWays ts rs = (D : Development) → Agrees d D → o < length d.declared.operations → map (C.rider_ways D o) rs ≡ Z.all_ways d o ts

  row_said : (names : Names) (i m : ℕ) (ts : Trees) → Holds (HaveWays ts) (placed_reading (ith_rider_reading (known_of d) names (own_ways d o)) i m ts)
  row_said names i m none = λ D a few. refl
  row_said names i m (t ▸ ts) =
      both_holds (HasRiderWays d o (Z.rider_ways d o (items_within t))) (HaveWays ts) (HaveWays (t ▸ ts)) cons (ith_rider_reading (known_of d) names (own_ways d o) i m t) (placed_reading (ith_rider_reading (known_of d) names (own_ways d o)) (i + 1) (m + item_count t) ts)
      (limited_holds (HasRiderWays d o (Z.rider_ways d o (items_within t))) (nat_le rider_limit i) m (rider_reading (known_of d) names (own_ways d o) m t) (rider_said names m t)) (row_said names (i + 1) (m + item_count t) ts)
      (λ r rs h g D a few. ap₂ (λ x xs. x ∷ xs) (h D a few) (g D a few))

-- ---- what is done at an edge

-- what comes after EDGE: (ACTION ..) RIDER ..
abbrev IsActed : Declarations → ℕ → Trees → On → Type 0
IsActed d o ts x = (place_of (map first_text d.actions) (first_text (within_first ts)) ≡ Some x.action) × HaveWays d o (later ts) x.riders

abbrev pub IsOnOf : Declarations → ℕ → Trees → On → Type 0
IsOnOf d o f x = (kind_of (first_text f) ≡ Some x.edge) × IsActed d o (later f) x

action_said : (d : Known) (n : ℕ) (t : Tree) → Holds (λ a. place_of d.actions (text_in t) ≡ Some a) (action_use d n t)
action_said d n (list ts) = tt
action_said d n (atom w) = if_holds (λ a. place_of d.actions w ≡ Some a) (is_action_name w) (wrong Shape n) (use_reading d.actions n (atom w)) tt (use_said d.actions n (atom w))

call_said : (d : Known) (names : Names) (n : ℕ) (t : Tree) → Holds (λ (p : ℕ × List Term). place_of d.actions (first_text (items_within t)) ≡ Some p.0) (call_reading d names n t)
call_said d names n (atom w) = tt
call_said d names n (list none) = tt
call_said d names n (list (t ▸ ts)) =
    both_holds (λ a. place_of d.actions (text_in t) ≡ Some a) (λ xs. Unit {0}) (λ (p : ℕ × List Term). place_of d.actions (text_in t) ≡ Some p.0) pair (action_use d (n + 1) t) _ (action_said d (n + 1) t) (holds_unit _) (λ a xs h u. h)

parts_said : (d : Declarations) (o : ℕ) (names : Names) (edges : Edges) (n m : ℕ) (ts : Trees) → Holds (IsOnOf d o ts) (on_parts_reading (known_of d) names (own_ways d o) edges n m ts)
parts_said d o names edges n m none = tt
parts_said d o names edges n m (t ▸ none) = tt
parts_said d o names edges n m (t ▸ u ▸ ts) =
    let P = IsOnOf d o (t ▸ u ▸ ts) in
    let Q : EdgeKind × (ℕ × List Term) → Type 0 = λ p. (kind_of (text_in t) ≡ Some p.0) × (place_of (map first_text d.actions) (first_text (items_within u)) ≡ Some p.1.0) in
    if_holds P (is_refused edges (edge_of t)) (wrong Shape n) _ tt
    (limited_holds P _ n _
    (both_holds Q (HaveWays d o ts) P the_on _ (riders_reading (known_of d) names (own_ways d o) (m + item_count t + item_count u) ts)
    (both_holds (λ k. edge_of t ≡ Some k) (λ (p : ℕ × List Term). place_of (map first_text d.actions) (first_text (items_within u)) ≡ Some p.0) Q pair (found_edge m (edge_of t)) (call_reading (known_of d) names (m + item_count t) u)
    (edge_found m (edge_of t)) (call_said (known_of d) names (m + item_count t) u) (λ k p h g. (sym (edge_text t) ∙ h, g)))
    (row_said d o names 0 (m + item_count t + item_count u) ts) (λ p rs h g. (h.0, (h.1, g)))))

on_said : (d : Declarations) (o : ℕ) (names : Names) (edges : Edges) (n : ℕ) (t : Tree) → Holds (IsForm (codes "on") (IsOnOf d o) t) (on_reading (known_of d) names (own_ways d o) edges n t)
on_said d o names edges n t = form_holds (IsOnOf d o) (codes "on") (on_parts_reading (known_of d) names (own_ways d o) edges) n t (parts_said d o names edges)

pub ons_said : (d : Declarations) (o : ℕ) (names : Names) (edges : Edges) (m : ℕ) (ts : Trees) → Holds (Alike (IsOnOf d o) (forms_in (codes "on") ts)) (ons_reading (known_of d) names (own_ways d o) edges m ts)
ons_said d o names edges m none = tt
ons_said d o names edges m (t ▸ ts) =
    both_holds (IsForm (codes "on") (IsOnOf d o) t) (Alike (IsOnOf d o) (forms_in (codes "on") ts)) (Alike (IsOnOf d o) (forms_in (codes "on") (t ▸ ts))) cons (on_reading (known_of d) names (own_ways d o) edges m t)
    (ons_reading (known_of d) names (own_ways d o) (without edges (edge_in t)) (m + item_count t) ts) (on_said d o names edges m t) (ons_said d o names (without edges (edge_in t)) (m + item_count t) ts)
    (λ x xs h g. subst (λ f. Alike (IsOnOf d o) (before_others f (forms_in (codes "on") ts)) (x ∷ xs)) (sym h.0) (h.1, g))

-- ---- the edge of a kind

kind_word : (w : List ℕ) (k : EdgeKind) → kind_of w ≡ Some k → w ≡ edge_word k
kind_word w k e = by_tests (is w (codes "next")) (is w (codes "then")) (is w (codes "else")) refl refl refl e where
  by_tests : (a b c : Bool) → is w (codes "next") ≡ a → is w (codes "then") ≡ b → is w (codes "else") ≡ c → cond a (Some Next) (cond b (Some Then) (cond c (Some Else) None)) ≡ Some k → w ≡ edge_word k
  by_tests true b c f g h e = is-true w (codes "next") f ∙ ap edge_word (let same : Next ≡ k = cc in same)
  by_tests false true c f g h e = is-true w (codes "then") g ∙ ap edge_word (let same : Then ≡ k = cc in same)
  by_tests false false true f g h e = is-true w (codes "else") h ∙ ap edge_word (let same : Else ≡ k = cc in same)
  by_tests false false false f g h e = absurd (cc)

words_differ : (k kind : EdgeKind) → is (edge_word k) (edge_word kind) ≡ same_kind k kind
words_differ Next Next = refl
words_differ Next Then = refl
words_differ Next Else = refl
words_differ Then Next = refl
words_differ Then Then = refl
words_differ Then Else = refl
words_differ Else Next = refl
words_differ Else Then = refl
words_differ Else Else = refl

-- the text of the `on` of an edge, and the `on`
abbrev IsFor : Declarations → ℕ → Option Trees → Option On → Type 0
IsFor d o None None = Unit {0}
IsFor d o None (Some x) = ⊥
IsFor d o (Some ts) None = ⊥
IsFor d o (Some ts) (Some x) = IsActed d o ts x

pub on_found : (d : Declarations) (o : ℕ) (kind : EdgeKind) (fs : List Trees) (xs : List On) → Alike (IsOnOf d o) fs xs → IsFor d o (on_of (edge_word kind) fs) (on_for xs kind)
on_found d o kind [] [] h = tt
on_found d o kind [] (x ∷ xs) h = absurd h
on_found d o kind (f ∷ fs) [] h = absurd h
on_found d o kind (f ∷ fs) (x ∷ xs) h =
    let found : Bool → Option Trees = λ b. cond b (Some (later f)) (on_of (edge_word kind) fs) in
    let same : is (first_text f) (edge_word kind) ≡ same_kind x.edge kind = ap (λ w. is w (edge_word kind)) (kind_word (first_text f) x.edge h.0.0) ∙ words_differ x.edge kind in
    subst (λ b. IsFor d o (found b) (on_for (x ∷ xs) kind)) (sym same) (by_test (same_kind x.edge kind) (on_found d o kind fs xs h.1)) where
      by_test : (b : Bool) → IsFor d o (on_of (edge_word kind) fs) (on_for xs kind) → IsFor d o (cond b (Some (later f)) (on_of (edge_word kind) fs)) (cond b (Some x) (on_for xs kind))
      by_test true g = h.0.1
      by_test false g = g

-- as many conditions as its text says
pub edge_counted : (d : Declarations) (o : ℕ) (D : Development) → Agrees d D → o < length d.declared.operations → (f : Option Trees) (x : Option On) → IsFor d o f x → (asked : ℕ) (cs : List ℕ)
    → C.way_count (C.columns_acted D x) (map (C.rider_ways D o) (riders_in x)) asked cs ≡ Z.edge_conditions d o f asked cs
edge_counted d o D a few None None h asked cs = omega arith
edge_counted d o D a few None (Some x) h asked cs = absurd h
edge_counted d o D a few (Some ts) None h asked cs = absurd h
edge_counted d o D a few (Some ts) (Some x) h asked cs =
    let w = first_text (within_first ts) in
    ap₂ (λ action riders. C.way_count action riders asked cs) (a.acted w x.action h.0) (h.1 D a few)
