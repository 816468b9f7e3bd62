-- The columns in which updates store, by their texts.
use Rattle.std.proofs.Common.{◌≡◌, ℕ, ◌+◌, Bool, true, List, [], ◌∷◌, ◌++◌, append_assoc, take, length, Option, Some, None, refl, sym, ap, ap₂, ◌∙◌}
use Rattle.std.proofs.lemmas.List.{map-append}
use Rattle.std.specs.Prelude.{pos, if◌then◌else◌}
use Rattle.lc_base.specs.NameText.{is_name}
use Rattle.lc_sexp.specs.TreeCode.{tree_count}
use Rattle.lc_sexp.specs.Trees.{Tree, Trees, atom, list, none, ◌▸◌, item_count}
use Rattle.lc_reading.proofs.Holding.{Holds, holds_unit, mapped_holds, both_holds, three_holds, ended_holds, if_holds}
use Rattle.lc_reading.specs.Listed.{place_of}
use Rattle.lc_reading.specs.Naming.{within, spelled_reading}
use Rattle.lc_reading.specs.Readings.{Reading, fine, wrong, mapped, three_of}
use Rattle.lc_reading.specs.Rows.{each_reading}
use Rattle.lc_reading.specs.Words.{is_long}
use Rattle.lc_reading.specs.declared.pass.Pass.TheVariants.{Shape, Bound, Unknown}
use Rattle.lc_term.specs.Said.{at_client}
use Rattle.lc_term.specs.Syntax.{Term, Number}
use Rattle.lc_term.specs.SystemColumns.{pend, rep_columns, noted, note_columns}
use Rattle.lc_term.specs.Updates.{Update}
use Rattle.lc_text.specs.Names.{Names}
use Rattle.lc_text.specs.Terms.{triple, term_reading}
use Rattle.lc_object_text.specs.ObjectNames.{text_in, first_text, items_within, within_first, later}
use Rattle.lc_rider.specs.Paths.{mark_updates}
use Rattle.lc_rider.specs.Rider.{Marking, Own, Other, Note}
use Rattle.lc_rider_text.specs.Known.{Known}
use Rattle.lc_rider_text.specs.Scopes.{system_place, place_or, column_place}
use Rattle.lc_rider_text.specs.Updates.{the_update, listed_update_reading}
use Rattle.lc_seq.specs.Specification.{Branch}
use Rattle.lc_outline.specs.Sizes.{columns_of}
use Rattle.lc_outline_text.specs.Sizes.{listed, column_named, columns_stored, columns_settled, columns_noted}
use Rattle.lc_reading.proofs.Places.{placed_before}

-- the column of a name
abbrev pub IsColumn : List (List ℕ) → List ℕ → ℕ → Type 0
IsColumn columns w k = column_named columns w ≡ k ∷ []

-- ---- beside the code

module _ (known : Known) (names : Names) where
  -- the same readings, with the columns that may be stored in given by a test
  abbrev stored_by_test : (ℕ → Bool) → ℕ → List ℕ → Option ℕ → Reading ℕ
  stored_by_test usable n w (Some k) = if usable k then within n w k else wrong Shape n
  stored_by_test usable n w None = wrong Unknown n

  abbrev column_by_test : (ℕ → Bool) → ℕ → Tree → Reading ℕ
  column_by_test usable n t = spelled_reading (λ w. stored_by_test usable n w (column_place known.columns w)) n t

  abbrev parts_by_test : (ℕ → Bool) → ℕ → ℕ → Trees → Reading ((ℕ × Term) × Term)
  parts_by_test usable n m (t ▸ u ▸ v ▸ ts) =
      three_of triple m t u v ts (column_by_test usable m t) (term_reading names [] (m + item_count t) u) (term_reading names [] (m + item_count t + item_count u) v)
  parts_by_test usable n m _ = wrong Shape n

  abbrev pub update_by_test : (ℕ → Bool) → ℕ → ℕ → Trees → Reading Update
  update_by_test usable n m ts = mapped the_update (parts_by_test usable n m ts)

  column_said : (usable : ℕ → Bool) (n : ℕ) (t : Tree) → Holds (IsColumn known.columns (text_in t)) (column_by_test usable n t)
  column_said usable n (list ts) = tt
  column_said usable n (atom w) =
      if_holds (IsColumn known.columns w) (is_name w) (stored_by_test usable n w (column_place known.columns w)) (wrong Shape n) (at_place (column_place known.columns w) refl) tt where
        at_place : (o : Option ℕ) → column_place known.columns w ≡ o → Holds (IsColumn known.columns w) (stored_by_test usable n w o)
        at_place None e = tt
        at_place (Some k) e =
            if_holds (IsColumn known.columns w) (usable k) (within n w k) (wrong Shape n) (if_holds (IsColumn known.columns w) (is_long w) (wrong Bound n) (fine k) tt (ap listed e)) tt

  parts_said : (usable : ℕ → Bool) (n m : ℕ) (ts : Trees) → Holds (λ (p : (ℕ × Term) × Term). IsColumn known.columns (first_text ts) p.0.0) (parts_by_test usable n m ts)
  parts_said usable n m none = tt
  parts_said usable n m (t ▸ none) = tt
  parts_said usable n m (t ▸ u ▸ none) = tt
  parts_said usable n m (t ▸ u ▸ v ▸ ts) =
      let P : (ℕ × Term) × Term → Type 0 = λ p. IsColumn known.columns (text_in t) p.0.0 in
      ended_holds P (m + item_count t + item_count u + item_count v) ts _
      (three_holds (IsColumn known.columns (text_in t)) (λ x. Unit {0}) (λ x. Unit {0}) P triple (column_by_test usable m t) (term_reading names [] (m + item_count t) u) (term_reading names [] (m + item_count t + item_count u) v)
      (column_said usable m t) (holds_unit (term_reading names [] (m + item_count t) u)) (holds_unit (term_reading names [] (m + item_count t + item_count u) v)) (λ k x y h u v. h))

  pub update_said : (usable : ℕ → Bool) (n m : ℕ) (ts : Trees) → Holds (λ (u : Update). IsColumn known.columns (first_text ts) u.column) (update_by_test usable n m ts)
  update_said usable n m ts =
      mapped_holds (λ (p : (ℕ × Term) × Term). IsColumn known.columns (first_text ts) p.0.0) (λ (u : Update). IsColumn known.columns (first_text ts) u.column) the_update (parts_by_test usable n m ts)
      (parts_said usable n m ts) (λ p h. h)

listed_said : (known : Known) (names : Names) (n : ℕ) (t : Tree) → Holds (λ (u : Update). IsColumn known.columns (first_text (items_within t)) u.column) (listed_update_reading known names n t)
listed_said known names n (atom w) = tt
listed_said known names n (list ts) = update_said known names (λ k. true) n (n + 1) ts

pub updates_said : (known : Known) (names : Names) (m : ℕ) (ts : Trees) → Holds (λ us. columns_stored known.columns ts ≡ columns_of us) (each_reading (listed_update_reading known names) m ts)
updates_said known names m none = refl
updates_said known names m (t ▸ ts) =
    both_holds (λ u. IsColumn known.columns (first_text (items_within t)) u.column) (λ us. columns_stored known.columns ts ≡ columns_of us) (λ us. columns_stored known.columns (t ▸ ts) ≡ columns_of us) (λ x xs. x ∷ xs)
    (listed_update_reading known names m t) (each_reading (listed_update_reading known names) (m + item_count t) ts) (listed_said known names m t) (updates_said known names (m + item_count t) ts) (λ u us h g. ap₂ (λ a b. a ++ b) h g)

-- ---- names that come first among all

-- a place among these names is the column's
abbrev pub Leads : List (List ℕ) → List (List ℕ) → Type 0
Leads own all = (w : List ℕ) (k : ℕ) → place_of own w ≡ Some k → column_named all w ≡ k ∷ []

pub own_names_lead : (own others : List (List ℕ)) → Leads own (own ++ others)
own_names_lead own others w k e = ap (λ o. listed (place_or (length (own ++ others)) o (system_place w))) (placed_before own others w k e)

-- ---- marks

-- in which columns a mark by a branch F (UPDATE ..) (T ..) stores
abbrev pub stored_by : List (List ℕ) → Marking → Trees → List ℕ
stored_by all Own = columns_settled all
stored_by all (Other t o) = columns_settled all
stored_by all Note = columns_noted all

-- a branch of this text
abbrev pub IsBranchOf : List (List ℕ) → Trees → Branch → Type 0
IsBranchOf all ts b = (columns_stored all (within_first (later ts)) ≡ columns_of b.updates) × (length b.replies ≡ tree_count (within_first (later (later ts))))

client_columns : (cs : List ℕ) (ts : List Term) → columns_of (at_client cs ts) ≡ take (length ts) cs
client_columns [] [] = refl
client_columns [] (t ∷ ts) = refl
client_columns (c ∷ cs) [] = refl
client_columns (c ∷ cs) (t ∷ ts) = ap (λ l. c ∷ l) (client_columns cs ts)

settled : (first : ℕ) (b : Branch)
    → columns_of (b.updates ++ (at_client (rep_columns first) b.replies ++ at_client (pend first ∷ []) (Number (pos 2) ∷ []))) ≡ columns_of b.updates ++ (take (length b.replies) (rep_columns first) ++ pend first ∷ [])
settled first b =
    let column = λ (u : Update). u.column in
    let last = at_client (pend first ∷ []) (Number (pos 2) ∷ []) in
    map-append column b.updates (at_client (rep_columns first) b.replies ++ last)
    ∙ ap (λ l. columns_of b.updates ++ l) (map-append column (at_client (rep_columns first) b.replies) last ∙ ap (λ l. l ++ pend first ∷ []) (client_columns (rep_columns first) b.replies))

settled_said : (all : List (List ℕ)) (ts : Trees) (b : Branch) → IsBranchOf all ts b
    → columns_of (b.updates ++ (at_client (rep_columns (length all)) b.replies ++ at_client (pend (length all) ∷ []) (Number (pos 2) ∷ []))) ≡ columns_settled all ts
settled_said all ts b h =
    settled (length all) b ∙ ap₂ (λ us k. us ++ (take k (rep_columns (length all)) ++ pend (length all) ∷ [])) (sym h.0) h.1
    ∙ sym (append_assoc (columns_stored all (within_first (later ts))) (take (tree_count (within_first (later (later ts)))) (rep_columns (length all))) (pend (length all) ∷ []))

pub marked_columns : (all : List (List ℕ)) (k : Marking) (ts : Trees) (b : Branch) → IsBranchOf all ts b → columns_of (mark_updates (length all) k b) ≡ stored_by all k ts
marked_columns all Own ts b h = settled_said all ts b h
marked_columns all (Other t o) ts b h = settled_said all ts b h
marked_columns all Note ts b h =
    ap (λ l. noted (length all) ∷ l) (client_columns (note_columns (length all)) b.replies ∙ ap (λ k. take k (note_columns (length all))) h.1)
