-- An instruction is printed as it stood.
use Rattle.std.proofs.Common.{◌≡◌, ℕ, ◌+◌, Bool, true, false, cond, List, [], ◌∷◌, Option, Some, None, map, refl, sym, ap, ◌∙◌, subst}
use Rattle.std.specs.Prelude.{codes, option_map}
use Rattle.std.specs.List.{list_any}
use Rattle.lc_base.specs.NameText.{is_name}
use Rattle.lc_sexp.specs.Trees.{Tree, Trees, atom, list, none, ◌▸◌, item_count, row}
use Rattle.lc_reading.proofs.Fine.{IfFine, if_fine_unit, if_fine_weaker, cond_fine, both_fine}
use Rattle.lc_reading.proofs.Words.{is-true}
use Rattle.lc_reading.specs.Listed.{declared_by}
use Rattle.lc_reading.specs.Naming.{known, known_reading}
use Rattle.lc_reading.specs.Readings.{Reading, fine, wrong}
use Rattle.lc_reading.specs.Rows.{each_reading, declared_reading, first_name}
use Rattle.lc_reading.specs.Words.{is, is_long}
use Rattle.lc_reading.specs.declared.pass.Pass.TheVariants.{Shape, Bound}
use Rattle.lc_term.specs.Syntax.{Term}
use Rattle.lc_text.specs.Names.{Names}
use Rattle.lc_text.specs.Spelling.{Spelled}
use Rattle.lc_text.specs.SpelledTree.{term_tree, formula_tree}
use Rattle.lc_text.specs.Terms.{pair, term_reading}
use Rattle.lc_object.specs.Syntax.{Instr, Object}
use Rattle.lc_object_text.specs.Cells.{array_reading, label_reading, row_width, written, target_reading, targets_reading, values_reading, assignment_parts, assignment_reading, assignments_reading}
use Rattle.lc_object_text.specs.CodeNames.{CodeNames}
use Rattle.lc_object_text.specs.Counts.{second, count_reading, ended_behind, row_reading}
use Rattle.lc_object_text.specs.Heads.{head_of}
use Rattle.lc_object_text.specs.Instructions.{place_reading, labels_reading, moved_reading, stored_reading, rows_reading, exchange_reading, load_of, load_reading, store_of, store_reading, cas_of, cas_reading, set_of, set_reading, adding_reading, faa_of, faa_reading, if_of, if_reading, code_reading, return_of, return_reading, instruction_reading}
use Rattle.lc_outline_print.specs.Naming.{array_name, label}
use Rattle.lc_outline_print.specs.Parts.{term_trees}
use Rattle.lc_outline_print.specs.Instructions.{local_trees, assignment_tree, assignment_trees, instruction_tree}
use Rattle.lc_text_laws.specs.CodeSpelled.{AreCodeNames}
use Rattle.lc_text_laws.proofs.Alike.{ended_at, two_at}
use Rattle.lc_text_laws.proofs.Rows.{both_trees, IsRow, each_row, declared_row}
use Rattle.lc_text_laws.proofs.Terms.{one_word, term_stood, formula_stood}

-- ---- names

module _ (spell : ℕ → List ℕ) (find : List ℕ → Option ℕ) (h : (w : List ℕ) (k : ℕ) → find w ≡ Some k → spell k ≡ w) where
  found_at : (n : ℕ) (w : List ℕ) (o : Option ℕ) → find w ≡ o → IfFine (known n w o) (λ k. atom (spell k) ≡ atom w)
  found_at n w None e = tt
  found_at n w (Some k) e = cond_fine (λ k. atom (spell k) ≡ atom w) (is_long w) (wrong Bound n) (fine k) tt (ap atom (h w k e))

  found_stood : (n : ℕ) (t : Tree) → IfFine (known_reading find n t) (λ k. atom (spell k) ≡ t)
  found_stood n (list ts) = tt
  found_stood n (atom w) = cond_fine (λ k. atom (spell k) ≡ atom w) (is_name w) (known n w (find w)) (wrong Shape n) (found_at n w (find w) refl) tt

-- ---- rows

module _ {X : Type 0} (tree : X → Tree) where
  counted_list : (due : Option ℕ) (read : ℕ → Trees → Reading (List X)) → ((m : ℕ) (ts : Trees) → IfFine (read m ts) (IsRow tree ts)) → (n : ℕ) (t : Tree)
      → IfFine (row_reading due read n t) (λ xs. list (row (map tree xs)) ≡ t)
  counted_list due read h n (atom w) = tt
  counted_list due read h n (list ts) =
      both_fine (λ u. Unit {0}) (IsRow tree ts) (λ xs. list (row (map tree xs)) ≡ list ts) second (count_reading due n (n + 1) ts) (read (n + 1) ts) (if_fine_unit (count_reading due n (n + 1) ts)) (h (n + 1) ts)
      (λ u xs a b. ap list b)

module _ (names : Names) (code : CodeNames) (by : Spelled) (object : Object) (all : AreCodeNames names code by object) where
  terms_stood : (n : ℕ) (t : Tree) → IfFine (term_reading names [] n t) (λ x. term_tree by 0 x ≡ t)
  terms_stood = term_stood names by all.spelled

  row_name : (w : List ℕ) (k : ℕ) (o : Option (ℕ × ℕ)) → code.array w ≡ o → option_map (λ (r : ℕ × ℕ). r.0) o ≡ Some k → array_name object k ≡ w
  row_name w k None at e = absurd (cc)
  row_name w k (Some r) at e = let same : r.0 ≡ k = cc in subst (λ k. array_name object k ≡ w) same (all.arrays w r at)

  array_stood : (n : ℕ) (t : Tree) → IfFine (array_reading code n t) (λ k. atom (array_name object k) ≡ t)
  array_stood n t = found_stood (array_name object) (λ w. option_map (λ row. row.0) (code.array w)) (λ w k e. row_name w k (code.array w) refl e) n t

  label_stood : (n : ℕ) (t : Tree) → IfFine (label_reading code n t) (λ k. atom (label object k) ≡ t)
  label_stood n t = found_stood (label object) code.label all.labels n t

  written_stood : (n : ℕ) (w : List ℕ) (b : Bool) (o : Option ℕ) → code.target w ≡ o → IfFine (written n w b o) (λ k. atom (by.variable k) ≡ atom w)
  written_stood n w b None e = tt
  written_stood n w true (Some k) e = tt
  written_stood n w false (Some k) e = cond_fine (λ k. atom (by.variable k) ≡ atom w) (is_long w) (wrong Bound n) (fine k) tt (ap atom (all.targets w k e))

  target_stood : (before : List (List ℕ)) (n : ℕ) (t : Tree) → IfFine (target_reading code before n t) (λ k. atom (by.variable k) ≡ t)
  target_stood before n (list ts) = tt
  target_stood before n (atom w) =
      cond_fine (λ k. atom (by.variable k) ≡ atom w) (is_name w) (written n w (list_any (is w) before) (code.target w)) (wrong Shape n) (written_stood n w (list_any (is w) before) (code.target w) refl) tt

  targets_stood : (width : Option ℕ) (n : ℕ) (t : Tree) → IfFine (targets_reading code width n t) (λ rs. list (local_trees by rs) ≡ t)
  targets_stood width n t =
      counted_list (λ r. atom (by.variable r)) width (declared_reading (target_reading code) declared_by []) (declared_row (λ r. atom (by.variable r)) (target_reading code) declared_by target_stood []) n t

  values_stood : (width : Option ℕ) (n : ℕ) (t : Tree) → IfFine (values_reading names width n t) (λ vs. list (term_trees by vs) ≡ t)
  values_stood width n t = counted_list (term_tree by 0) width (each_reading (term_reading names [])) (each_row (term_tree by 0) (term_reading names []) terms_stood) n t

  abbrev cell_tree : ℕ × Term → Tree
  cell_tree p = assignment_tree by p.0 p.1

  assignment_parts_stood : (before : List (List ℕ)) (n m : ℕ) (ts : Trees) → IfFine (assignment_parts names code before n m ts) (λ p. cell_tree p ≡ list ts)
  assignment_parts_stood before n m none = tt
  assignment_parts_stood before n m (t ▸ none) = tt
  assignment_parts_stood before n m (t ▸ u ▸ ts) =
      two_at (λ k. atom (by.variable k) ≡ t) (λ x. term_tree by 0 x ≡ u) (λ ts p. cell_tree p ≡ list (t ▸ u ▸ ts)) pair m t u ts _ _ (target_stood before m t) (terms_stood (m + item_count t) u)
      (λ x y a b. ap list (both_trees _ _ _ _ a (both_trees _ _ _ _ b refl)))

  assignment_stood : (before : List (List ℕ)) (n : ℕ) (t : Tree) → IfFine (assignment_reading names code before n t) (λ p. cell_tree p ≡ t)
  assignment_stood before n (atom w) = tt
  assignment_stood before n (list ts) = assignment_parts_stood before n (n + 1) ts

  cells_are : (cells : List (ℕ × Term)) → assignment_trees by (map (λ cell. cell.0) cells) (map (λ cell. cell.1) cells) ≡ row (map cell_tree cells)
  cells_are [] = refl
  cells_are (c ∷ cs) = ap (λ ts. cell_tree c ▸ ts) (cells_are cs)

  abbrev assigned : List (ℕ × Term) → Trees
  assigned cells = assignment_trees by (map (λ cell. cell.0) cells) (map (λ cell. cell.1) cells)

  assignments_stood : (n : ℕ) (t : Tree) → IfFine (assignments_reading names code n t) (λ cells. list (assigned cells) ≡ t)
  assignments_stood n (atom w) = tt
  assignments_stood n (list ts) =
      if_fine_weaker (IsRow cell_tree ts) (λ cells. list (assigned cells) ≡ list ts) (declared_reading (assignment_reading names code) first_name [] (n + 1) ts) (λ cells e. ap list (cells_are cells ∙ e))
      (declared_row cell_tree (assignment_reading names code) first_name assignment_stood [] (n + 1) ts)

  -- ---- what comes after a word

  abbrev IsPlace : Tree → Tree → ℕ × Term → Type 0
  IsPlace t u p = (atom (array_name object p.0) ≡ t) × (term_tree by 0 p.1 ≡ u)

  abbrev AreLabels : Tree → Tree → ℕ × ℕ → Type 0
  AreLabels t u p = (atom (label object p.0) ≡ t) × (atom (label object p.1) ≡ u)

  abbrev IsMoved : Tree → Tree → List ℕ × ℕ → Type 0
  IsMoved t u p = (list (local_trees by p.0) ≡ t) × (atom (label object p.1) ≡ u)

  abbrev IsStored : Tree → Tree → List Term × ℕ → Type 0
  IsStored t u p = (list (term_trees by p.0) ≡ t) × (atom (label object p.1) ≡ u)

  abbrev AreRows : Tree → Tree → List Term × List Term → Type 0
  AreRows t u p = (list (term_trees by p.0) ≡ t) × (list (term_trees by p.1) ≡ u)

  abbrev IsExchange : Tree → Tree → Tree → Tree → (List Term × List Term) × (ℕ × ℕ) → Type 0
  IsExchange t u v w p = AreRows t u p.0 × AreLabels v w p.1

  abbrev IsAdding : Tree → Tree → Tree → List ℕ × (List Term × ℕ) → Type 0
  IsAdding t u v p = (list (local_trees by p.0) ≡ t) × IsStored u v p.1

  place_stood : (i : ℕ) (t : Tree) (j : ℕ) (u : Tree) → IfFine (place_reading names code i t j u) (IsPlace t u)
  place_stood i t j u = both_fine (λ k. atom (array_name object k) ≡ t) (λ x. term_tree by 0 x ≡ u) (IsPlace t u) pair _ _ (array_stood i t) (terms_stood j u) (λ x y a b. (a, b))

  labels_stood : (i : ℕ) (t : Tree) (j : ℕ) (u : Tree) → IfFine (labels_reading code i t j u) (AreLabels t u)
  labels_stood i t j u = both_fine (λ k. atom (label object k) ≡ t) (λ k. atom (label object k) ≡ u) (AreLabels t u) pair _ _ (label_stood i t) (label_stood j u) (λ x y a b. (a, b))

  moved_stood : (width : Option ℕ) (i : ℕ) (t : Tree) (j : ℕ) (u : Tree) → IfFine (moved_reading code width i t j u) (IsMoved t u)
  moved_stood width i t j u = both_fine (λ rs. list (local_trees by rs) ≡ t) (λ k. atom (label object k) ≡ u) (IsMoved t u) pair _ _ (targets_stood width i t) (label_stood j u) (λ x y a b. (a, b))

  stored_stood : (width : Option ℕ) (i : ℕ) (t : Tree) (j : ℕ) (u : Tree) → IfFine (stored_reading names code width i t j u) (IsStored t u)
  stored_stood width i t j u = both_fine (λ vs. list (term_trees by vs) ≡ t) (λ k. atom (label object k) ≡ u) (IsStored t u) pair _ _ (values_stood width i t) (label_stood j u) (λ x y a b. (a, b))

  rows_stood : (width : Option ℕ) (i : ℕ) (t : Tree) (j : ℕ) (u : Tree) → IfFine (rows_reading names width i t j u) (AreRows t u)
  rows_stood width i t j u = both_fine (λ vs. list (term_trees by vs) ≡ t) (λ vs. list (term_trees by vs) ≡ u) (AreRows t u) pair _ _ (values_stood width i t) (values_stood width j u) (λ x y a b. (a, b))

  abbrev IsAs : List ℕ → Trees → Instr → Type 0
  IsAs w ts i = instruction_tree object by i ≡ list (atom w ▸ ts)

  load_stood : (n m : ℕ) (ts : Trees) → IfFine (ended_behind 4 m ts (load_reading names code n m ts)) (IsAs (codes "load") ts)
  load_stood n m none = tt
  load_stood n m (a ▸ none) = tt
  load_stood n m (a ▸ t ▸ none) = tt
  load_stood n m (a ▸ t ▸ r ▸ none) = tt
  load_stood n m (a ▸ t ▸ r ▸ l ▸ ts) =
      ended_at (λ ts. IsAs (codes "load") (a ▸ t ▸ r ▸ l ▸ ts)) _ ts _
      (both_fine (IsPlace a t) (IsMoved r l) (IsAs (codes "load") (a ▸ t ▸ r ▸ l ▸ none)) load_of _ _ (place_stood m a (m + item_count a) t) (moved_stood (row_width code a) (m + item_count a + item_count t) r (m + item_count a + item_count t + item_count r) l)
      (λ p q x y. ap (λ ts. list (atom (codes "load") ▸ ts)) (both_trees _ _ _ _ x.0 (both_trees _ _ _ _ x.1 (both_trees _ _ _ _ y.0 (both_trees _ _ _ _ y.1 refl))))))

  store_stood : (n m : ℕ) (ts : Trees) → IfFine (ended_behind 4 m ts (store_reading names code n m ts)) (IsAs (codes "store") ts)
  store_stood n m none = tt
  store_stood n m (a ▸ none) = tt
  store_stood n m (a ▸ t ▸ none) = tt
  store_stood n m (a ▸ t ▸ r ▸ none) = tt
  store_stood n m (a ▸ t ▸ r ▸ l ▸ ts) =
      ended_at (λ ts. IsAs (codes "store") (a ▸ t ▸ r ▸ l ▸ ts)) _ ts _
      (both_fine (IsPlace a t) (IsStored r l) (IsAs (codes "store") (a ▸ t ▸ r ▸ l ▸ none)) store_of _ _ (place_stood m a (m + item_count a) t) (stored_stood (row_width code a) (m + item_count a + item_count t) r (m + item_count a + item_count t + item_count r) l)
      (λ p q x y. ap (λ ts. list (atom (codes "store") ▸ ts)) (both_trees _ _ _ _ x.0 (both_trees _ _ _ _ x.1 (both_trees _ _ _ _ y.0 (both_trees _ _ _ _ y.1 refl))))))

  exchange_stood : (width : Option ℕ) (i : ℕ) (t : Tree) (j : ℕ) (u : Tree) (k : ℕ) (v : Tree) (h : ℕ) (w : Tree)
      → IfFine (exchange_reading names code width i t j u k v h w)
      (IsExchange t u v w)
  exchange_stood width i t j u k v h w = both_fine (AreRows t u) (AreLabels v w) (IsExchange t u v w) pair _ _ (rows_stood width i t j u) (labels_stood k v h w) (λ x y a b. (a, b))

  cas_stood : (n m : ℕ) (ts : Trees) → IfFine (ended_behind 6 m ts (cas_reading names code n m ts)) (IsAs (codes "cas") ts)
  cas_stood n m none = tt
  cas_stood n m (a ▸ none) = tt
  cas_stood n m (a ▸ t ▸ none) = tt
  cas_stood n m (a ▸ t ▸ r ▸ none) = tt
  cas_stood n m (a ▸ t ▸ r ▸ s ▸ none) = tt
  cas_stood n m (a ▸ t ▸ r ▸ s ▸ l ▸ none) = tt
  cas_stood n m (a ▸ t ▸ r ▸ s ▸ l ▸ k ▸ ts) =
      ended_at (λ ts. IsAs (codes "cas") (a ▸ t ▸ r ▸ s ▸ l ▸ k ▸ ts)) _ ts _
      (both_fine (IsPlace a t) (IsExchange r s l k) (IsAs (codes "cas") (a ▸ t ▸ r ▸ s ▸ l ▸ k ▸ none)) cas_of _ _ (place_stood m a (m + item_count a) t) (exchange_stood (row_width code a) _ r _ s _ l _ k)
      (λ p q x y. ap (λ ts. list (atom (codes "cas") ▸ ts))
      (both_trees _ _ _ _ x.0 (both_trees _ _ _ _ x.1 (both_trees _ _ _ _ y.0.0 (both_trees _ _ _ _ y.0.1 (both_trees _ _ _ _ y.1.0 (both_trees _ _ _ _ y.1.1 refl))))))))

  set_stood : (n m : ℕ) (ts : Trees) → IfFine (ended_behind 2 m ts (set_reading names code n m ts)) (IsAs (codes "set") ts)
  set_stood n m none = tt
  set_stood n m (c ▸ none) = tt
  set_stood n m (c ▸ l ▸ ts) =
      ended_at (λ ts. IsAs (codes "set") (c ▸ l ▸ ts)) _ ts _
      (both_fine (λ cells. list (assigned cells) ≡ c) (λ k. atom (label object k) ≡ l) (IsAs (codes "set") (c ▸ l ▸ none)) set_of _ _ (assignments_stood m c) (label_stood (m + item_count c) l) (λ p q x y. ap (λ ts. list (atom (codes "set") ▸ ts)) (both_trees _ _ _ _ x (both_trees _ _ _ _ y refl))))

  adding_stood : (width : Option ℕ) (i : ℕ) (t : Tree) (j : ℕ) (u : Tree) (k : ℕ) (v : Tree) → IfFine (adding_reading names code width i t j u k v) (IsAdding t u v)
  adding_stood width i t j u k v =
      both_fine (λ rs. list (local_trees by rs) ≡ t) (IsStored u v) (IsAdding t u v) pair _ _ (targets_stood width i t) (stored_stood width j u k v) (λ x y a b. (a, b))

  faa_stood : (n m : ℕ) (ts : Trees) → IfFine (ended_behind 5 m ts (faa_reading names code n m ts)) (IsAs (codes "faa") ts)
  faa_stood n m none = tt
  faa_stood n m (a ▸ none) = tt
  faa_stood n m (a ▸ t ▸ none) = tt
  faa_stood n m (a ▸ t ▸ r ▸ none) = tt
  faa_stood n m (a ▸ t ▸ r ▸ s ▸ none) = tt
  faa_stood n m (a ▸ t ▸ r ▸ s ▸ l ▸ ts) =
      ended_at (λ ts. IsAs (codes "faa") (a ▸ t ▸ r ▸ s ▸ l ▸ ts)) _ ts _
      (both_fine (IsPlace a t) (IsAdding r s l) (IsAs (codes "faa") (a ▸ t ▸ r ▸ s ▸ l ▸ none)) faa_of _ _ (place_stood m a (m + item_count a) t) (adding_stood (row_width code a) _ r _ s _ l)
      (λ p q x y. ap (λ ts. list (atom (codes "faa") ▸ ts))
      (both_trees _ _ _ _ x.0 (both_trees _ _ _ _ x.1 (both_trees _ _ _ _ y.0 (both_trees _ _ _ _ y.1.0 (both_trees _ _ _ _ y.1.1 refl)))))))

  if_stood : (n m : ℕ) (ts : Trees) → IfFine (ended_behind 3 m ts (if_reading names code n m ts)) (IsAs (codes "if") ts)
  if_stood n m none = tt
  if_stood n m (f ▸ none) = tt
  if_stood n m (f ▸ l ▸ none) = tt
  if_stood n m (f ▸ l ▸ k ▸ ts) =
      ended_at (λ ts. IsAs (codes "if") (f ▸ l ▸ k ▸ ts)) _ ts _
      (both_fine (λ x. formula_tree by 0 x ≡ f) (AreLabels l k) (IsAs (codes "if") (f ▸ l ▸ k ▸ none)) if_of _ _ (formula_stood names by all.spelled all.plain m f) (labels_stood (m + item_count f) l (m + item_count f + item_count l) k)
      (λ p q x y. ap (λ ts. list (atom (codes "if") ▸ ts)) (both_trees _ _ _ _ x (both_trees _ _ _ _ y.0 (both_trees _ _ _ _ y.1 refl)))))

  -- after this word, which is that one
  as_word : (c w : List ℕ) (ts : Trees) (r : Reading Instr) → is w c ≡ true → IfFine r (IsAs c ts) → IfFine r (IsAs w ts)
  as_word c w ts r e h = subst (λ w. IfFine r (IsAs w ts)) (sym (is-true w c e)) h

  code_stood : (n m : ℕ) (w : List ℕ) (ts : Trees) → IfFine (code_reading names code n m ts (head_of w)) (IsAs w ts)
  code_stood n m w ts =
      one_word (λ o. code_reading names code n m ts o) (IsAs w ts) (is w (codes "load")) _ _ (λ e. as_word (codes "load") w ts _ e (load_stood n m ts))
      (one_word (λ o. code_reading names code n m ts o) (IsAs w ts) (is w (codes "store")) _ _ (λ e. as_word (codes "store") w ts _ e (store_stood n m ts))
      (one_word (λ o. code_reading names code n m ts o) (IsAs w ts) (is w (codes "cas")) _ _ (λ e. as_word (codes "cas") w ts _ e (cas_stood n m ts))
      (one_word (λ o. code_reading names code n m ts o) (IsAs w ts) (is w (codes "set")) _ _ (λ e. as_word (codes "set") w ts _ e (set_stood n m ts))
      (one_word (λ o. code_reading names code n m ts o) (IsAs w ts) (is w (codes "faa")) _ _ (λ e. as_word (codes "faa") w ts _ e (faa_stood n m ts))
      (one_word (λ o. code_reading names code n m ts o) (IsAs w ts) (is w (codes "if")) _ _ (λ e. as_word (codes "if") w ts _ e (if_stood n m ts)) tt)))))

  return_stood : (n m : ℕ) (ts : Trees) → IfFine (return_reading names code n m ts) (IsAs (codes "return") ts)
  return_stood n m ts =
      both_fine (λ u. Unit {0}) (IsRow (term_tree by 0) ts) (IsAs (codes "return") ts) return_of (count_reading code.replies n m ts) (each_reading (term_reading names []) m ts)
      (if_fine_unit (count_reading code.replies n m ts)) (each_row (term_tree by 0) (term_reading names []) terms_stood m ts) (λ u vs a e. ap (λ ts. list (atom (codes "return") ▸ ts)) e)

  behind_stood : (n : ℕ) (w : List ℕ) (ts : Trees) (b : Bool) → is w (codes "return") ≡ b
      → IfFine (cond b (return_reading names code n (n + 2) ts) (code_reading names code n (n + 2) ts (head_of w))) (IsAs w ts)
  behind_stood n w ts true e = as_word (codes "return") w ts (return_reading names code n (n + 2) ts) e (return_stood n (n + 2) ts)
  behind_stood n w ts false e = code_stood n (n + 2) w ts

  pub instruction_stood : (n : ℕ) (t : Tree) → IfFine (instruction_reading names code n t) (λ i. instruction_tree object by i ≡ t)
  instruction_stood n (atom w) = tt
  instruction_stood n (list none) = tt
  instruction_stood n (list (list us ▸ ts)) = tt
  instruction_stood n (list (atom w ▸ ts)) = behind_stood n w ts (is w (codes "return")) refl
