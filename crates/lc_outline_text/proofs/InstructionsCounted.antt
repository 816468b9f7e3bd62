-- An instruction has the arrays and the labels that its text names.
use Rattle.std.proofs.Common.{◌≡◌, ℕ, ◌+◌, Bool, true, false, cond, List, [], length, Option, Some, None, refl, sym, ap, ◌∙◌, subst}
use Rattle.std.specs.Prelude.{codes, option_map}
use Rattle.lc_base.specs.NameText.{is_name}
use Rattle.lc_sexp.specs.TreeCode.{tree_count}
use Rattle.lc_sexp.specs.Trees.{Tree, Trees, atom, list, none, ◌▸◌, item_count}
use Rattle.lc_reading.proofs.Holding.{Holds, holds_unit, both_holds, if_holds}
use Rattle.lc_reading.proofs.Words.{is-true}
use Rattle.lc_reading.specs.Naming.{known}
use Rattle.lc_reading.specs.Readings.{wrong}
use Rattle.lc_reading.specs.Rows.{each_reading}
use Rattle.lc_reading.specs.Words.{is}
use Rattle.lc_reading.specs.declared.pass.Pass.TheVariants.{Shape}
use Rattle.lc_term.specs.Syntax.{Term}
use Rattle.lc_text.specs.Names.{Names}
use Rattle.lc_text.specs.Terms.{pair, term_reading}
use Rattle.lc_object.specs.Syntax as S
use Rattle.lc_object.specs.Syntax.{Instr}
use Rattle.lc_object_text.proofs.Holding.{Counted, row_holds, behind_holds}
use Rattle.lc_object_text.specs.Cells.{array_reading, label_reading, row_width, values_reading, targets_reading}
use Rattle.lc_object_text.specs.CodeNames.{CodeNames}
use Rattle.lc_object_text.specs.Heads.{head_of}
use Rattle.lc_object_text.specs.Instructions.{place_reading, labels_reading, moved_reading, stored_reading, rows_reading, exchange_reading, load_of, load_reading, store_of, store_reading, cas_of, cas_reading, set_of, set_reading, adding_reading, faa_of, faa_reading, if_of, if_reading, code_reading, return_of, return_reading, instruction_reading}
use Rattle.lc_object_text.specs.ObjectNames.{text_in, first_text, items_within}
use Rattle.lc_outline_text.specs.Sizes.{text_at}
use Rattle.lc_spec_text.proofs.Ways.{each_counted}
use Rattle.lc_object_text.proofs.CodeHolds.{found_holds}

-- what an instruction names, by the parts of its text
abbrev pub IsCoded : CodeNames → Trees → Instr → Type 0
IsCoded code c (S.Load a t rs l) = (first_text c ≡ codes "load") × (code.label (text_at 4 c) ≡ Some l)
IsCoded code c (S.Store a t vs l) = (first_text c ≡ codes "store") × (code.array (text_at 1 c) ≡ Some (a, length vs)) × (code.label (text_at 4 c) ≡ Some l)
IsCoded code c (S.Cas a t old new l m) =
    (first_text c ≡ codes "cas") × (code.array (text_at 1 c) ≡ Some (a, length new)) × (code.label (text_at 5 c) ≡ Some l) × (code.label (text_at 6 c) ≡ Some m)
IsCoded code c (S.Set rs vs l) = (first_text c ≡ codes "set") × (code.label (text_at 2 c) ≡ Some l)
IsCoded code c (S.Faa a t rs ds l) = (first_text c ≡ codes "faa") × (code.array (text_at 1 c) ≡ Some (a, length ds)) × (code.label (text_at 5 c) ≡ Some l)
IsCoded code c (S.If f l m) = (first_text c ≡ codes "if") × (code.label (text_at 2 c) ≡ Some l) × (code.label (text_at 3 c) ≡ Some m)
IsCoded code c (S.Return vs) = first_text c ≡ codes "return"

-- ---- parts

module _ (names : Names) (code : CodeNames) where
  abbrev IsLabel : Tree → ℕ → Type 0
  IsLabel t l = code.label (text_in t) ≡ Some l

  label_said : (n : ℕ) (t : Tree) → Holds (IsLabel t) (label_reading code n t)
  label_said n (list ts) = tt
  label_said n (atom w) = if_holds (IsLabel (atom w)) (is_name w) (known n w (code.label w)) (wrong Shape n) (found_holds (IsLabel (atom w)) n w (code.label w) (λ l e. e)) tt

  -- an array, and its width
  abbrev IsArray : Tree → ℕ → Type 0
  IsArray t a = (width : ℕ) × (row_width code t ≡ Some width) × (code.array (text_in t) ≡ Some (a, width))

  array_said : (n : ℕ) (t : Tree) → Holds (IsArray t) (array_reading code n t)
  array_said n (list ts) = tt
  array_said n (atom w) =
      if_holds (IsArray (atom w)) (is_name w) (known n w (option_map (λ (row : ℕ × ℕ). row.0) (code.array w))) (wrong Shape n)
      (found_holds (IsArray (atom w)) n w (option_map (λ (row : ℕ × ℕ). row.0) (code.array w)) (λ a e. of_row (code.array w) refl a e)) tt where
        of_row : (o : Option (ℕ × ℕ)) → code.array w ≡ o → (a : ℕ) → option_map (λ (row : ℕ × ℕ). row.0) o ≡ Some a → IsArray (atom w) a
        of_row None e a h = absurd (cc)
        of_row (Some row) e a h =
            let same : row.0 ≡ a = cc in (row.1, ap (λ o. option_map (λ (r : ℕ × ℕ). r.1) o) e, e ∙ ap (λ b. Some (b, row.1)) same)

  row_of : (t : Tree) (a n : ℕ) → IsArray t a → Counted (row_width code t) n → code.array (text_in t) ≡ Some (a, n)
  row_of t a n (width, wide, row) h =
      let same : n ≡ width = subst (λ o. Counted o n) wide h in row ∙ ap (λ k. Some (a, k)) (sym same)

  abbrev HaveWidth : Option ℕ → List Term → Type 0
  HaveWidth width vs = Counted width (length vs)

  values_said : (width : Option ℕ) (n : ℕ) (t : Tree) → Holds (HaveWidth width) (values_reading names width n t)
  values_said width n t =
      row_holds (λ ts vs. length vs ≡ tree_count ts) width (HaveWidth width) (each_reading (term_reading names [])) n t (each_counted (term_reading names [])) (λ ts vs c h. subst (Counted width) (sym h) c)

  labels_said : (i : ℕ) (t : Tree) (j : ℕ) (u : Tree) → Holds (λ (p : ℕ × ℕ). IsLabel t p.0 × IsLabel u p.1) (labels_reading code i t j u)
  labels_said i t j u =
      both_holds (IsLabel t) (IsLabel u) (λ (p : ℕ × ℕ). IsLabel t p.0 × IsLabel u p.1) pair (label_reading code i t) (label_reading code j u) (label_said i t) (label_said j u) (λ x y h g. (h, g))

  place_said : (i : ℕ) (t : Tree) (j : ℕ) (u : Tree) → Holds (λ (p : ℕ × Term). IsArray t p.0) (place_reading names code i t j u)
  place_said i t j u =
      both_holds (IsArray t) (λ x. Unit {0}) (λ (p : ℕ × Term). IsArray t p.0) pair (array_reading code i t) (term_reading names [] j u) (array_said i t) (holds_unit (term_reading names [] j u)) (λ x y h g. h)

  -- ---- instructions by their words

  loads : (w : List ℕ) → w ≡ codes "load" → (n m : ℕ) (ts : Trees) → Holds (IsCoded code (atom w ▸ ts)) (load_reading names code n m ts)
  loads w e n m none = tt
  loads w e n m (a ▸ none) = tt
  loads w e n m (a ▸ t ▸ none) = tt
  loads w e n m (a ▸ t ▸ r ▸ none) = tt
  loads w e n m (a ▸ t ▸ r ▸ l ▸ ts) =
      let i = m + item_count a + item_count t in
      both_holds (λ p. Unit {0}) (λ (q : List ℕ × ℕ). IsLabel l q.1) (IsCoded code (atom w ▸ a ▸ t ▸ r ▸ l ▸ ts)) load_of (place_reading names code m a (m + item_count a) t) (moved_reading code (row_width code a) i r (i + item_count r) l)
      (holds_unit (place_reading names code m a (m + item_count a) t))
      (both_holds (λ x. Unit {0}) (IsLabel l) (λ (q : List ℕ × ℕ). IsLabel l q.1) pair (targets_reading code (row_width code a) i r) (label_reading code (i + item_count r) l)
      (holds_unit (targets_reading code (row_width code a) i r)) (label_said (i + item_count r) l) (λ x y h g. g))
      (λ p q h g. (e, g))

  stores : (w : List ℕ) → w ≡ codes "store" → (n m : ℕ) (ts : Trees) → Holds (IsCoded code (atom w ▸ ts)) (store_reading names code n m ts)
  stores w e n m none = tt
  stores w e n m (a ▸ none) = tt
  stores w e n m (a ▸ t ▸ none) = tt
  stores w e n m (a ▸ t ▸ r ▸ none) = tt
  stores w e n m (a ▸ t ▸ r ▸ l ▸ ts) =
      let i = m + item_count a + item_count t in
      both_holds (λ (p : ℕ × Term). IsArray a p.0) (λ (q : List Term × ℕ). HaveWidth (row_width code a) q.0 × IsLabel l q.1) (IsCoded code (atom w ▸ a ▸ t ▸ r ▸ l ▸ ts)) store_of (place_reading names code m a (m + item_count a) t)
      (stored_reading names code (row_width code a) i r (i + item_count r) l) (place_said m a (m + item_count a) t)
      (both_holds (HaveWidth (row_width code a)) (IsLabel l) (λ (q : List Term × ℕ). HaveWidth (row_width code a) q.0 × IsLabel l q.1) pair (values_reading names (row_width code a) i r) (label_reading code (i + item_count r) l)
      (values_said (row_width code a) i r) (label_said (i + item_count r) l) (λ x y h g. (h, g)))
      (λ p q h g. (e, row_of a p.0 (length q.0) h g.0, g.1))

  exchanges : (w : List ℕ) → w ≡ codes "cas" → (n m : ℕ) (ts : Trees) → Holds (IsCoded code (atom w ▸ ts)) (cas_reading names code n m ts)
  exchanges w e n m none = tt
  exchanges w e n m (a ▸ none) = tt
  exchanges w e n m (a ▸ t ▸ none) = tt
  exchanges w e n m (a ▸ t ▸ r ▸ none) = tt
  exchanges w e n m (a ▸ t ▸ r ▸ s ▸ none) = tt
  exchanges w e n m (a ▸ t ▸ r ▸ s ▸ l ▸ none) = tt
  exchanges w e n m (a ▸ t ▸ r ▸ s ▸ l ▸ k ▸ ts) =
      let width = row_width code a in
      let i = m + item_count a + item_count t in
      let j = i + item_count r in
      let x = j + item_count s in
      let y = x + item_count l in
      let Rows : List Term × List Term → Type 0 = λ q. HaveWidth width q.1 in
      let Labels : ℕ × ℕ → Type 0 = λ q. IsLabel l q.0 × IsLabel k q.1 in
      let Both : (List Term × List Term) × (ℕ × ℕ) → Type 0 = λ q. Rows q.0 × Labels q.1 in
      both_holds (λ (p : ℕ × Term). IsArray a p.0) Both (IsCoded code (atom w ▸ a ▸ t ▸ r ▸ s ▸ l ▸ k ▸ ts)) cas_of (place_reading names code m a (m + item_count a) t)
      (exchange_reading names code width i r j s x l y k) (place_said m a (m + item_count a) t)
      (both_holds Rows Labels Both pair (rows_reading names width i r j s) (labels_reading code x l y k)
      (both_holds (λ vs. Unit {0}) (HaveWidth width) Rows pair (values_reading names width i r) (values_reading names width j s) (holds_unit (values_reading names width i r)) (values_said width j s) (λ u v h g. g))
      (labels_said x l y k) (λ u v h g. (h, g)))
      (λ p q h g. (e, row_of a p.0 (length q.0.1) h g.0, g.1.0, g.1.1))

  sets : (w : List ℕ) → w ≡ codes "set" → (n m : ℕ) (ts : Trees) → Holds (IsCoded code (atom w ▸ ts)) (set_reading names code n m ts)
  sets w e n m none = tt
  sets w e n m (a ▸ none) = tt
  sets w e n m (a ▸ l ▸ ts) =
      both_holds (λ p. Unit {0}) (IsLabel l) (IsCoded code (atom w ▸ a ▸ l ▸ ts)) set_of _ (label_reading code (m + item_count a) l) (holds_unit _) (label_said (m + item_count a) l) (λ p q h g. (e, g))

  adds : (w : List ℕ) → w ≡ codes "faa" → (n m : ℕ) (ts : Trees) → Holds (IsCoded code (atom w ▸ ts)) (faa_reading names code n m ts)
  adds w e n m none = tt
  adds w e n m (a ▸ none) = tt
  adds w e n m (a ▸ t ▸ none) = tt
  adds w e n m (a ▸ t ▸ r ▸ none) = tt
  adds w e n m (a ▸ t ▸ r ▸ d ▸ none) = tt
  adds w e n m (a ▸ t ▸ r ▸ d ▸ l ▸ ts) =
      let width = row_width code a in
      let i = m + item_count a + item_count t in
      let j = i + item_count r in
      let Stored : List Term × ℕ → Type 0 = λ q. HaveWidth width q.0 × IsLabel l q.1 in
      let Added : List ℕ × (List Term × ℕ) → Type 0 = λ q. Stored q.1 in
      both_holds (λ (p : ℕ × Term). IsArray a p.0) Added (IsCoded code (atom w ▸ a ▸ t ▸ r ▸ d ▸ l ▸ ts)) faa_of (place_reading names code m a (m + item_count a) t)
      (adding_reading names code width i r j d (j + item_count d) l) (place_said m a (m + item_count a) t)
      (both_holds (λ rs. Unit {0}) Stored Added pair (targets_reading code width i r) (stored_reading names code width j d (j + item_count d) l) (holds_unit (targets_reading code width i r))
      (both_holds (HaveWidth width) (IsLabel l) Stored pair (values_reading names width j d) (label_reading code (j + item_count d) l) (values_said width j d) (label_said (j + item_count d) l) (λ x y h g. (h, g)))
      (λ x y u h. h))
      (λ p q h g. (e, row_of a p.0 (length q.1.0) h g.0, g.1))

  tests : (w : List ℕ) → w ≡ codes "if" → (n m : ℕ) (ts : Trees) → Holds (IsCoded code (atom w ▸ ts)) (if_reading names code n m ts)
  tests w e n m none = tt
  tests w e n m (a ▸ none) = tt
  tests w e n m (a ▸ l ▸ none) = tt
  tests w e n m (a ▸ l ▸ k ▸ ts) =
      let i = m + item_count a in
      both_holds (λ f. Unit {0}) (λ (q : ℕ × ℕ). IsLabel l q.0 × IsLabel k q.1) (IsCoded code (atom w ▸ a ▸ l ▸ k ▸ ts)) if_of _ (labels_reading code i l (i + item_count l) k) (holds_unit _) (labels_said i l (i + item_count l) k) (λ p q h g. (e, g.0, g.1))

  returns : (w : List ℕ) → w ≡ codes "return" → (n m : ℕ) (ts : Trees) → Holds (IsCoded code (atom w ▸ ts)) (return_reading names code n m ts)
  returns w e n m ts = both_holds (λ u. Unit {0}) (λ vs. Unit {0}) (IsCoded code (atom w ▸ ts)) return_of _ _ (holds_unit _) (holds_unit _) (λ p q h g. e)

  -- the first whose test holds
  first_of : {X : Type 0} (P : Option X → Type 0) (o p q r s u : Option X) (a b c d e f : Bool) → (a ≡ true → P o) → (b ≡ true → P p) → (c ≡ true → P q) → (d ≡ true → P r) → (e ≡ true → P s) → (f ≡ true → P u) → P None
      → P (cond a o (cond b p (cond c q (cond d r (cond e s (cond f u None))))))
  first_of P o p q r s u true b c d e f h i j k l m n = h refl
  first_of P o p q r s u false true c d e f h i j k l m n = i refl
  first_of P o p q r s u false false true d e f h i j k l m n = j refl
  first_of P o p q r s u false false false true e f h i j k l m n = k refl
  first_of P o p q r s u false false false false true f h i j k l m n = l refl
  first_of P o p q r s u false false false false false true h i j k l m n = m refl
  first_of P o p q r s u false false false false false false h i j k l m n = n

  by_head : (w : List ℕ) (n m : ℕ) (ts : Trees) → Holds (IsCoded code (atom w ▸ ts)) (code_reading names code n m ts (head_of w))
  by_head w n m ts =
      let P = IsCoded code (atom w ▸ ts) in
      first_of (λ o. Holds P (code_reading names code n m ts o)) (head_of (codes "load")) (head_of (codes "store")) (head_of (codes "cas")) (head_of (codes "set")) (head_of (codes "faa")) (head_of (codes "if"))
      (is w (codes "load")) (is w (codes "store")) (is w (codes "cas")) (is w (codes "set")) (is w (codes "faa")) (is w (codes "if"))
      (λ e. behind_holds P 4 m ts (load_reading names code n m ts) (loads w (is-true w (codes "load") e) n m ts))
      (λ e. behind_holds P 4 m ts (store_reading names code n m ts) (stores w (is-true w (codes "store") e) n m ts))
      (λ e. behind_holds P 6 m ts (cas_reading names code n m ts) (exchanges w (is-true w (codes "cas") e) n m ts))
      (λ e. behind_holds P 2 m ts (set_reading names code n m ts) (sets w (is-true w (codes "set") e) n m ts))
      (λ e. behind_holds P 5 m ts (faa_reading names code n m ts) (adds w (is-true w (codes "faa") e) n m ts))
      (λ e. behind_holds P 3 m ts (if_reading names code n m ts) (tests w (is-true w (codes "if") e) n m ts)) tt

  by_return : (w : List ℕ) (n : ℕ) (ts : Trees) (b : Bool) → is w (codes "return") ≡ b → Holds (IsCoded code (atom w ▸ ts)) (cond b (return_reading names code n (n + 2) ts) (code_reading names code n (n + 2) ts (head_of w)))
  by_return w n ts true e = returns w (is-true w (codes "return") e) n (n + 2) ts
  by_return w n ts false e = by_head w n (n + 2) ts

  pub instruction_said : (n : ℕ) (t : Tree) → Holds (IsCoded code (items_within t)) (instruction_reading names code n t)
  instruction_said n (atom w) = tt
  instruction_said n (list none) = tt
  instruction_said n (list (list us ▸ ts)) = tt
  instruction_said n (list (atom w ▸ ts)) = by_return w n ts (is w (codes "return")) refl
