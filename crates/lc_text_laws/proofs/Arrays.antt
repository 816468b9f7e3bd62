-- Arrays and auxiliary columns are printed as they stood.
use Rattle.std.proofs.Common.{◌≡◌, ℕ, ℤ, ◌+◌, ◌-◌, Bool, true, false, cond, List, [], ◌∷◌, ◌++◌, append-nil, append_assoc, length-append, length, Option, Some, None, map, refl, sym, ap, ap₂, ◌∙◌, subst, arith}
use Rattle.std.proofs.lemmas.List.{map-append}
use Rattle.std.specs.Fmt.{signed_decimal}
use Rattle.std.specs.Prelude.{codes, suc, nat_le, option_map, slice_get}
use Rattle.lc_base.specs.Limits.{column_limit, width_limit}
use Rattle.lc_sexp.specs.Trees.{Tree, Trees, atom, list, none, ◌▸◌, item_count, row}
use Rattle.lc_reading.proofs.Fine.{IfFine, if_fine_weaker, both_fine}
use Rattle.lc_reading.proofs.Words.{is-true}
use Rattle.lc_reading.specs.Listed.{place_of}
use Rattle.lc_reading.specs.Readings.{limited, listed_reading}
use Rattle.lc_reading.specs.Words.{is}
use Rattle.lc_text.specs.Terms.{numbers_reading}
use Rattle.lc_seq.specs.Specification as Q
use Rattle.lc_object.specs.Syntax as O
use Rattle.lc_object.specs.WellFormed.{numbers_from}
use Rattle.lc_object_text.proofs.BodiesHold.{at_seam}
use Rattle.lc_object_text.specs.Declaring.{kth_name_reading}
use Rattle.lc_object_text.specs.ObjectNames.{Declared, Span, first_text, names_of_columns, columns_of_arrays, row_at}
use Rattle.lc_object_text.specs.Objects.{ArrayText, array_of, own_name_reading, column_of, column_parts, column_reading, columns_reading, first_column, array_parts, array_reading, concretes_of, arrays_from}
use Rattle.lc_object_text.specs.Rows.{placed_reading}
use Rattle.lc_rider_text.specs.Columns as A
use Rattle.lc_outline_text.specs.Declarations.{Declarations}
use Rattle.lc_outline_text.specs.Sides.{auxiliaries_reading}
use Rattle.lc_outline_print.specs.Naming.{name_of_array, array_name}
use Rattle.lc_outline_print.specs.Objects.{concrete_tree, concrete_trees, array_tree}
use Rattle.lc_outline_print.specs.Parts.{column_tree}
use Rattle.lc_outline_print.specs.Specifications.{declared_tree}
use Rattle.lc_text_laws.proofs.Columns.{numbers_stood}
use Rattle.lc_text_laws.proofs.Names.{kth_stood}
use Rattle.lc_text_laws.proofs.Riders.{placed_row}
use Rattle.lc_text_laws.proofs.Rows.{both_trees, IsRow, in_list, behind_word, limited_fine}
use Rattle.lc_text_laws.proofs.Splits.{parts_of_all}

-- ---- arrays, as they are read

abbrev pub concrete : O.Column → Tree
concrete c = column_tree c.name c.slope c.start

abbrev named_numbers : List ℕ → ℤ → ℤ → Trees
named_numbers name slope start = atom name ▸ atom (signed_decimal slope) ▸ atom (signed_decimal start) ▸ none

own_name_stood : (names : List (List ℕ)) (base i n m : ℕ) (t : Tree) → IfFine (own_name_reading names base i n m t) (λ w. atom w ≡ t)
own_name_stood names base i n m t =
    limited_fine (λ w. atom w ≡ t) (nat_le width_limit i) n (limited (nat_le column_limit (base + i)) n (kth_name_reading names (base + i) m t))
    (limited_fine (λ w. atom w ≡ t) (nat_le column_limit (base + i)) n (kth_name_reading names (base + i) m t) (kth_stood names (base + i) m t))

column_parts_stood : (names : List (List ℕ)) (base i n m : ℕ) (ts : Trees) → IfFine (column_parts names base i n m ts) (λ c. named_numbers c.name c.slope c.start ≡ ts)
column_parts_stood names base i n m none = tt
column_parts_stood names base i n m (t ▸ ts) =
    both_fine (λ w. atom w ≡ t) (λ p. (atom (signed_decimal p.0) ▸ atom (signed_decimal p.1) ▸ none) ≡ ts) (λ c. named_numbers c.name c.slope c.start ≡ t ▸ ts) column_of
    (own_name_reading names base i n m t) (numbers_reading n (m + item_count t) ts) (own_name_stood names base i n m t) (numbers_stood n (m + item_count t) ts) (λ w p a b. both_trees _ _ _ _ a b)

column_stood : (names : List (List ℕ)) (base i n : ℕ) (t : Tree) → IfFine (column_reading names base i n t) (λ c. concrete c ≡ t)
column_stood names base i n (atom w) = tt
column_stood names base i n (list ts) =
    if_fine_weaker (λ c. named_numbers c.name c.slope c.start ≡ ts) (λ c. concrete c ≡ list ts) (column_parts names base i n (n + 1) ts) (λ c e. ap list e) (column_parts_stood names base i n (n + 1) ts)

-- NAME COL+
abbrev text_parts : ArrayText → Trees
text_parts a = atom a.name ▸ row (map concrete a.columns)

abbrev pub text_tree : ArrayText → Tree
text_tree a = list (atom (codes "array") ▸ text_parts a)

columns_stood : (d : Declared) (i n m : ℕ) (ts : Trees) → IfFine (columns_reading d i n m ts) (IsRow concrete ts)
columns_stood d i n m none = tt
columns_stood d i n m (t ▸ ts) =
    let base = first_column (slice_get d.spans i) in placed_row concrete (column_reading d.columns base) (column_stood d.columns base) 0 m (t ▸ ts)

array_parts_stood : (d : Declared) (i n m : ℕ) (ts : Trees) → IfFine (array_parts d i n m ts) (λ a. text_parts a ≡ ts)
array_parts_stood d i n m none = tt
array_parts_stood d i n m (t ▸ ts) =
    both_fine (λ w. atom w ≡ t) (IsRow concrete ts) (λ a. text_parts a ≡ t ▸ ts) array_of (kth_name_reading d.arrays i m t) (columns_reading d i n (m + item_count t) ts)
    (kth_stood d.arrays i m t) (columns_stood d i n (m + item_count t) ts) (λ w cs a b. both_trees _ _ _ _ a b)

pub arrays_stood : (d : Declared) (i m : ℕ) (ts : Trees) → IfFine (placed_reading (array_reading d) i m ts) (IsRow text_tree ts)
arrays_stood d i m ts = placed_row text_tree (array_reading d) (λ i n t. behind_word text_parts (codes "array") (array_parts d i) (array_parts_stood d i) n t) i m ts

-- ---- arrays, as an object has them

module _ (object : O.Object) where
  concretes_at : (before cs rest : List O.Column) (n : ℕ) → object.concretes ≡ before ++ (cs ++ rest) → n ≡ length object.abstracts + length before
      → concrete_trees object (numbers_from n (length cs)) ≡ row (map concrete cs)
  concretes_at before [] rest n e at = refl
  concretes_at before (c ∷ cs) rest n e at =
      let place : n - length object.abstracts ≡ length before = omega (arith, at) in
      let there : slice_get object.concretes (n - length object.abstracts) ≡ Some c = ap₂ slice_get e place ∙ at_seam before (cs ++ rest) c in
      ap₂ concrete_tree there
      (concretes_at (before ++ c ∷ []) cs rest (suc n) (e ∙ sym (append_assoc before (c ∷ []) (cs ++ rest))) (omega (arith, at, length-append before (c ∷ []))))

  arrays_at : (before : List O.Column) (k : ℕ) (arrays : List ArrayText) → object.concretes ≡ before ++ concretes_of arrays → k ≡ length object.abstracts + length before
      → row (map (array_tree object) (arrays_from k arrays)) ≡ row (map text_tree arrays)
  arrays_at before k [] e at = refl
  arrays_at before k (a ∷ arrays) e at =
      ap₂ (λ cs ts. list (atom (codes "array") ▸ atom a.name ▸ cs) ▸ ts) (concretes_at before a.columns (concretes_of arrays) k e at)
      (arrays_at (before ++ a.columns) (k + length a.columns) arrays (e ∙ sym (append_assoc before a.columns (concretes_of arrays))) (omega (arith, at, length-append before a.columns)))

  pub arrays_printed : (arrays : List ArrayText) → object.concretes ≡ concretes_of arrays → object.arrays ≡ arrays_from (length object.abstracts) arrays
      → row (map (array_tree object) object.arrays) ≡ row (map text_tree arrays)
  arrays_printed arrays e same = ap (λ xs. row (map (array_tree object) xs)) same ∙ arrays_at [] (length object.abstracts) arrays e (omega arith)

-- ---- their names

names_of_concretes : (cs : List O.Column) → names_of_columns (row (map concrete cs)) ≡ map (λ (c : O.Column). c.name) cs
names_of_concretes [] = refl
names_of_concretes (c ∷ cs) = ap (λ ws. c.name ∷ ws) (names_of_concretes cs)

pub columns_are : (arrays : List ArrayText) → columns_of_arrays (parts_of_all (codes "array") (row (map text_tree arrays))) ≡ map (λ (c : O.Column). c.name) (concretes_of arrays)
columns_are [] = refl
columns_are (a ∷ arrays) = ap₂ (λ xs ys. xs ++ ys) (names_of_concretes a.columns) (columns_are arrays) ∙ sym (map-append (λ (c : O.Column). c.name) a.columns (concretes_of arrays))

pub array_names_are : (k : ℕ) (arrays : List ArrayText) → map first_text (parts_of_all (codes "array") (row (map text_tree arrays))) ≡ map (λ (a : O.Array). a.name) (arrays_from k arrays)
array_names_are k [] = refl
array_names_are k (a ∷ arrays) = ap (λ ws. a.name ∷ ws) (array_names_are (k + length a.columns) arrays)

-- what has a name is at the name's place
module _ {X : Type 0} (name : X → List ℕ) (named : Option X → List ℕ) (is_name : (x : X) → named (Some x) ≡ name x) where
  pub at_own : (xs ys : List X) (w : List ℕ) (k : ℕ) → place_of (map name xs) w ≡ Some k → named (slice_get (xs ++ ys) k) ≡ w
  at_own [] ys w k e = absurd (cc)
  at_own (x ∷ xs) ys w k e = at (λ j there. at_own xs ys w j there) (is w (name x)) (place_of (map name xs) w) refl refl e
    where
      at : ((j : ℕ) → place_of (map name xs) w ≡ Some j → named (slice_get (xs ++ ys) j) ≡ w) → (b : Bool) (o : Option ℕ) → is w (name x) ≡ b → place_of (map name xs) w ≡ o → cond b (Some 0) (option_map suc o) ≡ Some k → named (slice_get (x ∷ (xs ++ ys)) k) ≡ w
      at behind true o same there e = let here : 0 ≡ k = cc in subst (λ k. named (slice_get (x ∷ (xs ++ ys)) k) ≡ w) here (is_name x ∙ sym (is-true w (name x) same))
      at behind false None same there e = absurd (cc)
      at behind false (Some j) same there e = let next : suc j ≡ k = cc in subst (λ k. named (slice_get (x ∷ (xs ++ ys)) k) ≡ w) next (behind j there)

pub row_named : (object : O.Object) (spans : List Span) (names : List (List ℕ)) → names ≡ map (λ (a : O.Array). a.name) object.arrays → (w : List ℕ) (r : ℕ × ℕ) → row_at spans (place_of names w) ≡ Some r → array_name object r.0 ≡ w
row_named object spans names are w r e = at (place_of names w) refl e
  where
    found : (k : ℕ) → place_of names w ≡ Some k → array_name object k ≡ w
    found k at =
        ap (λ xs. name_of_array (slice_get xs k)) (sym (append-nil object.arrays))
        ∙ at_own (λ (a : O.Array). a.name) name_of_array (λ a. refl) object.arrays [] w k (ap (λ ws. place_of ws w) (sym are) ∙ at)

    spanned : (k : ℕ) (o : Option Span) → option_map (λ (span : Span). (k, span.width)) o ≡ Some r → k ≡ r.0
    spanned k None e = absurd (cc)
    spanned k (Some span) e = let same : (k, span.width) ≡ r = cc in ap (λ (p : ℕ × ℕ). p.0) same

    at : (o : Option ℕ) → place_of names w ≡ o → row_at spans o ≡ Some r → array_name object r.0 ≡ w
    at None there e = absurd (cc)
    at (Some k) there e = subst (λ k. array_name object k ≡ w) (spanned k (slice_get spans k) e) (found k there)

-- ---- auxiliary columns

auxiliary_parts : (names : List (List ℕ)) (k n m : ℕ) (ts : Trees) → IfFine (A.column_parts_reading names k n m ts) (λ (c : Q.Column). named_numbers c.name c.slope c.start ≡ ts)
auxiliary_parts names k n m none = tt
auxiliary_parts names k n m (t ▸ ts) =
    both_fine (λ w. atom w ≡ t) (λ p. (atom (signed_decimal p.0) ▸ atom (signed_decimal p.1) ▸ none) ≡ ts) (λ (c : Q.Column). named_numbers c.name c.slope c.start ≡ t ▸ ts) A.column_of
    (kth_name_reading names k m t) (numbers_reading n (m + item_count t) ts) (kth_stood names k m t) (numbers_stood n (m + item_count t) ts) (λ w p a b. both_trees _ _ _ _ a b)

auxiliary_stood : (names : List (List ℕ)) (base i n : ℕ) (t : Tree) → IfFine (A.column_reading names base i n t) (λ c. declared_tree c ≡ t)
auxiliary_stood names base i n t =
    limited_fine (λ c. declared_tree c ≡ t) (nat_le column_limit (base + i)) n (listed_reading (A.column_parts_reading names (base + i)) n t)
    (in_list (λ (c : Q.Column). named_numbers c.name c.slope c.start) (A.column_parts_reading names (base + i)) (auxiliary_parts names (base + i)) n t)

pub auxiliaries_stood : (d : Declarations) (n : ℕ) (t : Tree) → IfFine (auxiliaries_reading d n t) (λ cs. list (atom (codes "aux") ▸ row (map declared_tree cs)) ≡ t)
auxiliaries_stood d n t =
    behind_word (λ cs. row (map declared_tree cs)) (codes "aux") (λ n. placed_reading (A.column_reading d.declared.columns d.declared.auxiliaries) 0)
    (λ n m ts. placed_row declared_tree (A.column_reading d.declared.columns d.declared.auxiliaries) (auxiliary_stood d.declared.columns d.declared.auxiliaries) 0 m ts) n t

pub names_of_declared : (cs : List Q.Column) → names_of_columns (row (map declared_tree cs)) ≡ map (λ (c : Q.Column). c.name) cs
names_of_declared [] = refl
names_of_declared (c ∷ cs) = ap (λ ws. c.name ∷ ws) (names_of_declared cs)
