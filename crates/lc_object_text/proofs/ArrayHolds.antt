-- What is read of the arrays of an object.
use Rattle.std.proofs.Common.{◌≡◌, ℕ, ◌+◌, ◌≤◌, ◌<◌, Bool, true, false, cond, List, [], ◌∷◌, length, length-append, refl, sym, ap, subst, arith}
use Rattle.std.specs.Prelude.{codes, slice_get, nat_le}
use Rattle.lc_base.specs.Limits.{column_limit, width_limit}
use Rattle.lc_sexp.specs.Parts.{fits, misshapen}
use Rattle.lc_sexp.specs.TreeCode.{tree_count}
use Rattle.lc_sexp.specs.Trees.{Tree, Trees, atom, list, none, ◌▸◌, item_count}
use Rattle.lc_text.specs.Terms.{numbers_reading}
use Rattle.lc_reading.proofs.Holding.{Holds, both_holds, holds_unit, holds_weaker}
use Rattle.lc_reading.specs.Readings.{fine, wrong, limited, both}
use Rattle.lc_reading.specs.Words.{is}
use Rattle.lc_reading.specs.declared.pass.Pass.TheVariants.{Shape}
use Rattle.lc_object.specs.Syntax.{Column, Array}
use Rattle.lc_object.specs.WellFormed.{numbers_from}
use Rattle.lc_object_text.proofs.Holding.{limited_below, Each, placed_holds, each_counted, each_few}
use Rattle.lc_object_text.specs.Declaring.{kth_name_reading}
use Rattle.lc_object_text.specs.ObjectNames.{Span, Declared, later, spans_from}
use Rattle.lc_object_text.specs.Objects.{own_name_reading, column_of, column_reading, ArrayText, array_of, first_column, columns_reading, array_parts, array_reading, concretes_of, arrays_from}
use Rattle.lc_object_text.specs.Rows.{cons, lists_reading}
use Rattle.lc_object_text.specs.Sections.{before_others, forms_in}

-- the i-th column of an array, of at most four
abbrev IsColumn : ℕ → Tree → Column → Type 0
IsColumn i t column = i < width_limit

column_holds : (names : List (List ℕ)) (base i n : ℕ) (t : Tree) → Holds (IsColumn i t) (column_reading names base i n t)
column_holds names base i n (atom w) = tt
column_holds names base i n (list none) = tt
column_holds names base i n (list (t ▸ ts)) =
    both_holds (λ w. i < width_limit) (λ z. Unit {0}) (λ column. i < width_limit) column_of (own_name_reading names base i n (n + 1) t) (numbers_reading n (n + 1 + item_count t) ts)
    (limited_below width_limit i n (limited (nat_le column_limit (base + i)) n (kth_name_reading names (base + i) (n + 1) t))) (holds_unit (numbers_reading n (n + 1 + item_count t) ts)) (λ w z h u. h)

-- one to four
abbrev pub IsWidth : ℕ → Type 0
IsWidth n = (1 ≤ n) × (n ≤ width_limit)

-- as many columns as the text has
abbrev pub HasColumns : Trees → ArrayText → Type 0
HasColumns us a = (length a.columns ≡ tree_count (later us)) × IsWidth (tree_count (later us))

abbrev HaveColumns : Trees → List Column → Type 0
HaveColumns ts columns = (length columns ≡ tree_count ts) × IsWidth (tree_count ts)

columns_hold : (d : Declared) (i n m : ℕ) (ts : Trees) → Holds (HaveColumns ts) (columns_reading d i n m ts)
columns_hold d i n m none = tt
columns_hold d i n m (t ▸ ts) =
    let read = column_reading d.columns (first_column (slice_get d.spans i)) in
    holds_weaker (Each IsColumn 0 (t ▸ ts)) (HaveColumns (t ▸ ts)) (columns_reading d i n m (t ▸ ts))
    (λ columns h. let size = each_counted IsColumn 0 (t ▸ ts) columns h in (size, (omega arith, omega (arith, size, each_few IsColumn 4 (λ i t x below. below) 0 (t ▸ ts) columns (omega arith) h))))
    (placed_holds IsColumn read (column_holds d.columns (first_column (slice_get d.spans i))) 0 m (t ▸ ts))

array_parts_hold : (d : Declared) (i n m : ℕ) (us : Trees) → Holds (HasColumns us) (array_parts d i n m us)
array_parts_hold d i n m none = tt
array_parts_hold d i n m (t ▸ ts) =
    both_holds (λ w. Unit {0}) (HaveColumns ts) (HasColumns (t ▸ ts)) array_of (kth_name_reading d.arrays i m t) (columns_reading d i n (m + item_count t) ts)
    (holds_unit (kth_name_reading d.arrays i m t)) (columns_hold d i n (m + item_count t) ts) (λ w columns u h. h)

-- the arrays at the beginning of items
abbrev pub AreArrays : List Trees → List ArrayText → Type 0
AreArrays [] [] = Unit {0}
AreArrays [] (a ∷ arrays) = ⊥
AreArrays (us ∷ forms) [] = ⊥
AreArrays (us ∷ forms) (a ∷ arrays) = HasColumns us a × AreArrays forms arrays

pub arrays_hold : (d : Declared) (i m : ℕ) (ts : Trees) → Holds (AreArrays (forms_in (codes "array") ts)) (lists_reading (codes "array") (array_reading d) i m ts)
arrays_hold d i m none = tt
arrays_hold d i m (atom w ▸ ts) = tt
arrays_hold d i m (list none ▸ ts) = tt
arrays_hold d i m (list (list us ▸ vs) ▸ ts) = tt
arrays_hold d i m (list (atom w ▸ us) ▸ ts) = by_test (is w (codes "array")) (arrays_hold d (i + 1) (m + item_count (list (atom w ▸ us))) ts) where
  by_test : (b : Bool) → Holds (AreArrays (forms_in (codes "array") ts)) (lists_reading (codes "array") (array_reading d) (i + 1) (m + item_count (list (atom w ▸ us))) ts)
      → Holds (AreArrays (before_others (cond b (fits us) misshapen) (forms_in (codes "array") ts)))
      (cond b (both cons (cond b (array_parts d i m (m + 2) us) (wrong Shape m)) (lists_reading (codes "array") (array_reading d) (i + 1) (m + item_count (list (atom w ▸ us))) ts)) (fine []))
  by_test true h =
      both_holds (HasColumns us) (AreArrays (forms_in (codes "array") ts)) (AreArrays (us ∷ forms_in (codes "array") ts)) cons (array_parts d i m (m + 2) us) _ (array_parts_hold d i m (m + 2) us) h (λ a arrays p q. (p, q))
  by_test false h = tt

-- how many columns these arrays have
abbrev pub columns_count : List Trees → ℕ
columns_count [] = 0
columns_count (ts ∷ arrays) = tree_count (later ts) + columns_count arrays

pub concretes_counted : (forms : List Trees) (arrays : List ArrayText) → AreArrays forms arrays → length (concretes_of arrays) ≡ columns_count forms
concretes_counted [] [] h = refl
concretes_counted [] (a ∷ arrays) h = absurd h
concretes_counted (us ∷ forms) [] h = absurd h
concretes_counted (us ∷ forms) (a ∷ arrays) h = omega (arith, length-append a.columns (concretes_of arrays), h.0.0, concretes_counted forms arrays h.1)

-- arrays that have these spans
abbrev pub HaveSpans : List Span → List Array → Type 0
HaveSpans [] [] = Unit {0}
HaveSpans [] (a ∷ arrays) = ⊥
HaveSpans (span ∷ spans) [] = ⊥
HaveSpans (span ∷ spans) (a ∷ arrays) = (a.columns ≡ numbers_from span.first span.width) × IsWidth span.width × HaveSpans spans arrays

pub spans_have : (k : ℕ) (forms : List Trees) (arrays : List ArrayText) → AreArrays forms arrays → HaveSpans (spans_from k forms) (arrays_from k arrays)
spans_have k [] [] h = tt
spans_have k [] (a ∷ arrays) h = absurd h
spans_have k (us ∷ forms) [] h = absurd h
spans_have k (us ∷ forms) (a ∷ arrays) h =
    (ap (numbers_from k) h.0.0, h.0.1, subst (λ n. HaveSpans (spans_from (k + tree_count (later us)) forms) (arrays_from (k + n) arrays)) (sym h.0.0) (spans_have (k + tree_count (later us)) forms arrays h.1))
