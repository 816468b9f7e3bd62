-- Columns that are declared are printed as they stood.
use Rattle.std.proofs.Common.{◌≡◌, ℕ, ℤ, ◌+◌, List, length, Option, None, refl}
use Rattle.std.specs.Fmt.{signed_decimal}
use Rattle.lc_sexp.specs.Trees.{Tree, Trees, atom, none, ◌▸◌, item_count}
use Rattle.lc_reading.proofs.Fine.{IfFine}
use Rattle.lc_reading.specs.Naming.{is_full, name_reading}
use Rattle.lc_reading.specs.Readings.{listed_reading}
use Rattle.lc_text.specs.DeclaredColumn.{column_parts_reading, declared_column_reading}
use Rattle.lc_text.specs.Terms.{pair, triple, number_reading, numbers_reading}
use Rattle.lc_text_laws.proofs.Alike.{two_at}
use Rattle.lc_text_laws.proofs.Numerals.{numbers_as}
use Rattle.lc_text_laws.proofs.Rows.{both_trees, in_list, limited_fine, three_at, name_stood}
use Rattle.lc_outline_print.specs.Parts.{column_tree}

-- NAME a b
abbrev pub column_parts : (List ℕ × ℤ) × ℤ → Trees
column_parts p = atom p.0.0 ▸ atom (signed_decimal p.0.1) ▸ atom (signed_decimal p.1) ▸ none

parts_stood : (before : List (List ℕ)) (n m : ℕ) (ts : Trees) → IfFine (column_parts_reading before n m ts) (λ p. column_parts p ≡ ts)
parts_stood before n m none = tt
parts_stood before n m (t ▸ none) = tt
parts_stood before n m (t ▸ u ▸ none) = tt
parts_stood before n m (t ▸ u ▸ v ▸ ts) =
    three_at (λ w. atom w ≡ t) (λ z. atom (signed_decimal z) ≡ u) (λ z. atom (signed_decimal z) ≡ v) (λ ts p. column_parts p ≡ t ▸ u ▸ v ▸ ts) triple m t u v ts
    (name_reading None before m t) (number_reading (m + item_count t) u) (number_reading (m + item_count t + item_count u) v)
    (name_stood None before m t) (numbers_as (m + item_count t) u) (numbers_as (m + item_count t + item_count u) v)
    (λ x y z a b c. both_trees _ _ _ _ a (both_trees _ _ _ _ b (both_trees _ _ _ _ c refl)))

-- (NAME a b)
pub column_stood : (limit : Option ℕ) (before : List (List ℕ)) (n : ℕ) (t : Tree) → IfFine (declared_column_reading limit before n t) (λ p. column_tree p.0.0 p.0.1 p.1 ≡ t)
column_stood limit before n t =
    limited_fine (λ p. column_tree p.0.0 p.0.1 p.1 ≡ t) (is_full limit (length before)) n (listed_reading (column_parts_reading before) n t) (in_list column_parts (column_parts_reading before) (parts_stood before) n t)

-- two numbers
pub numbers_stood : (n m : ℕ) (ts : Trees) → IfFine (numbers_reading n m ts) (λ p. (atom (signed_decimal p.0) ▸ atom (signed_decimal p.1) ▸ none) ≡ ts)
numbers_stood n m none = tt
numbers_stood n m (t ▸ none) = tt
numbers_stood n m (t ▸ u ▸ ts) =
    two_at (λ z. atom (signed_decimal z) ≡ t) (λ z. atom (signed_decimal z) ≡ u) (λ ts p. (atom (signed_decimal p.0) ▸ atom (signed_decimal p.1) ▸ none) ≡ t ▸ u ▸ ts) pair m t u ts
    (number_reading m t) (number_reading (m + item_count t) u) (numbers_as m t) (numbers_as (m + item_count t) u) (λ x y a b. both_trees _ _ _ _ a (both_trees _ _ _ _ b refl))
