-- What a text reads as where a column is declared.
use Rattle.std.specs.Prelude.{ℕ, ℤ, ◌+◌, List, Option, None, length}
use Rattle.lc_sexp.specs.Trees.{Tree, Trees, ◌▸◌, item_count}
use Rattle.lc_reading.specs.Naming.{is_full, name_reading}
use Rattle.lc_reading.specs.Readings.{Reading, wrong, limited, listed_reading, three_of}
use Rattle.lc_reading.specs.declared.pass.Pass.TheVariants.{Shape}
use Rattle.lc_text.specs.Terms.{triple, number_reading}

-- NAME a b, after these names: the parts of the list n, numbered from m on
abbrev pub column_parts_reading : List (List ℕ) → ℕ → ℕ → Trees → Reading ((List ℕ × ℤ) × ℤ)
column_parts_reading before n m (t ▸ u ▸ v ▸ ts) =
    three_of triple m t u v ts (name_reading None before m t) (number_reading (m + item_count t) u) (number_reading (m + item_count t + item_count u) v)
column_parts_reading before n m _ = wrong Shape n

-- (NAME a b): a column that starts with a * i + b in cell i, declared after these, with a limit on all names together
abbrev pub declared_column_reading : Option ℕ → List (List ℕ) → ℕ → Tree → Reading ((List ℕ × ℤ) × ℤ)
declared_column_reading limit before n t = limited (is_full limit (length before)) n (listed_reading (column_parts_reading before) n t)
