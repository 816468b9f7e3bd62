-- What a text reads as where an auxiliary column is expected.
use Rattle.std.specs.Prelude.{ℕ, ◌+◌, ℤ, nat_le, List}
use Rattle.lc_base.specs.Limits.{column_limit}
use Rattle.lc_sexp.specs.Trees.{Tree, Trees, none, ◌▸◌, item_count}
use Rattle.lc_seq.specs.Specification.{Column}
use Rattle.lc_reading.specs.Readings.{Reading, wrong, limited, both, listed_reading}
use Rattle.lc_reading.specs.declared.pass.Pass.TheVariants.{Shape}
use Rattle.lc_text.specs.Terms.{numbers_reading}
use Rattle.lc_object_text.specs.Declaring.{kth_name_reading}

abbrev pub column_of : List ℕ → ℤ × ℤ → Column
column_of name numbers = record { name = name; slope = numbers.0; start = numbers.1 }

-- NAME a b, the k-th of all columns: the parts of the list n, numbered from m on
abbrev pub column_parts_reading : List (List ℕ) → ℕ → ℕ → ℕ → Trees → Reading Column
column_parts_reading names k n m none = wrong Shape n
column_parts_reading names k n m (t ▸ ts) = both column_of (kth_name_reading names k m t) (numbers_reading n (m + item_count t) ts)

-- (NAME a b): the i-th auxiliary column, after `base` + i others of these, within the limit of columns
abbrev pub column_reading : List (List ℕ) → ℕ → ℕ → ℕ → Tree → Reading Column
column_reading names base i n t = limited (nat_le column_limit (base + i)) n (listed_reading (column_parts_reading names (base + i)) n t)
