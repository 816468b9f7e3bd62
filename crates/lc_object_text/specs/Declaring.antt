-- What a text reads as where names are declared.
use Rattle.std.specs.Prelude.{ℕ, ◌+◌, nat_le, List, take, None}
use Rattle.lc_base.specs.Limits.{column_limit}
use Rattle.lc_sexp.specs.Trees.{Tree, Trees, atom, list, ◌▸◌}
use Rattle.lc_reading.specs.Naming.{name_reading}
use Rattle.lc_reading.specs.Readings.{Reading, wrong, limited, behind_reading}
use Rattle.lc_reading.specs.declared.pass.Pass.TheVariants.{Shape}
use Rattle.lc_object_text.specs.Rows.{placed_reading}

-- the item n, where the k-th of these names is declared
abbrev pub kth_name_reading : List (List ℕ) → ℕ → ℕ → Tree → Reading (List ℕ)
kth_name_reading names k n t = name_reading None (take k names) n t

-- the i-th name in a list with at most `limit` names, which comes after `base` + i others of these
abbrev pub listed_name_reading : ℕ → List (List ℕ) → ℕ → ℕ → ℕ → Tree → Reading (List ℕ)
listed_name_reading limit names base i n t = limited (nat_le limit i) n (kth_name_reading names (base + i) n t)

-- the item n, where a list of at most `limit` of these names is expected, which come after `base` others
abbrev pub names_reading : ℕ → List (List ℕ) → ℕ → ℕ → Tree → Reading (List (List ℕ))
names_reading limit names base n (atom w) = wrong Shape n
names_reading limit names base n (list ts) = placed_reading (listed_name_reading limit names base) 0 (n + 1) ts

-- (NAME ..): the i-th column of a section, after `base` others
abbrev pub column_name_reading : List (List ℕ) → ℕ → ℕ → ℕ → Tree → Reading (List ℕ)
column_name_reading names base i n (list (t ▸ ts)) = limited (nat_le column_limit (base + i)) n (kth_name_reading names (base + i) (n + 1) t)
column_name_reading names base i n _ = wrong Shape n

-- (WORD (NAME ..) ..)
abbrev pub section_parts : List (List ℕ) → ℕ → ℕ → ℕ → Trees → Reading (List (List ℕ))
section_parts names base n m ts = placed_reading (column_name_reading names base) 0 m ts

abbrev pub section_reading : List ℕ → List (List ℕ) → ℕ → ℕ → Tree → Reading (List (List ℕ))
section_reading word names base n t = behind_reading word (section_parts names base) n t
