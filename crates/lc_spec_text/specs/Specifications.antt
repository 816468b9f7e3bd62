-- What a text reads as where a specification is expected.
use Rattle.std.specs.Prelude.{ℕ, ◌+◌, ℤ, codes, if◌then◌else◌, List, [], Some, None}
use Rattle.lc_base.specs.Limits.{column_limit}
use Rattle.lc_sexp.specs.Trees.{Tree, Trees, atom, list, none, ◌▸◌, item_count}
use Rattle.lc_reading.specs.Naming.{name_reading}
use Rattle.lc_reading.specs.Readings.{Reading, wrong, mapped, three, behind_reading}
use Rattle.lc_reading.specs.Rows.{first_name, second_name, all_declared, declared_reading}
use Rattle.lc_reading.specs.Words.{is}
use Rattle.lc_reading.specs.declared.pass.Pass.TheVariants.{Shape}
use Rattle.lc_text.specs.DeclaredColumn.{declared_column_reading}
use Rattle.lc_text.specs.Terms.{triple}
use Rattle.lc_seq.specs.Specification.{Column, Operation, Specification}
use Rattle.lc_spec_text.specs.Scopes.{Columns}
use Rattle.lc_spec_text.specs.Operations.{operation_reading}

abbrev pub the_column : (List ℕ × ℤ) × ℤ → Column
the_column p = record { name = p.0.0; slope = p.0.1; start = p.1 }

-- (NAME a b), within the limit of columns
abbrev pub column_reading : List (List ℕ) → ℕ → Tree → Reading Column
column_reading before n t = mapped the_column (declared_column_reading (Some column_limit) before n t)

-- (abstract COL*)
abbrev pub columns_reading : ℕ → Tree → Reading (List Column)
columns_reading n t = behind_reading (codes "abstract") (λ n. declared_reading column_reading first_name []) n t

-- the names of its columns
abbrev pub columns_in : Tree → List (List ℕ)
columns_in (list (atom w ▸ ts)) = if is w (codes "abstract") then all_declared first_name ts else []
columns_in _ = []

-- the operations in a row, from m on
abbrev pub operations_reading : Columns → ℕ → Trees → Reading (List Operation)
operations_reading columns m ts = declared_reading (operation_reading columns) second_name [] m ts

-- NAME (abstract COL*) OP+: the parts of the list n, numbered from m on, in a file whose other forms declare these columns
abbrev pub specification_parts_reading : List (List ℕ) → ℕ → ℕ → Trees → Reading ((List ℕ × List Column) × List Operation)
specification_parts_reading others n m (t ▸ u ▸ o ▸ os) =
    three triple (name_reading None [] m t) (columns_reading (m + item_count t) u)
    (operations_reading (record { own = columns_in u; others = others }) (m + item_count t + item_count u) (o ▸ os))
specification_parts_reading others n m _ = wrong Shape n

abbrev pub the_specification : (List ℕ × List Column) × List Operation → Specification
the_specification p = record { name = p.0.0; columns = p.0.1; operations = p.1 }

-- (spec NAME (abstract COL*) OP+), in a file whose other forms declare these columns
abbrev pub specification_reading : List (List ℕ) → ℕ → Tree → Reading Specification
specification_reading others n t = mapped the_specification (behind_reading (codes "spec") (specification_parts_reading others) n t)

-- The first form of a file, where a specification is expected. The other forms are not looked at; a missing form is
-- reported at the number of items, which is 0
abbrev pub first_reading : Trees → Reading Specification
first_reading none = wrong Shape 0
first_reading (t ▸ ts) = specification_reading [] 0 t
