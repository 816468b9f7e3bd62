-- The text that is printed of a development.
use Rattle.std.specs.Prelude.{ℕ, codes, List, [], map}
use Rattle.lc_sexp.specs.Trees.{Tree, Trees, atom, list, none, ◌▸◌, row}
use Rattle.lc_sexp.specs.Printed.{printed}
use Rattle.lc_outline.specs.Development.{Development}
use Rattle.lc_outline.specs.ColumnNames.{column_names}
use Rattle.lc_outline_print.specs.Naming.{with_client, named_by}
use Rattle.lc_outline_print.specs.Parts.{formula_trees}
use Rattle.lc_outline_print.specs.Specifications.{declared_tree, specification_tree}
use Rattle.lc_outline_print.specs.Beside.{action_tree, conjunct_tree}
use Rattle.lc_outline_print.specs.Objects.{array_tree, body_trees}

-- the first trees, followed by the others
abbrev pub followed : Trees → Trees → Trees
followed none us = us
followed (t ▸ ts) us = t ▸ followed ts us

-- (aux COL*)
abbrev pub auxiliary_tree : Development → Tree
auxiliary_tree D = list (atom (codes "aux") ▸ row (map declared_tree D.auxiliaries))

-- (invariant (NAME F)*)
abbrev pub invariant_tree : Development → Tree
invariant_tree D = list (atom (codes "invariant") ▸ row (map (conjunct_tree (column_names D)) D.conjuncts))

-- (idle F*), where N and the client are the variables
abbrev pub idle_tree : Development → Tree
idle_tree D = list (atom (codes "idle") ▸ formula_trees (named_by (column_names D) (with_client [])) D.idle)

-- ARRAY* (aux COL*) ACTION*
abbrev pub table_trees : Development → Trees
table_trees D = followed (row (map (array_tree D.object) D.object.arrays)) (auxiliary_tree D ▸ row (map (action_tree (column_names D)) D.actions))

-- (invariant (NAME F)*) (idle F*) BODY+
abbrev pub conditions_and_bodies : Development → Trees
conditions_and_bodies D = invariant_tree D ▸ idle_tree D ▸ body_trees D 0 D.object.operations

-- (object NAME ARRAY* (aux COL*) ACTION* (invariant (NAME F)*) (idle F*) BODY+)
abbrev pub object_tree : Development → Tree
object_tree D = list (atom (codes "object") ▸ atom D.object.name ▸ followed (table_trees D) (conditions_and_bodies D))

-- the two forms, each in a line
abbrev pub development_printed : Development → List ℕ
development_printed D = printed (specification_tree (column_names D) D.specification ▸ object_tree D ▸ none)
