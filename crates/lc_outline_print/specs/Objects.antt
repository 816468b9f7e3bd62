-- What is printed of an object, with what is beside its code.
use Rattle.std.specs.Prelude.{ℕ, suc, ◌-◌, ◌==◌, if◌then◌else◌, codes, List, [], ◌∷◌, ◌++◌, Option, Some, None, map, length, slice_get}
use Rattle.lc_sexp.specs.Trees.{Tree, Trees, atom, list, none, ◌▸◌, row}
use Rattle.lc_text.specs.Spelling.{Spelled}
use Rattle.lc_object.specs.Syntax.{Column, Array, Operation, Point, Object}
use Rattle.lc_outline.specs.Development.{Outline, Development, asserts_in, ons_in}
use Rattle.lc_outline.specs.ColumnNames.{column_names}
use Rattle.lc_outline_print.specs.Naming.{with_client, named_by}
use Rattle.lc_outline_print.specs.Parts.{name_trees, formula_trees, column_tree}
use Rattle.lc_outline_print.specs.Beside.{on_tree}
use Rattle.lc_outline_print.specs.Instructions.{instruction_tree}

-- (NAME a b), if there is this column, followed by these
abbrev pub concrete_tree : Option Column → Trees → Trees
concrete_tree None ts = ts
concrete_tree (Some c) ts = column_tree c.name c.slope c.start ▸ ts

-- of the columns of these numbers
abbrev pub concrete_trees : Object → List ℕ → Trees
concrete_trees object [] = none
concrete_trees object (c ∷ cs) = concrete_tree (slice_get object.concretes (c - length object.abstracts)) (concrete_trees object cs)

-- (array NAME COL+)
abbrev pub array_tree : Object → Array → Tree
array_tree object a = list (atom (codes "array") ▸ atom a.name ▸ concrete_trees object a.columns)

-- in the body of an operation the variables are its arguments and its locals
abbrev pub named_in : List (List ℕ) → Operation → Spelled
named_in columns o = named_by columns (with_client (o.arguments ++ o.locals))

-- (assert F*) ON*
abbrev pub outline_trees : Development → Spelled → Option Outline → Trees
outline_trees D by x = list (atom (codes "assert") ▸ formula_trees by (asserts_in x)) ▸ row (map (on_tree D.object D.actions by) (ons_in x))

-- (point NAME INSTR (assert F*) ON*), with this outline
abbrev pub point_tree : Development → Spelled → Point → Option Outline → Tree
point_tree D by p x = list (atom (codes "point") ▸ atom p.name ▸ instruction_tree D.object by p.instruction ▸ outline_trees D by x)

-- the points in the body of operation k; the first of these points has the number p
abbrev pub point_trees : Development → Spelled → ℕ → ℕ → List Point → Trees
point_trees D by k p [] = none
point_trees D by k p (point ∷ points) =
    if point.operation == k then point_tree D by point (slice_get D.outlines p) ▸ point_trees D by k (suc p) points else point_trees D by k (suc p) points

-- (body OP (LOCAL*) POINT+), of operation k
abbrev pub body_with : Development → Spelled → ℕ → Operation → Tree
body_with D by k o = list (atom (codes "body") ▸ atom o.name ▸ list (name_trees o.locals) ▸ point_trees D by k 0 D.object.points)

abbrev pub body_tree : Development → ℕ → Operation → Tree
body_tree D k o = body_with D (named_in (column_names D) o) k o

-- the bodies of these operations; the first of them has the number k
abbrev pub body_trees : Development → ℕ → List Operation → Trees
body_trees D k [] = none
body_trees D k (o ∷ os) = body_tree D k o ▸ body_trees D (suc k) os
