-- What is printed of a specification.
use Rattle.std.specs.Prelude.{ℕ, codes, List, ◌++◌, map}
use Rattle.std.specs.Fmt.{decimal}
use Rattle.lc_sexp.specs.Trees.{Tree, Trees, atom, list, none, ◌▸◌, row}
use Rattle.lc_text.specs.Spelling.{Spelled}
use Rattle.lc_text.specs.SpelledTree.{formula_tree}
use Rattle.lc_seq.specs.Sequential.{Chosen, InOrder, ByName, given_in}
use Rattle.lc_seq.specs.Specification.{Column, Branch, Operation, Specification}
use Rattle.lc_outline_print.specs.Naming.{with_client, named_by}
use Rattle.lc_outline_print.specs.Parts.{name_trees, term_trees, column_tree, update_trees}

-- (NAME a b), of an abstract or auxiliary column
abbrev pub declared_tree : Column → Tree
declared_tree c = column_tree c.name c.slope c.start

-- F (UPDATE*) (T*)
abbrev pub branch_parts : Spelled → Branch → Trees
branch_parts by b = formula_tree by 0 b.guard ▸ list (update_trees by b.updates) ▸ list (term_trees by b.replies) ▸ none

-- these, after the word of a branch, or after the word, the name and the parameters of a choice
abbrev pub labelled : Chosen (List ℕ) → Trees → Trees
labelled InOrder ts = atom (codes "branch") ▸ ts
labelled (ByName name parameters) ts = atom (codes "choice") ▸ atom name ▸ list (name_trees parameters) ▸ ts

-- (branch F (UPDATE*) (T*)), or (choice NAME (PARAM*) F (UPDATE*) (T*))
abbrev pub branch_with : Spelled → Branch → Tree
branch_with by b = list (labelled b.label (branch_parts by b))

-- the same, of an operation of these arguments, with columns by these names
abbrev pub branch_tree : List (List ℕ) → List (List ℕ) → Branch → Tree
branch_tree columns arguments b = branch_with (named_by columns (with_client (arguments ++ given_in b.label))) b

-- (op NAME (ARG*) REPLIES BRANCH+), or with CHOICE+, with columns by these names
abbrev pub operation_tree : List (List ℕ) → Operation → Tree
operation_tree columns o =
    list (atom (codes "op") ▸ atom o.name ▸ list (name_trees o.arguments) ▸ atom (decimal o.replies) ▸ row (map (branch_tree columns o.arguments) o.branches))

-- (spec NAME (abstract COL*) OP+)
abbrev pub specification_tree : List (List ℕ) → Specification → Tree
specification_tree columns s =
    list (atom (codes "spec") ▸ atom s.name ▸ list (atom (codes "abstract") ▸ row (map declared_tree s.columns)) ▸ row (map (operation_tree columns) s.operations))
