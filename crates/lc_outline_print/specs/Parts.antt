-- What is printed of the parts of a development that several of its forms have.
use Rattle.std.specs.Prelude.{ℕ, ℤ, List, map}
use Rattle.std.specs.Fmt.{signed_decimal}
use Rattle.lc_sexp.specs.Trees.{Tree, Trees, atom, list, none, ◌▸◌, row}
use Rattle.lc_term.specs.Syntax.{Term, Formula}
use Rattle.lc_term.specs.Updates.{Update}
use Rattle.lc_text.specs.Spelling.{Spelled}
use Rattle.lc_text.specs.SpelledTree.{term_tree, formula_tree}

abbrev pub name_trees : List (List ℕ) → Trees
name_trees names = row (map atom names)

abbrev pub term_trees : Spelled → List Term → Trees
term_trees by ts = row (map (term_tree by 0) ts)

abbrev pub formula_trees : Spelled → List Formula → Trees
formula_trees by fs = row (map (formula_tree by 0) fs)

-- (NAME a b)
abbrev pub column_tree : List ℕ → ℤ → ℤ → Tree
column_tree name slope start = list (atom name ▸ atom (signed_decimal slope) ▸ atom (signed_decimal start) ▸ none)

-- COLUMN T T
abbrev pub update_parts : Spelled → Update → Trees
update_parts by u = atom (by.column u.column) ▸ term_tree by 0 u.index ▸ term_tree by 0 u.value ▸ none

-- (COLUMN T T)
abbrev pub update_tree : Spelled → Update → Tree
update_tree by u = list (update_parts by u)

abbrev pub update_trees : Spelled → List Update → Trees
update_trees by us = row (map (update_tree by) us)
