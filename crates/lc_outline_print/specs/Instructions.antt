-- What is printed of an instruction.
use Rattle.std.specs.Prelude.{ℕ, codes, List, ◌∷◌, map}
use Rattle.lc_sexp.specs.Trees.{Tree, Trees, atom, list, none, ◌▸◌, row}
use Rattle.lc_term.specs.Syntax.{Term}
use Rattle.lc_text.specs.Spelling.{Spelled}
use Rattle.lc_text.specs.SpelledTree.{term_tree, formula_tree}
use Rattle.lc_object.specs.Syntax.{Instr, Load, Store, Cas, Set, Faa, If, Return, Object}
use Rattle.lc_outline_print.specs.Naming.{array_name, label}
use Rattle.lc_outline_print.specs.Parts.{term_trees}

abbrev pub local_trees : Spelled → List ℕ → Trees
local_trees by locals = row (map (λ r. atom (by.variable r)) locals)

-- (r T)
abbrev pub assignment_tree : Spelled → ℕ → Term → Tree
assignment_tree by r t = list (atom (by.variable r) ▸ term_tree by 0 t ▸ none)

-- of each local and its value
abbrev pub assignment_trees : Spelled → List ℕ → List Term → Trees
assignment_trees by (r ∷ rs) (t ∷ ts) = assignment_tree by r t ▸ assignment_trees by rs ts
assignment_trees by _ _ = none

-- A T
abbrev pub access_trees : Object → Spelled → ℕ → Term → Trees
access_trees object by a t = atom (array_name object a) ▸ term_tree by 0 t ▸ none

-- L M
abbrev pub label_trees : Object → ℕ → ℕ → Trees
label_trees object l m = atom (label object l) ▸ atom (label object m) ▸ none

-- (load A T (r ..) L), (store A T (T ..) L), (cas A T (T ..) (T ..) L M), (set ((r T) ..) L), (faa A T (r ..) (T ..) L), (if F L M),
-- (return T ..)
abbrev pub instruction_tree : Object → Spelled → Instr → Tree
instruction_tree object by (Load a t rs l) =
    list (atom (codes "load") ▸ atom (array_name object a) ▸ term_tree by 0 t ▸ list (local_trees by rs) ▸ atom (label object l) ▸ none)
instruction_tree object by (Store a t vs l) =
    list (atom (codes "store") ▸ atom (array_name object a) ▸ term_tree by 0 t ▸ list (term_trees by vs) ▸ atom (label object l) ▸ none)
instruction_tree object by (Cas a t old new l m) =
    list (atom (codes "cas") ▸ atom (array_name object a) ▸ term_tree by 0 t ▸ list (term_trees by old) ▸ list (term_trees by new) ▸ label_trees object l m)
instruction_tree object by (Set rs vs l) = list (atom (codes "set") ▸ list (assignment_trees by rs vs) ▸ atom (label object l) ▸ none)
instruction_tree object by (Faa a t rs ds l) =
    list (atom (codes "faa") ▸ atom (array_name object a) ▸ term_tree by 0 t ▸ list (local_trees by rs) ▸ list (term_trees by ds) ▸ atom (label object l) ▸ none)
instruction_tree object by (If f l m) = list (atom (codes "if") ▸ formula_tree by 0 f ▸ label_trees object l m)
instruction_tree object by (Return vs) = list (atom (codes "return") ▸ term_trees by vs)
