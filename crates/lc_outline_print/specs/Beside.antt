-- What is printed for what is beside the code: actions, the invariant, riders, and what is at the edges.
use Rattle.std.specs.Prelude.{ℕ, codes, List, [], ◌∷◌, ◌++◌, Option, Some, None, map}
use Rattle.lc_sexp.specs.Trees.{Tree, Trees, atom, list, none, ◌▸◌, row}
use Rattle.lc_term.specs.Syntax.{Term, Formula}
use Rattle.lc_text.specs.Spelling.{Spelled}
use Rattle.lc_text.specs.SpelledTree.{term_tree, formula_tree}
use Rattle.lc_object.specs.Syntax.{Object}
use Rattle.lc_action.specs.Action.{Action}
use Rattle.lc_seq.specs.Sequential.{Chosen, InOrder, ByName}
use Rattle.lc_rider.specs.Rider.{Deed, Assign, Marks, Marking, Own, Other, Note, Rider}
use Rattle.lc_tie.specs.Tie.{Conjunct}
use Rattle.lc_outline.specs.Development.{On}
use Rattle.lc_outline.specs.EdgeWords.{edge_word}
use Rattle.lc_outline_print.specs.Naming.{with_client, named_by, operation_name, action_name}
use Rattle.lc_outline_print.specs.Parts.{name_trees, term_trees, update_parts, update_trees}

-- (action NAME (PARAM*) F UPDATE*), with columns by these names
abbrev pub action_tree : List (List ℕ) → Action → Tree
action_tree columns a =
    let by = named_by columns (with_client a.parameters) in
    list (atom (codes "action") ▸ atom a.name ▸ list (name_trees a.parameters) ▸ formula_tree by 0 a.guard ▸ update_trees by a.updates)

-- (NAME F), where N is the one variable
abbrev pub conjunct_tree : List (List ℕ) → Conjunct → Tree
conjunct_tree columns c = list (atom c.name ▸ formula_tree (named_by columns (codes "N" ∷ [])) 0 c.formula ▸ none)

-- the word of a mark, which says whether a choice is named
abbrev pub mark_word : List ℕ → Chosen Term → List ℕ
mark_word word InOrder = word
mark_word word (ByName name ts) = word ++ codes "-by"

-- NAME T*, of a choice that is named
abbrev pub choice_trees : Spelled → Chosen Term → Trees
choice_trees by InOrder = none
choice_trees by (ByName name ts) = atom name ▸ term_trees by ts

-- (lin), (lin-other T OP), (note), or (lin-by NAME T*), (lin-other-by T OP NAME T*), (note-by NAME T*)
abbrev pub marking_tree : Object → Spelled → Marking → Chosen Term → Tree
marking_tree object by Own choice = list (atom (mark_word (codes "lin") choice) ▸ choice_trees by choice)
marking_tree object by (Other client o) choice =
    list (atom (mark_word (codes "lin-other") choice) ▸ term_tree by 0 client ▸ atom (operation_name object o) ▸ choice_trees by choice)
marking_tree object by Note choice = list (atom (mark_word (codes "note") choice) ▸ choice_trees by choice)

-- (set COLUMN T T), or a mark
abbrev pub deed_tree : Object → Spelled → Deed → Tree
deed_tree object by (Assign u) = list (atom (codes "set") ▸ update_parts by u)
deed_tree object by (Marks m choice) = marking_tree object by m choice

-- (when F RIDER), or the rider alone
abbrev pub conditional_tree : Spelled → Option Formula → Tree → Tree
conditional_tree by None rider = rider
conditional_tree by (Some f) rider = list (atom (codes "when") ▸ formula_tree by 0 f ▸ rider ▸ none)

abbrev pub rider_tree : Object → Spelled → Rider → Tree
rider_tree object by r = conditional_tree by r.condition (deed_tree object by r.deed)

-- (on EDGE (ACTION T*) RIDER*)
abbrev pub on_tree : Object → List Action → Spelled → On → Tree
on_tree object actions by x =
    list (atom (codes "on") ▸ atom (edge_word x.edge) ▸ list (atom (action_name actions x.action) ▸ term_trees by x.arguments) ▸ row (map (rider_tree object by) x.riders))
