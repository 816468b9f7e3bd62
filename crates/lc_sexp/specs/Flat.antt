-- What nodes and their letters show.
use Rattle.std.specs.Prelude.{◌≡◌, ℕ, ◌+◌, nat_le, Bool, true, false, List, [], ◌∷◌, map, take, drop, length}
use Rattle.std.specs.List.{list_all}
use Rattle.lc_sexp.specs.Trees.{Trees, none, ◌▸◌, Token}
use Rattle.lc_sexp.specs.TreeCode.{head_tree}
use Rattle.lc_sexp.specs.Text.{are_letters}
use Rattle.lc_sexp.specs.Entries.{Entry, leaf, branch, hole, entries_of_all, first_row, later_rows, laid, holes_from, rows_tokens}
use Rattle.lc_sexp.specs.declared.node.Node.{Node}
use Rattle.lc_sexp.specs.declared.node.Node.TheVariants.{Atom, List as ListOf, Open}

abbrev pub entry_of : List ℕ → Node → Entry
entry_of text (Atom start len) = leaf (take len (drop start text))
entry_of text (ListOf inside) = branch inside
entry_of text Open = hole

abbrev pub entries : List ℕ → List Node → List Entry
entries text nodes = map (entry_of text) nodes

-- the letters of the node lie among the first k
abbrev pub is_within : ℕ → Node → Bool
is_within k (Atom start len) = nat_le (start + len) k
is_within k (ListOf inside) = true
is_within k Open = true

-- the trees that the nodes are, if no list is open
unfoldable pub trees_of : List ℕ → List Node → Trees
trees_of text nodes = first_row (entries text nodes)

-- The nodes are a row of trees.
pub record IsFlat (text : List ℕ) (nodes : List Node) : Type 0 where
  pub whole : entries_of_all (trees_of text nodes) ≡ entries text nodes
  pub within : list_all (is_within (length text)) nodes ≡ true
  pub letters : are_letters text ≡ true

-- the tokens of the nodes, in some of which lists are open
abbrev pub node_tokens : List ℕ → List Node → List Token
node_tokens text nodes = rows_tokens (first_row (entries text nodes)) (later_rows (entries text nodes))

-- The nodes are rows of trees, each in a list that is open, from these places on.
pub record IsUnderWay (text : List ℕ) (start : ℕ) (nodes : List Node) (holes : List ℕ) : Type 0 where
  pub whole : laid (first_row (entries text nodes)) (later_rows (entries text nodes)) ≡ entries text nodes
  pub within : list_all (is_within start) nodes ≡ true
  pub places : holes ≡ holes_from 0 (first_row (entries text nodes)) (later_rows (entries text nodes))

-- The nodes are one tree.
pub record IsOne (text : List ℕ) (nodes : List Node) : Type 0 where
  pub flat : IsFlat text nodes
  pub one : trees_of text nodes ≡ head_tree (trees_of text nodes) ▸ none

-- how many letters the node has
abbrev pub letter_count : Node → ℕ
letter_count (Atom start len) = len
letter_count (ListOf inside) = 0
letter_count Open = 0

-- nodes that are none, or begin with a list that is open
abbrev pub is_rooted : List Node → Bool
is_rooted [] = true
is_rooted (Open ∷ nodes) = true
is_rooted (Atom start len ∷ nodes) = false
is_rooted (ListOf inside ∷ nodes) = false
