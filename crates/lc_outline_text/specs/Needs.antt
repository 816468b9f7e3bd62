-- The edges of instructions, and which of them need an `on`.
use Rattle.std.specs.Prelude.{ℕ, Bool, false, not, ◌&&◌, ◌||◌, codes, List}
use Rattle.std.specs.List.{list_any}
use Rattle.lc_sexp.specs.Trees.{Tree, Trees, ◌▸◌}
use Rattle.lc_object.specs.declared.instr.EdgeKind.{EdgeKind}
use Rattle.lc_object.specs.declared.instr.EdgeKind.TheVariants.{Next, Then, Else}
use Rattle.lc_outline.specs.EdgeWords.{edge_word}
use Rattle.lc_object_text.specs.ObjectNames.{text_in, first_text, items_within}
use Rattle.lc_reading.specs.Reserved.{is_action_name}
use Rattle.lc_reading.specs.Words.{is}
use Rattle.lc_rider_text.specs.declared.edges.Edges.{Edges}

-- the word of an instruction; no text if it has none
abbrev pub code_word : Tree → List ℕ
code_word t = first_text (items_within t)

-- an instruction of this word has one edge; or two, one for when it holds and one for when it fails
abbrev pub goes_next : List ℕ → Bool
goes_next w = is w (codes "load") || is w (codes "store") || is w (codes "faa") || is w (codes "set") || is w (codes "return")

abbrev pub branches_off : List ℕ → Bool
branches_off w = is w (codes "cas") || is w (codes "if")

abbrev pub edges_of : List ℕ → Edges
edges_of w = record { next = goes_next w; holds = branches_off w; fails = branches_off w }

-- it stores at this edge
abbrev pub stores : List ℕ → EdgeKind → Bool
stores w Next = is w (codes "store") || is w (codes "faa")
stores w Then = is w (codes "cas")
stores w Else = false

-- EDGE (ACTION ..) RIDER RIDER ..: a rider at this edge
abbrev pub rides : List ℕ → Trees → Bool
rides word (t ▸ u ▸ v ▸ ts) = is (text_in t) word
rides word _ = false

-- EDGE (ACTION ..) ..: one of these actions, which is not built in, is named at this edge
abbrev pub acts : List (List ℕ) → List ℕ → Trees → Bool
acts actions word (t ▸ u ▸ ts) = is (text_in t) word && list_any (is (first_text (items_within u))) actions && not (is_action_name (first_text (items_within u)))
acts actions word _ = false

-- this edge is to have an `on` that names a declared action, and none of these is one. An edge that stores is to have one, and
-- so is an edge with a rider
abbrev pub lacks_at : List (List ℕ) → List ℕ → List Trees → EdgeKind → Bool
lacks_at actions w ons kind = (stores w kind || list_any (rides (edge_word kind)) ons) && not (list_any (acts actions (edge_word kind)) ons)

-- the same for some edge of an instruction of this word
abbrev pub lacks_on : List (List ℕ) → List ℕ → List Trees → Bool
lacks_on actions w ons =
    goes_next w && lacks_at actions w ons Next || branches_off w && (lacks_at actions w ons Then || lacks_at actions w ons Else)
