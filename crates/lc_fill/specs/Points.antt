-- What is put into points where assertions and calls of actions were left out.
use Rattle.std.specs.Prelude.{ℕ, ◌+◌, Bool, true, false, ◌&&◌, ◌||◌, not, codes, List, [], ◌∷◌, Option, Some, None, if◌then◌else◌}
use Rattle.std.specs.List.{list_any}
use Rattle.lc_sexp.specs.Trees.{Tree, Trees, atom, list, none, ◌▸◌, item_count}
use Rattle.lc_reading.specs.Naming.{text_in}
use Rattle.lc_reading.specs.Parts.{begins}
use Rattle.lc_reading.specs.Words.{is}
use Rattle.lc_fill.specs.Filled.{Filled, Filler, as_is, kept, put, lacking_at, past, each}
use Rattle.lc_fill.specs.Forms.{in_form, section}
use Rattle.lc_fill.specs.Acts.{Acts, call_at, is_lacking}
use Rattle.lc_fill.specs.declared.edge.Edge.{Edge}
use Rattle.lc_fill.specs.declared.edge.Edge.TheVariants.{Next, Then}

-- the text of the first of these, if it is an atom
abbrev pub first_text : Trees → List ℕ
first_text none = []
first_text (t ▸ ts) = text_in t

-- the items of a list
abbrev pub items_within : Tree → Trees
items_within (atom w) = none
items_within (list ts) = ts

-- the items after the first
abbrev pub later : Trees → Trees
later none = none
later (t ▸ ts) = ts

-- the first word of a list
abbrev pub head_of : Tree → List ℕ
head_of t = first_text (items_within t)

-- riders begin with these
abbrev pub is_rider : List ℕ → Bool
is_rider w =
    is w (codes "set") || is w (codes "lin") || is w (codes "lin-other") || is w (codes "note") || is w (codes "lin-by") || is w (codes "lin-other-by")
    || is w (codes "note-by") || is w (codes "when")

-- the item is no call of an action, but a rider: it begins with a rider's word, which names no action
abbrev pub rides : Acts → Tree → Bool
rides a t = is_rider (head_of t) && not (list_any (is (head_of t)) a.names)

-- the first of these is the call of an action
abbrev pub has_call : Acts → Trees → Bool
has_call a none = false
has_call a (t ▸ ts) = not (rides a t)

-- a call is in what is put in before the item n
abbrev pub put_call : Acts → ℕ → Tree → Filled Trees → Filled Trees
put_call a n t r = if is_lacking a n then lacking_at n (put n t r) else put n t r

-- [(ACTION T*)] RIDER*
abbrev pub call_filled : Acts → Filler
call_filled a n ts = if has_call a ts then as_is ts else put_call a n (call_at a n) (as_is ts)

-- (on EDGE [(ACTION T*)] RIDER*)
abbrev pub on_filled : Acts → ℕ → Tree → Filled Tree
on_filled a n t = in_form (codes "on") (past (call_filled a)) n t

-- ---- an edge that stores

-- the edge at which an instruction of this word stores
abbrev pub storing : List ℕ → Option Edge
storing w = if is w (codes "store") || is w (codes "faa") then Some Next else (if is w (codes "cas") then Some Then else None)

abbrev pub edge_word : Edge → List ℕ
edge_word Next = codes "next"
edge_word Then = codes "then"

-- (on EDGE ..), of this edge
abbrev pub is_at : Edge → Tree → Bool
is_at e t = begins (codes "on") t && is (first_text (later (items_within t))) (edge_word e)

abbrev pub names_edge : Edge → Trees → Bool
names_edge e none = false
names_edge e (t ▸ ts) = is_at e t || names_edge e ts

-- the edge, if none of these names it
abbrev pub unless_named : Trees → Option Edge → Option Edge
unless_named ts None = None
unless_named ts (Some e) = if names_edge e ts then None else Some e

-- at the end of a point, (on EDGE (ACTION)) for an edge that stores and has none
abbrev pub closed : Acts → Option Edge → ℕ → Filled Trees
closed a None n = as_is none
closed a (Some e) n = put_call a n (list (atom (codes "on") ▸ atom (edge_word e) ▸ call_at a n ▸ none)) (as_is none)

-- INSTR [(assert F*)] ON*
abbrev pub code_filled : Acts → Filler
code_filled a n none = as_is none
code_filled a n (i ▸ ts) =
    kept i (section (codes "assert") (a.plan.asserts (n + item_count i)) (each (on_filled a) (closed a (unless_named ts (storing (head_of i))))) (n + item_count i) ts)

-- (point NAME INSTR [(assert F*)] ON*)
abbrev pub point_filled : Acts → ℕ → Tree → Filled Tree
point_filled a n t = in_form (codes "point") (past (code_filled a)) n t
