-- The edges that may have an `on`.
use Rattle.std.specs.Prelude.{ℕ, Bool, false, not, Option, Some, None}
use Rattle.lc_sexp.specs.Trees.{Tree, atom, list, ◌▸◌}
use Rattle.lc_object.specs.declared.instr.EdgeKind.{EdgeKind}
use Rattle.lc_object.specs.declared.instr.EdgeKind.TheVariants.{Next, Then, Else}
use Rattle.lc_reading.specs.Readings.{Reading, fine, wrong}
use Rattle.lc_reading.specs.declared.pass.Pass.TheVariants.{Shape}
use Rattle.lc_rider_text.specs.Heads.{kind_of}
use Rattle.lc_rider_text.specs.declared.edges.Edges.{Edges}

-- this edge is one of them
abbrev pub has : Edges → EdgeKind → Bool
has edges Next = edges.next
has edges Then = edges.holds
has edges Else = edges.fails

-- the others
abbrev pub without : Edges → Option EdgeKind → Edges
without edges None = edges
without edges (Some Next) = record edges { next = false }
without edges (Some Then) = record edges { holds = false }
without edges (Some Else) = record edges { fails = false }

-- the edge that an item names, if it does
abbrev pub edge_of : Tree → Option EdgeKind
edge_of (atom w) = kind_of w
edge_of (list ts) = None

-- the edge of (on EDGE ..)
abbrev pub edge_in : Tree → Option EdgeKind
edge_in (list (t ▸ u ▸ ts)) = edge_of u
edge_in _ = None

-- it names an edge that may have none
abbrev pub is_refused : Edges → Option EdgeKind → Bool
is_refused edges (Some kind) = not (has edges kind)
is_refused edges None = false

abbrev pub found_edge : ℕ → Option EdgeKind → Reading EdgeKind
found_edge n (Some kind) = fine kind
found_edge n None = wrong Shape n

-- the item n, where EDGE is expected
abbrev pub edge_reading : ℕ → Tree → Reading EdgeKind
edge_reading n t = found_edge n (edge_of t)
