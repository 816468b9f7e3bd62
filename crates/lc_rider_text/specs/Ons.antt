-- What a text reads as where is said what is done at an edge.
use Rattle.std.specs.Prelude.{ℕ, ◌+◌, nat_lt, codes, if◌then◌else◌, List, [], Option, None}
use Rattle.lc_base.specs.Limits.{path_limit}
use Rattle.lc_sexp.specs.Trees.{Tree, Trees, atom, list, none, ◌▸◌, item_count}
use Rattle.lc_object.specs.declared.instr.EdgeKind.{EdgeKind}
use Rattle.lc_reading.specs.Listed.{place_of}
use Rattle.lc_reading.specs.Naming.{use_reading}
use Rattle.lc_reading.specs.Readings.{Reading, fine, wrong, limited, both, behind_reading, listed_reading}
use Rattle.lc_reading.specs.Reserved.{is_action_name}
use Rattle.lc_reading.specs.declared.pass.Pass.TheVariants.{Shape}
use Rattle.lc_term.specs.Syntax.{Term}
use Rattle.lc_text.specs.Names.{Names}
use Rattle.lc_text.specs.Terms.{pair}
use Rattle.lc_rider.specs.Rider.{Rider}
use Rattle.lc_outline.specs.Development.{On}
use Rattle.lc_object_text.specs.Rows.{cons}
use Rattle.lc_rider_text.specs.Known.{Known, Ways, entry_at}
use Rattle.lc_rider_text.specs.Edges.{edge_of, edge_in, edge_reading, is_refused, without}
use Rattle.lc_rider_text.specs.Paths.{path_count}
use Rattle.lc_rider_text.specs.Riders.{riders_reading}
use Rattle.lc_rider_text.specs.Terms.{arguments_reading}
use Rattle.lc_rider_text.specs.declared.edges.Edges.{Edges}

-- the item n, where ACTION is expected: a declared action, and none that is built in
abbrev pub action_use : Known → ℕ → Tree → Reading ℕ
action_use known n (atom w) = if is_action_name w then wrong Shape n else use_reading known.actions n (atom w)
action_use known n (list ts) = wrong Shape n

-- how many terms its call has
abbrev pub arguments_due : Known → Tree → Option ℕ
arguments_due known (atom w) = if is_action_name w then None else entry_at known.parameters (place_of known.actions w)
arguments_due known (list ts) = None

-- ACTION T*: the parts of the list n, numbered from m on
abbrev pub call_parts_reading : Known → Names → ℕ → ℕ → Trees → Reading (ℕ × List Term)
call_parts_reading known names n m none = wrong Shape n
call_parts_reading known names n m (t ▸ ts) = both pair (action_use known m t) (arguments_reading names (arguments_due known t) n (m + item_count t) ts)

-- (ACTION T*)
abbrev pub call_reading : Known → Names → ℕ → Tree → Reading (ℕ × List Term)
call_reading known names n t = listed_reading (call_parts_reading known names) n t

-- the least count of paths that is beyond the limit
abbrev pub path_cap : ℕ
path_cap = 1 + path_limit

-- EDGE (ACTION T*): the items m and n
abbrev pub step_reading : Known → Names → ℕ → Tree → ℕ → Tree → Reading (EdgeKind × (ℕ × List Term))
step_reading known names m t n u = both pair (edge_reading m t) (call_reading known names n u)

abbrev pub the_on : EdgeKind × (ℕ × List Term) → List Rider → On
the_on p riders = record { edge = p.0; action = p.1.0; arguments = p.1.1; riders = riders }

-- EDGE (ACTION T*) RIDER*, at one of these edges, in the body of an operation that goes so, if it is known: the parts of the list
-- n, numbered from m on. Its paths are within their limit
abbrev pub on_parts_reading : Known → Names → Option Ways → Edges → ℕ → ℕ → Trees → Reading On
on_parts_reading known names own edges n m (t ▸ u ▸ ts) =
    if is_refused edges (edge_of t) then wrong Shape n
    else limited (nat_lt path_limit (path_count known own ts)) n
    (both the_on (step_reading known names m t (m + item_count t) u) (riders_reading known names own (m + item_count t + item_count u) ts))
on_parts_reading known names own edges n m _ = wrong Shape n

-- (on EDGE (ACTION T*) RIDER*)
abbrev pub on_reading : Known → Names → Option Ways → Edges → ℕ → Tree → Reading On
on_reading known names own edges n t = behind_reading (codes "on") (on_parts_reading known names own edges) n t

-- ON*: the items from m on, each at an edge that those before it do not name
abbrev pub ons_reading : Known → Names → Option Ways → Edges → ℕ → Trees → Reading (List On)
ons_reading known names own edges m none = fine []
ons_reading known names own edges m (t ▸ ts) =
    both cons (on_reading known names own edges m t) (ons_reading known names own (without edges (edge_in t)) (m + item_count t) ts)
