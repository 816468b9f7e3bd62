-- How many conditions a development has, by its text: lists are counted, and names have places; nothing else is read.
use Rattle.std.specs.Prelude.{ℕ, zero, suc, ◌+◌, ◌*◌, codes, if◌then◌else◌, List, [], ◌∷◌, ◌++◌, map, length, sum, sum_by, take, slice_get, slice_index_or, Option, Some, None}
use Rattle.lc_sexp.specs.TreeCode.{tree_count}
use Rattle.lc_sexp.specs.Trees.{Trees, none, ◌▸◌}
use Rattle.lc_reading.specs.Listed.{place_of}
use Rattle.lc_reading.specs.Words.{is}
use Rattle.lc_term.specs.SystemColumns.{pend, rep_columns, noted, note_columns}
use Rattle.lc_object.specs.WellFormed.{numbers_from}
use Rattle.lc_object.specs.declared.instr.EdgeKind.{EdgeKind}
use Rattle.lc_object.specs.declared.instr.EdgeKind.TheVariants.{Next, Then, Else}
use Rattle.lc_object_text.specs.ObjectNames.{Declared, Body, Span, text_in, first_text, items_within, within_first, later, parts_in_first, points_in}
use Rattle.lc_object_text.specs.Sections.{Sections, parts_in, forms_in}
use Rattle.lc_rider_text.specs.Scopes.{column_place}
use Rattle.lc_outline.specs.Sizes.{Way, no_way, way_count}
use Rattle.lc_outline_text.specs.Declarations.{Declarations, branches_in, choices_in, form_at}
use Rattle.lc_outline.specs.EdgeWords.{edge_word}
use Rattle.lc_outline_text.specs.Needs.{goes_next, branches_off, stores}

-- ---- columns that are stored in

abbrev pub listed : Option ℕ → List ℕ
listed None = []
listed (Some k) = k ∷ []

-- the column of a name, if there is one
abbrev pub column_named : List (List ℕ) → List ℕ → List ℕ
column_named columns w = listed (column_place columns w)

-- those of (COLUMN ..) (COLUMN ..) ..
abbrev pub columns_stored : List (List ℕ) → Trees → List ℕ
columns_stored columns none = []
columns_stored columns (t ▸ ts) = column_named columns (first_text (items_within t)) ++ columns_stored columns ts

-- of a branch F (UPDATE ..) (T ..), by which a call is settled
abbrev pub columns_settled : List (List ℕ) → Trees → List ℕ
columns_settled columns ts =
    columns_stored columns (within_first (later ts)) ++ take (tree_count (within_first (later (later ts)))) (rep_columns (length columns)) ++ pend (length columns) ∷ []

-- of a branch by which the replies of a call are noted
abbrev pub columns_noted : List (List ℕ) → Trees → List ℕ
columns_noted columns ts = noted (length columns) ∷ take (tree_count (within_first (later (later ts)))) (note_columns (length columns))

-- ---- the ways in which a rider is passed

-- one for each of these branches
abbrev pub mark_ways : (Trees → List ℕ) → ℕ → Trees → List Way
mark_ways stored asked none = []
mark_ways stored asked (b ▸ bs) = record { asked = asked; columns = stored (parts_in (codes "branch") b) } ∷ mark_ways stored asked bs

-- what comes after the name and the parameters of the choice of this name of an operation: F (UPDATE ..) (T ..)
abbrev pub choice_named : Trees → List ℕ → Trees
choice_named ts w = later (later (form_at (choices_in ts) (place_of (map first_text (choices_in ts)) w)))

-- the one for this choice
abbrev pub choice_ways : (Trees → List ℕ) → ℕ → Trees → List Way
choice_ways stored asked ts = record { asked = asked; columns = stored ts } ∷ []

-- The call that is marked is pending, and a branch is enabled. Of another client's call it is asked too that it is one of the
-- operation that is named; of a note that the branch stores nothing
abbrev pub ways_with : Declarations → ℕ → List ℕ → Trees → List Way
ways_with d o w ts =
    let settled = columns_settled d.declared.columns in
    let noted = columns_noted d.declared.columns in
    let own = form_at d.operations (Some o) in
    let other = form_at d.operations (place_of d.declared.operations (first_text (later ts))) in
    if is w (codes "set") then record { asked = 0; columns = column_named d.declared.columns (first_text ts) } ∷ []
    else (if is w (codes "lin") then mark_ways settled 2 (branches_in own)
    else (if is w (codes "lin-other") then mark_ways settled 3 (branches_in other)
    else (if is w (codes "note") then mark_ways noted 3 (branches_in own)
    else (if is w (codes "lin-by") then choice_ways settled 2 (choice_named own (first_text ts))
    else (if is w (codes "lin-other-by") then choice_ways settled 3 (choice_named other (first_text (later (later ts))))
    else (if is w (codes "note-by") then choice_ways noted 3 (choice_named own (first_text ts))
    else []))))))

abbrev pub deed_ways : Declarations → ℕ → Trees → List Way
deed_ways d o ts = ways_with d o (first_text ts) (later ts)

-- of a `when` also that its condition does not hold
abbrev pub rider_ways : Declarations → ℕ → Trees → List Way
rider_ways d o ts =
    if is (first_text ts) (codes "when") then deed_ways d o (within_first (later (later ts))) ++ no_way ∷ [] else deed_ways d o ts

abbrev pub all_ways : Declarations → ℕ → Trees → List (List Way)
all_ways d o none = []
all_ways d o (t ▸ ts) = rider_ways d o (items_within t) ∷ all_ways d o ts

-- ---- the conditions of an edge

-- the `on` of the edge of this word, EDGE (ACTION ..) RIDER ..: what comes after EDGE
abbrev pub on_of : List ℕ → List Trees → Option Trees
on_of word [] = None
on_of word (ts ∷ ons) = if is (first_text ts) word then Some (later ts) else on_of word ons

-- the columns in which an action stores
abbrev pub columns_acted : Declarations → List ℕ → List ℕ
columns_acted d w = columns_stored d.declared.columns (later (later (later (form_at d.actions (place_of (map first_text d.actions) w)))))

-- if an edge has no `on`, nothing is done beside it
abbrev pub edge_conditions : Declarations → ℕ → Option Trees → ℕ → List ℕ → ℕ
edge_conditions d o None asked columns = asked
edge_conditions d o (Some ts) asked columns = way_count (Some (columns_acted d (first_text (within_first ts)))) (all_ways d o (later ts)) asked columns

-- ---- points

-- a point NAME INSTR (assert F ..) ON ..
abbrev pub assert_count : Trees → ℕ
assert_count ts = tree_count (parts_in_first (codes "assert") (later (later ts)))

abbrev pub ons_of : Trees → List Trees
ons_of ts = forms_in (codes "on") (later (later (later ts)))

-- how many conjuncts hold where a label leads, in a body with these labels and these counts at its points
abbrev pub count_at : List ℕ → Option ℕ → ℕ
count_at counts None = 0
count_at counts (Some k) = slice_index_or counts k 0

abbrev pub reached : Body → List ℕ → List ℕ → ℕ
reached b asserts w = count_at asserts (place_of b.labels w)

abbrev pub columns_of_span : Option Span → List ℕ
columns_of_span None = []
columns_of_span (Some span) = numbers_from span.first span.width

abbrev pub span_at : List Span → Option ℕ → Option Span
span_at spans None = None
span_at spans (Some k) = slice_get spans k

-- the columns of an array
abbrev pub array_columns : Declared → List ℕ → List ℕ
array_columns d w = columns_of_span (span_at d.spans (place_of d.arrays w))

-- the part of this number
abbrev pub text_at : ℕ → Trees → List ℕ
text_at n none = []
text_at zero (t ▸ ts) = text_in t
text_at (suc n) (t ▸ ts) = text_at n ts

-- how many hold in all states, and when a client is idle; and how many actions may be done by others, with those by which calls
-- begin and end
pub record Totals : Type 0 where
  pub invariant : ℕ
  pub idle : ℕ
  pub actions : ℕ

-- the part of an instruction of this word that is the label to which this edge leads
abbrev pub label_place : List ℕ → EdgeKind → ℕ
label_place w Next = if is w (codes "set") then 2 else (if is w (codes "faa") then 5 else 4)
label_place w Then = if is w (codes "cas") then 5 else 2
label_place w Else = if is w (codes "cas") then 6 else 3

-- how many have to hold after an edge. After a return it is asked too that it gives what was replied
abbrev pub asked_behind : Totals → Body → List ℕ → List ℕ → EdgeKind → Trees → ℕ
asked_behind n b asserts w kind code =
    n.invariant + (if is w (codes "return") then 1 + n.idle else reached b asserts (text_at (label_place w kind) code))

-- the columns in which the instruction itself stores there
abbrev pub columns_written : Declared → List ℕ → EdgeKind → Trees → List ℕ
columns_written d w kind code =
    if is w (codes "return") then pend (length d.columns) ∷ [] else (if stores w kind then array_columns d (text_at 1 code) else [])

-- the conditions of one edge of a point NAME INSTR ASSERT ON .., in the body of the o-th operation
abbrev pub kind_conditions : Declarations → Totals → ℕ → Body → List ℕ → Trees → EdgeKind → ℕ
kind_conditions d n o b asserts ts kind =
    let code = within_first (later ts) in
    edge_conditions d o (on_of (edge_word kind) (ons_of ts)) (asked_behind n b asserts (first_text code) kind code) (columns_written d.declared (first_text code) kind code)

abbrev pub point_conditions : Declarations → Totals → ℕ → Body → List ℕ → Trees → ℕ
point_conditions d n o b asserts ts =
    let w = first_text (within_first (later ts)) in
    (if goes_next w then kind_conditions d n o b asserts ts Next else 0)
    + (if branches_off w then kind_conditions d n o b asserts ts Then + kind_conditions d n o b asserts ts Else else 0)

-- ---- the whole

-- of a body OP (LOCAL ..) POINT ..: where its call begins, at its edges, and that what holds at its points stays under each action
abbrev pub body_conditions : Declarations → Totals → ℕ → Body → Trees → ℕ
body_conditions d n o b ts =
    let asserts = map assert_count (points_in ts) in
    n.invariant + count_at asserts (Some 0) + sum_by (point_conditions d n o b asserts) (points_in ts) + sum asserts * n.actions

abbrev pub bodies_conditions : Declarations → Totals → ℕ → List Body → Trees → ℕ
bodies_conditions d n o (b ∷ bs) (t ▸ ts) = body_conditions d n o b (parts_in (codes "body") t) + bodies_conditions d n (suc o) bs ts
bodies_conditions d n o _ _ = 0

abbrev pub totals_of : Declarations → Sections → Totals
totals_of d s = record {
  invariant = tree_count (parts_in_first (codes "invariant") s.invariant.trees);
  idle = tree_count (parts_in_first (codes "idle") (later s.invariant.trees));
  actions = 2 + length d.actions;
}

-- At the start, in the bodies, and that what holds of idle clients stays under each action
abbrev pub condition_count : Declarations → Sections → ℕ
condition_count d s =
    let n = totals_of d s in
    n.invariant + n.idle + bodies_conditions d n 0 d.declared.bodies s.bodies.trees + n.idle * n.actions
