-- What a text reads as where a plan is expected.
use Rattle.std.specs.Prelude.{ℕ, ℤ, ◌+◌, codes, if◌then◌else◌, List, [], length, map, slice_get, Option, Some, None, option_map, option_and_then}
use Rattle.lc_sexp.specs.Trees.{Tree, Trees, atom, list, none, ◌▸◌, item_count, item_count_of_all}
use Rattle.lc_reading.specs.Listed.{place_of}
use Rattle.lc_reading.specs.Naming.{use_reading}
use Rattle.lc_reading.specs.Readings.{Reading, fine, flawed, wrong, mapped, both, ended, two_of, behind_reading, listed_reading}
use Rattle.lc_reading.specs.Rows.{each_reading, counted_reading, declared_reading, first_name}
use Rattle.lc_reading.specs.Words.{is}
use Rattle.lc_reading.specs.declared.pass.Pass.TheVariants.{Shape}
use Rattle.lc_text.specs.Terms.{number_reading}
use Rattle.lc_seq.specs.Sequential.{Call}
use Rattle.lc_seq.specs.Specification.{Operation}
use Rattle.lc_outline.specs.Development.{Development}
use Rattle.lc_plan.specs.Limits.{usual_turns}
use Rattle.lc_plan.specs.Numbers.{count_reading, turns_reading, client_reading}
use Rattle.lc_plan.specs.Plans.{Calls, Script, Plan}
use Rattle.lc_plan.specs.declared.calls.Head.{Head}
use Rattle.lc_plan.specs.declared.calls.Head.TheVariants as H

-- the names of operations, in their order
abbrev pub names_of : List Operation → List (List ℕ)
names_of os = map (λ (o : Operation). o.name) os

-- how many numbers the operation takes at this place, if there is one
abbrev pub arity_at : List Operation → Option ℕ → Option ℕ
arity_at os place = option_map (λ (o : Operation). length o.arguments) (option_and_then (slice_get os) place)

-- how many numbers the operation takes that an item names, if it names one
abbrev pub arity_named : List Operation → Tree → Option ℕ
arity_named os (atom w) = arity_at os (place_of (names_of os) w)
arity_named os (list ts) = None

-- n*: the parts of the list n from m on, exactly `count` if that is known
abbrev pub numbers_reading : Option ℕ → ℕ → ℕ → Trees → Reading (List ℤ)
numbers_reading None n m ts = each_reading number_reading m ts
numbers_reading (Some count) n m ts = counted_reading number_reading n count m ts

abbrev pub the_call : ℕ → List ℤ → Call
the_call op numbers = record { op = op; numbers = numbers }

-- OP n*: the parts of the list n, numbered from m on
abbrev pub call_reading : List Operation → ℕ → ℕ → Trees → Reading Call
call_reading os n m none = wrong Shape n
call_reading os n m (t ▸ ts) = both the_call (use_reading (names_of os) m t) (numbers_reading (arity_named os t) n (m + item_count t) ts)

abbrev pub once : ℕ → Call → Calls
once turns call = record { count = 1; turns = turns; call = call }

abbrev pub repeatedly : ℕ × Call → Calls
repeatedly p = record { count = p.0; turns = usual_turns; call = p.1 }

-- TURNS OP n*: the parts of the list n, numbered from m on
abbrev pub upto_reading : List Operation → ℕ → ℕ → Trees → Reading Calls
upto_reading os n m none = wrong Shape n
upto_reading os n m (t ▸ ts) = both once (turns_reading m t) (call_reading os n (m + item_count t) ts)

-- (call OP n*): the item n
abbrev pub call_form_reading : List Operation → ℕ → Tree → Reading Call
call_form_reading os n t = behind_reading (codes "call") (call_reading os) n t

abbrev pub pair : {X Y : Type 0} → X → Y → X × Y
pair x y = (x, y)

-- K (call OP n*): the parts of the list n, numbered from m on
abbrev pub times_parts_reading : List Operation → ℕ → ℕ → Trees → Reading (ℕ × Call)
times_parts_reading os n m (t ▸ u ▸ ts) = two_of pair m t u ts (turns_reading m t) (call_form_reading os (m + item_count t) u)
times_parts_reading os n m _ = wrong Shape n

-- what a step begins with
abbrev pub head_of : List ℕ → Option Head
head_of w =
    if is w (codes "call") then Some H.Call
    else (if is w (codes "upto") then Some H.UpTo
    else (if is w (codes "times") then Some H.Times
    else None))

-- the list n that begins so, whose other parts are numbered from m on
abbrev pub calls_with : List Operation → ℕ → ℕ → Trees → Option Head → Reading Calls
calls_with os n m ts None = wrong Shape n
calls_with os n m ts (Some H.Call) = mapped (once usual_turns) (call_reading os n m ts)
calls_with os n m ts (Some H.UpTo) = upto_reading os n m ts
calls_with os n m ts (Some H.Times) = mapped repeatedly (times_parts_reading os n m ts)

-- (call OP n*), (upto TURNS OP n*) or (times K (call OP n*)): the item n
abbrev pub calls_reading : List Operation → ℕ → Tree → Reading Calls
calls_reading os n (list (atom w ▸ ts)) = calls_with os n (n + 2) ts (head_of w)
calls_reading os n _ = wrong Shape n

abbrev pub the_script : ℕ → List Calls → Script
the_script client calls = record { client = client; calls = calls }

-- C STEP*: the parts of the list n, numbered from m on
abbrev pub script_parts_reading : List Operation → ℕ → List (List ℕ) → ℕ → ℕ → Trees → Reading Script
script_parts_reading os clients before n m none = wrong Shape n
script_parts_reading os clients before n m (t ▸ ts) = both the_script (client_reading clients before m t) (each_reading (calls_reading os) (m + item_count t) ts)

-- (C STEP*): the item n, after the scripts of these clients
abbrev pub script_reading : List Operation → ℕ → List (List ℕ) → ℕ → Tree → Reading Script
script_reading os clients before n t = listed_reading (script_parts_reading os clients before) n t

-- (C STEP*)*: the items from m on
abbrev pub scripts_reading : List Operation → ℕ → ℕ → Trees → Reading (List Script)
scripts_reading os clients m ts = declared_reading (script_reading os clients) first_name [] m ts

-- (phase (C STEP*)*): the item n
abbrev pub phase_reading : List Operation → ℕ → ℕ → Tree → Reading (List Script)
phase_reading os clients n t = behind_reading (codes "phase") (λ n m ts. scripts_reading os clients m ts) n t

-- The number of clients, if one is read. If it is wrong, that is reported before what clients are wrong
abbrev pub count_in : Reading ℕ → ℕ
count_in (fine k) = k
count_in (flawed f) = 0

abbrev pub the_plan : ℕ → List (List Script) → Plan
the_plan clients phases = record { clients = clients; phases = phases }

-- CLIENTS (phase ..)*: the parts of the list n, numbered from m on
abbrev pub plan_parts_reading : List Operation → ℕ → ℕ → Trees → Reading Plan
plan_parts_reading os n m none = wrong Shape n
plan_parts_reading os n m (t ▸ ts) = both the_plan (count_reading m t) (each_reading (phase_reading os (count_in (count_reading m t))) (m + item_count t) ts)

-- (plan CLIENTS (phase ..)*): the item n
abbrev pub form_reading : List Operation → ℕ → Tree → Reading Plan
form_reading os n t = behind_reading (codes "plan") (plan_parts_reading os) n t

-- one part from m on of the list n, and no other
abbrev pub only_reading : List Operation → ℕ → ℕ → Trees → Reading Plan
only_reading os n m none = wrong Shape n
only_reading os n m (t ▸ ts) = ended (m + item_count t) ts (form_reading os m t)

-- a plan for this development: the form of the file, and no other. A missing one is reported at the number of items
abbrev pub plan_reading : Development → Trees → Reading Plan
plan_reading D ts = only_reading D.specification.operations (item_count_of_all ts) 0 ts
