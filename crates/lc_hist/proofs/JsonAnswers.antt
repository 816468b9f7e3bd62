-- What is returned for JSON texts.
use Rattle.std.proofs.Common.{◌≡◌, ℕ, ℤ, zero, suc, ◌+◌, ◌<◌, ◌≤◌, ◌==◌, eqb-true, Bool, true, false, List, [], ◌∷◌, ◌++◌, Option, None, option_and_then, Some, Result, Ok, Err, MatchResult, take, length, refl, ap, sym, subst, ◌∙◌, arith, inr}
use Rattle.std.specs.Prelude.{is_some, if◌then◌else◌, Vec}
use Rattle.std.specs.declared.alloc.Global.{Global}
use Rattle.std.proofs.lemmas.List.{length-append}
use Rattle.serde_json.specs.Data.{Data, Members}
use Rattle.serde_json.specs.Events.{members_len}
use Rattle.serde_json.specs.Find.{as_object}
use Rattle.serde_json.specs.Read.{read}
use Rattle.lc_lemmas.proofs.Lists.{get_last, get_in_front}
use Rattle.lc_base.specs.declared.refusal.Fault.{Fault}
use Rattle.lc_base.specs.declared.refusal.Fault.TheVariants.{Refused, OutOfMemory}
use Rattle.lc_base.specs.declared.refusal.Refusal.TheVariants.{HistoryShape}
use Rattle.lc_seq.specs.Specification.{Operation}
use Rattle.lc_history.specs.History.{Event, Entry}
use Rattle.lc_seq.specs.declared.choice.Pick.{Pick}
use Rattle.lc_seq.specs.declared.text_call.TextCall.{TextCall}
use Rattle.lc_history.specs.Histories.{events_in}
use Rattle.lc_history.specs.declared.event.Done.{Done}
use Rattle.lc_history.specs.declared.history.History.{History}
use Rattle.lc_hist.specs.JsonHistories.{Parts, parts_of, parts_in, IsNext, AreNext, AreEvents, HasParts, IsRefusedAt, IsWrongItem, IsHistoryOf, SaysHistory}
use Rattle.lc_history.specs.View.{entries_view}
use Rattle.lc_hist.specs.JsonRecorded.{recorded_of as recorded_parts, recorded_in, HasRecorded, SaysRecorded, IsWrongRecordedItem, IsRecordedOf}
use Rattle.lc_hist.specs.JsonSeen.{HasValue, AreInParts, IsWrongInParts, IsWrongEventItem, IsWrongEntryItem}
use Rattle.lc_hist.specs.JsonValues.{all_in, event_in, entry_in}
use Rattle.lc_history.specs.WellFormed.{IsInTurn, IsWellFormed}
use Rattle.lc_hist.proofs.JsonEvents.{take_front}
use Rattle.lc_hist.proofs.JsonLists.{stands_behind, all_in-length}
use Rattle.lc_history.proofs.Turns.{IsFront, front_next, well_formed}

-- a refusal about which more is known
pub refused_weaker : (P Q : ℕ → Type 0) (fault : Fault) → ((item : ℕ) → P item → Q item) → IsRefusedAt P fault → IsRefusedAt Q fault
refused_weaker P Q (Refused (HistoryShape item)) weaker h = weaker item h
refused_weaker P Q (Refused refusal) weaker h = h
refused_weaker P Q OutOfMemory weaker h = tt

-- the first wrong entry, after those that are read
pub wrong_entry : (operations : List Operation) (ds all rest : List Data) (before item : ℕ) (d : Data) (entries : List Entry) → ds ++ d ∷ rest ≡ all → all_in (entry_in operations) ds ≡ Some entries
    → entry_in operations d ≡ None → item ≡ before + length entries → IsWrongEntryItem operations all before item
wrong_entry operations ds all rest before item d entries is right wrong at = (
  length ds,
  record { value = d; stands = stands_behind ds d rest all is; right = rw (← is, take_front) (ap is_some right); wrong = wrong },
  omega (arith, all_in-length (entry_in operations) ds entries right),
)

count_behind : (operations : List Operation) (before : List Event) (ds : List Data) (all : List Event) → AreNext operations before ds all → length all ≡ length before + length ds
count_behind operations before [] all are = let size = ap length are in omega arith
count_behind operations before (d ∷ ds) all are =
    let more = count_behind operations (before ++ are.0 ∷ []) ds all are.2 in
    omega (arith, length-append before (are.0 ∷ []))

-- as many events as values
pub count_of_events : (operations : List Operation) (ds : List Data) (all : List Event) → AreEvents operations ds all → length all ≡ length ds
count_of_events operations ds all are = let count = count_behind operations [] ds all are in omega arith

-- the first wrong event, after those that are read
pub wrong_event : (operations : List Operation) (ds all rest : List Data) (item : ℕ) (d : Data) (events : List Event) → ds ++ d ∷ rest ≡ all → AreEvents operations ds events
    → ((e : Event) → IsNext operations events d e → ⊥) → item ≡ 1 + length events → IsWrongEventItem operations all item
wrong_event operations ds all rest item d events is right wrong at = (
  length ds,
  record { value = d; stands = stands_behind ds d rest all is; before = events; right = rw (← is, take_front) right; wrong = wrong },
  omega (arith, count_of_events operations ds events right),
)

pub no_form : (operations : List Operation) (events : List Event) (d : Data) → event_in operations d ≡ None → (e : Event) → IsNext operations events d e → ⊥
no_form operations events d none e next = let form = next.form in absurd (cc (none, form))

front_take : {A : Type 0} (xs ys : List A) (i : ℕ) → i < length xs → take i (xs ++ ys) ≡ take i xs
front_take [] ys i lt = absurd (omega arith)
front_take (x ∷ xs) ys zero lt = refl
front_take (x ∷ xs) ys (suc i) lt = ap (λ zs. x ∷ zs) (front_take xs ys i (omega arith))

last_length : {A : Type 0} (xs : List A) (y : A) → length (xs ++ y ∷ []) ≤ length xs + 1
last_length [] y = omega arith
last_length (x ∷ xs) y = let h = last_length xs y in omega arith

-- one event more that is in turn
pub well_formed_next : (events : List Event) (e : Event) → IsWellFormed events → IsInTurn events e → IsWellFormed (events ++ e ∷ [])
well_formed_next events e formed turn =
    let all = events ++ e ∷ [] in
    let front : IsFront all (length events) = λ j f lt at.
    subst (λ h. IsInTurn h f) (sym (front_take events (e ∷ []) j lt)) (formed.in_turn j f (sym (get_in_front events (e ∷ []) j lt) ∙ at)) in
    let here = subst (λ h. IsInTurn h e) (sym (take_front events (e ∷ []))) turn in
    well_formed all (length events + 1) (front_next all (length events) e front (get_last events e) here) (last_length events e)

pub formed_by : (operations : List Operation) (before : List Event) (ds : List Data) (all : List Event) → IsWellFormed before → AreNext operations before ds all → IsWellFormed all
formed_by operations before [] all formed are = subst IsWellFormed are formed
formed_by operations before (d ∷ ds) all formed are =
    formed_by operations (before ++ are.0 ∷ []) ds all (well_formed_next before are.0 formed are.1.turn) are.2

no_events : IsWellFormed []
no_events = record { in_turn = λ i e at. absurd cc }

-- events of a text are in turn
pub events_are_formed : (operations : List Operation) (ds : List Data) (all : List Event) → AreEvents operations ds all → IsWellFormed all
events_are_formed operations ds all are = formed_by operations [] ds all no_events are

-- the parts of a text of this value
pub has_parts : (bytes : List ℕ) (d : Data) (parts : Parts) → HasValue bytes d → Some parts ≡ parts_in d → HasParts bytes parts
has_parts bytes d parts value is = record { limit = value.limit; utf8 = value.utf8; reads = ap (option_and_then parts_in) value.reads ∙ sym is }

pub has_recorded : (bytes : List ℕ) (d : Data) (parts : Parts) → HasValue bytes d → Some parts ≡ recorded_in d → HasRecorded bytes parts
has_recorded bytes d parts value is = record { limit = value.limit; utf8 = value.utf8; reads = ap (option_and_then recorded_in) value.reads ∙ sym is }

-- a wrong entry after right events is the first wrong item
pub wrong_in_order : (operations : List Operation) (parts : Parts) (events : List Event) (before : ℕ) → AreEvents operations parts.events events → before ≡ 1 + length parts.events → (item : ℕ) → IsWrongEntryItem operations parts.order before item
    → IsWrongInParts operations parts item
wrong_in_order operations parts events before right count item wrong = inr (events, wrong.0, right, wrong.1, omega (arith, wrong.2))

abbrev Read : Type 0
Read = History × Vec (Done TextCall Pick (Vec ℤ Global)) Global

-- what is returned for the parts of a text
abbrev pub AreRead : List Operation → Parts → Result Read Fault → Type 0
AreRead operations parts result = MatchResult result (λ answer. AreInParts operations parts (events_in answer.0) (entries_view answer.1.items)) (IsRefusedAt (IsWrongInParts operations parts))

-- is answered to the text
pub history_of : (operations : List Operation) (bytes : List ℕ) (parts : Parts) → HasParts bytes parts → (result : Result Read Fault) → AreRead operations parts result → IsHistoryOf operations bytes result
history_of operations bytes parts has (Ok answer) is = record { parts = parts; text = has; events = is.0; order = is.1 }
history_of operations bytes parts has (Err fault) is = refused_weaker (IsWrongInParts operations parts) (IsWrongItem operations bytes) fault (λ item wrong. inr (parts, has, wrong)) is

pub recorded_of : (operations : List Operation) (bytes : List ℕ) (parts : Parts) → HasRecorded bytes parts → (result : Result Read Fault) → AreRead operations parts result → IsRecordedOf operations bytes result
recorded_of operations bytes parts has (Ok answer) is = record { parts = parts; text = has; events = is.0; order = is.1 }
recorded_of operations bytes parts has (Err fault) is = refused_weaker (IsWrongInParts operations parts) (IsWrongRecordedItem operations bytes) fault (λ item wrong. inr (parts, has, wrong)) is

-- a text of two parts says the same if its order may be left out
two_parts : (two : Bool) (one : Bool) (alone both : Option Parts) (parts : Parts) → (two ≡ true → one ≡ false) → (if two then both else None) ≡ Some parts → (if one then alone else (if two then both else None)) ≡ Some parts
two_parts true true alone both parts apart is = let no = apart refl in absurd cc
two_parts true false alone both parts apart is = is
two_parts false one alone both parts apart is = absurd cc

not_one : (n : ℕ) → (n == 2) ≡ true → (n == 1) ≡ false
not_one n is = let two = eqb-true n 2 is in rw two refl

in_object : (d : Data) (o : Option Members) (parts : Parts) → option_and_then (parts_of d) o ≡ Some parts → option_and_then (recorded_parts d) o ≡ Some parts
in_object d None parts is = absurd cc
in_object d (Some members) parts is =
    two_parts (members_len members == 2) (members_len members == 1) _ _ parts (not_one (members_len members)) is

pub parts_recorded : (d : Data) (parts : Parts) → parts_in d ≡ Some parts → recorded_in d ≡ Some parts
parts_recorded d parts is = in_object d (as_object d) parts is

in_value : (o : Option Data) (parts : Parts) → option_and_then parts_in o ≡ Some parts → option_and_then recorded_in o ≡ Some parts
in_value None parts is = absurd cc
in_value (Some d) parts is = parts_recorded d parts is

pub history_is_recorded : (operations : List Operation) (bytes : List ℕ) (events : List Event) (order : List Entry) → SaysHistory operations bytes events order → SaysRecorded operations bytes events order
history_is_recorded operations bytes events order says = record {
  parts = says.parts;
  text = record { limit = says.text.limit; utf8 = says.text.utf8; reads = in_value (read bytes) says.parts says.text.reads };
  events = says.events;
  order = says.order;
}
