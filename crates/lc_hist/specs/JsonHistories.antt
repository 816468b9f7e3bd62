-- What a JSON text says as a history and an order, and what is returned for one.
use Rattle.std.specs.Prelude.{◌≡◌, ◌≤◌, ◌+◌, ◌==◌, ◌⊎◌, ℕ, true, List, [], ◌∷◌, ◌++◌, ℤ, Option, Some, None, IsSome, Result, Ok, Err, option_map, option_and_then, if◌then◌else◌, codes, length, take, slice_get, IsUtf8, Vec}
use Rattle.std.specs.declared.alloc.Global.{Global}
use Rattle.serde_json.specs.Data.{Data, Members}
use Rattle.serde_json.specs.Events.{members_len}
use Rattle.serde_json.specs.Find.{as_array, as_object, get}
use Rattle.serde_json.specs.Read.{read}
use Rattle.lc_base.specs.declared.refusal.Fault.{Fault}
use Rattle.lc_base.specs.declared.refusal.Fault.TheVariants.{Refused, OutOfMemory}
use Rattle.lc_base.specs.declared.refusal.Refusal.TheVariants.{HistoryShape}
use Rattle.lc_base.specs.Limits.{file_limit}
use Rattle.lc_seq.specs.Sequential.{Call}
use Rattle.lc_seq.specs.Specification.{Operation}
use Rattle.lc_seq.specs.declared.choice.Pick.{Pick}
use Rattle.lc_seq.specs.declared.text_call.TextCall.{TextCall}
use Rattle.lc_history.specs.History.{Event, Called, Replied, Entry, pending_of}
use Rattle.lc_history.specs.Histories.{events_in}
use Rattle.lc_hist.specs.JsonValues.{values_in, all_in, has_replies, event_in, entry_in}
use Rattle.lc_history.specs.View.{entries_view}
use Rattle.lc_history.specs.WellFormed.{IsInTurn}
use Rattle.lc_history.specs.declared.event.Done.{Done}
use Rattle.lc_history.specs.declared.history.History.{History}

-- a return has as many numbers as the operation replies in whose call its client is
abbrev pub IsCounted : List Operation → List Event → Event → Type 0
IsCounted operations before (Called c call) = Unit {0}
IsCounted operations before (Replied c reply) = (call : Call) → pending_of c None before ≡ Some call → has_replies (slice_get operations call.op) (length reply) ≡ true

-- after these events the value is this one: it is of the form, in turn, and a return has its count of numbers
pub record IsNext (operations : List Operation) (before : List Event) (d : Data) (event : Event) : Type 0 where
  pub form : event_in operations d ≡ Some event
  pub turn : IsInTurn before event
  pub count : IsCounted operations before event

-- after the events `before` the values are further events, each after those before it, and `all` are all of them
abbrev pub AreNext : List Operation → List Event → List Data → List Event → Type 0
AreNext operations before [] all = before ≡ all
AreNext operations before (d ∷ ds) all = (event : Event) × IsNext operations before d event × AreNext operations (before ++ event ∷ []) ds all

-- the values are these events
abbrev pub AreEvents : List Operation → List Data → List Event → Type 0
AreEvents operations ds events = AreNext operations [] ds events

-- the value at this place is the first that is no event after those before it
pub record IsFirstWrongEvent (operations : List Operation) (ds : List Data) (place : ℕ) : Type 0 where
  pub value : Data
  pub stands : slice_get ds place ≡ Some value
  pub before : List Event
  pub right : AreEvents operations (take place ds) before
  pub wrong : (event : Event) → IsNext operations before value event → ⊥

-- the values are these entries
abbrev pub AreEntries : List Operation → List Data → List Entry → Type 0
AreEntries operations ds entries = all_in (entry_in operations) ds ≡ Some entries

-- the value at this place is the first that is no entry
pub record IsFirstWrongEntry (operations : List Operation) (ds : List Data) (place : ℕ) : Type 0 where
  pub value : Data
  pub stands : slice_get ds place ≡ Some value
  pub right : IsSome (all_in (entry_in operations) (take place ds))
  pub wrong : entry_in operations value ≡ None

-- the values of the events, and those of the order
pub record Parts : Type 0 where
  pub events : List Data
  pub order : List Data

-- the values of the array under a key
abbrev pub array_at : List ℕ → Data → Option (List Data)
array_at key d = option_map values_in (option_and_then as_array (get key d))

-- an object of two members, the arrays `events` and `order`
abbrev pub parts_of : Data → Members → Option Parts
parts_of d members =
    if members_len members == 2
    then option_and_then (λ events. option_map (λ order. record { events = events; order = order }) (array_at (codes "order") d)) (array_at (codes "events") d)
    else None

-- the parts of a value, if it is such an object
abbrev pub parts_in : Data → Option Parts
parts_in d = option_and_then (parts_of d) (as_object d)

-- the bytes are within the limit of a file, and JSON of an object with these two arrays
pub record HasParts (bytes : List ℕ) (parts : Parts) : Type 0 where
  pub limit : length bytes ≤ file_limit
  pub utf8 : IsUtf8 bytes
  pub reads : option_and_then parts_in (read bytes) ≡ Some parts

-- the text says these events and this order
pub record SaysHistory (operations : List Operation) (bytes : List ℕ) (said : List Event) (entries : List Entry) : Type 0 where
  pub parts : Parts
  pub text : HasParts bytes parts
  pub events : AreEvents operations parts.events said
  pub order : AreEntries operations parts.order entries

-- Item 0 is the whole text; then come the events, and after them the entries of the order.
-- the events are right, and the item is the first wrong entry
abbrev pub IsWrongInOrder : List Operation → Parts → ℕ → Type 0
IsWrongInOrder operations parts item =
    (events : List Event) × (place : ℕ) × AreEvents operations parts.events events × IsFirstWrongEntry operations parts.order place × (item ≡ 1 + length parts.events + place)

-- the item is the first wrong event
abbrev pub IsWrongInEvents : List Operation → Parts → ℕ → Type 0
IsWrongInEvents operations parts item = (place : ℕ) × IsFirstWrongEvent operations parts.events place × (item ≡ 1 + place)

-- the item is the first that is wrong
abbrev pub IsWrongItem : List Operation → List ℕ → ℕ → Type 0
IsWrongItem operations bytes item =
    ((item ≡ 0) × ((parts : Parts) → HasParts bytes parts → ⊥))
    ⊎ ((parts : Parts) × HasParts bytes parts × (IsWrongInEvents operations parts item ⊎ IsWrongInOrder operations parts item))

-- a refusal at an item about which this is known, or `OutOfMemory`
abbrev pub IsRefusedAt : (ℕ → Type 0) → Fault → Type 0
IsRefusedAt IsWrong (Refused (HistoryShape item)) = IsWrong item
IsRefusedAt IsWrong (Refused refusal) = ⊥
IsRefusedAt IsWrong OutOfMemory = Unit {0}

-- The answer to a text: the history and the order that it says, else the first item that is wrong, or `OutOfMemory`
abbrev pub IsHistoryOf : List Operation → List ℕ → Result (History × Vec (Done TextCall Pick (Vec ℤ Global)) Global) Fault → Type 0
IsHistoryOf operations bytes (Ok answer) = SaysHistory operations bytes (events_in answer.0) (entries_view answer.1.items)
IsHistoryOf operations bytes (Err fault) = IsRefusedAt (IsWrongItem operations bytes) fault
