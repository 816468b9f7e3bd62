-- What a JSON text says as a recorded history, which may leave out the order, and what is returned for one.
use Rattle.std.specs.Prelude.{◌≡◌, ◌≤◌, ◌==◌, ◌⊎◌, ℕ, List, [], ℤ, Option, Some, Result, Ok, Err, option_map, option_and_then, if◌then◌else◌, codes, length, IsUtf8, Vec}
use Rattle.std.specs.declared.alloc.Global.{Global}
use Rattle.serde_json.specs.Data.{Data, Members}
use Rattle.serde_json.specs.Events.{members_len}
use Rattle.serde_json.specs.Find.{as_object}
use Rattle.serde_json.specs.Read.{read}
use Rattle.lc_base.specs.declared.refusal.Fault.{Fault}
use Rattle.lc_base.specs.Limits.{file_limit}
use Rattle.lc_seq.specs.Specification.{Operation}
use Rattle.lc_seq.specs.declared.choice.Pick.{Pick}
use Rattle.lc_seq.specs.declared.text_call.TextCall.{TextCall}
use Rattle.lc_history.specs.History.{Event, Entry}
use Rattle.lc_history.specs.Histories.{events_in}
use Rattle.lc_hist.specs.JsonHistories.{Parts, array_at, parts_of, AreEvents, AreEntries, IsWrongInEvents, IsWrongInOrder, IsRefusedAt}
use Rattle.lc_history.specs.View.{entries_view}
use Rattle.lc_history.specs.declared.event.Done.{Done}
use Rattle.lc_history.specs.declared.history.History.{History}

-- an object of the arrays `events` and `order`, or of `events` alone: then the order has no entries
abbrev pub recorded_of : Data → Members → Option Parts
recorded_of d members =
    if members_len members == 1
    then option_map (λ events. record { events = events; order = [] }) (array_at (codes "events") d)
    else parts_of d members

-- the parts of a value, if it is such an object
abbrev pub recorded_in : Data → Option Parts
recorded_in d = option_and_then (recorded_of d) (as_object d)

-- the order that is read, if one is
abbrev pub order_view : Option (Vec (Done TextCall Pick (Vec ℤ Global)) Global) → Option (List Entry)
order_view order = option_map (λ order. entries_view order.items) order

-- the bytes are within the limit of a file, and JSON of such an object
pub record HasRecorded (bytes : List ℕ) (parts : Parts) : Type 0 where
  pub limit : length bytes ≤ file_limit
  pub utf8 : IsUtf8 bytes
  pub reads : option_and_then recorded_in (read bytes) ≡ Some parts

-- the text says these events, and this order, which is empty if the text has none
pub record SaysRecorded (operations : List Operation) (bytes : List ℕ) (said : List Event) (entries : List Entry) : Type 0 where
  pub parts : Parts
  pub text : HasRecorded bytes parts
  pub events : AreEvents operations parts.events said
  pub order : AreEntries operations parts.order entries

-- the item is the first that is wrong: 0 is the whole text, then come the events, and after them the entries of the order
abbrev pub IsWrongRecordedItem : List Operation → List ℕ → ℕ → Type 0
IsWrongRecordedItem operations bytes item =
    ((item ≡ 0) × ((parts : Parts) → HasRecorded bytes parts → ⊥))
    ⊎ ((parts : Parts) × HasRecorded bytes parts × (IsWrongInEvents operations parts item ⊎ IsWrongInOrder operations parts item))

-- The answer to a text: the history that it says, and its order; else the first item that is wrong, or `OutOfMemory`
abbrev pub IsRecordedOf : List Operation → List ℕ → Result (History × Vec (Done TextCall Pick (Vec ℤ Global)) Global) Fault → Type 0
IsRecordedOf operations bytes (Ok answer) = SaysRecorded operations bytes (events_in answer.0) (entries_view answer.1.items)
IsRecordedOf operations bytes (Err fault) = IsRefusedAt (IsWrongRecordedItem operations bytes) fault
