-- What clauses see of the tables with which a JSON history is read.
use Rattle.std.specs.Prelude.{◌≡◌, ◌≤◌, ◌+◌, ◌⊎◌, ℕ, Bool, true, false, List, [], Option, Some, None, codes, option_map, slice_index_or, slice_get, length, IsUtf8}
use Rattle.json.specs.Token.{Token}
use Rattle.serde_json.specs.Data.{Data, Members, member, no_members}
use Rattle.serde_json.specs.Read.{read}
use Rattle.std.specs.Borrow.{Bor}
use Rattle.lc_base.specs.declared.ids.OpId.{OpId}
use Rattle.lc_base.specs.Limits.{file_limit}
use Rattle.lc_seq.specs.Specification.{Operation}
use Rattle.lc_seq.specs.SpecView.{operations_of}
use Rattle.lc_history.specs.History.{Event, Called, Replied, Entry}
use Rattle.lc_hist.specs.JsonHistories.{Parts, parts_in, AreEvents, AreEntries, IsFirstWrongEvent, IsFirstWrongEntry, IsWrongInEvents, IsWrongInOrder, SaysHistory}
use Rattle.lc_hist.specs.JsonRecorded.{recorded_in, SaysRecorded}
use Rattle.lc_hist.specs.JsonValues.{has_replies}
use Rattle.lc_hist.specs.JsonItems.{data_at, values_at}
use Rattle.lc_hist.specs.declared.document.Parts.{Parts as SeenParts}
use Rattle.lc_hist.specs.declared.document.Recorded.{Recorded}
use Rattle.lc_hist.specs.declared.open_calls.OpenCalls.{OpenCalls}
use Rattle.lc_hist.specs.declared.operations.Operations.{Operations}

-- the value that is said, if one is
abbrev pub said_in : Option (Bor (List Token)) → Option Data
said_in None = None
said_in (Some value) = Some (data_at value.now)

-- the operations that are found by their names
abbrev pub all_of : Operations → List Operation
all_of operations = operations_of operations.all.now

-- the operation in whose call a client is
abbrev pub open_of : OpenCalls → ℕ → Option OpId
open_of calls c = slice_index_or calls.operations.items c None

-- its number
abbrev pub number_of : Option OpId → Option ℕ
number_of op = option_map (λ op. op.0) op

-- an event of a client that is in a call of this operation, or in none: whether it is in turn, and a return has its count of numbers
abbrev pub may_follow : List Operation → Option ℕ → Event → Bool
may_follow operations None (Called c call) = true
may_follow operations None (Replied c reply) = false
may_follow operations (Some op) (Called c call) = false
may_follow operations (Some op) (Replied c reply) = has_replies (slice_get operations op) (length reply)

-- the operation in whose call a client is after its event
abbrev pub opened : Event → Option ℕ
opened (Called c call) = Some call.op
opened (Replied c reply) = None

-- the values of the parts
abbrev pub parts_view : SeenParts → Parts
parts_view parts = record { events = values_at parts.events; order = values_at parts.order }

-- the values of an order, none if there is no order
abbrev pub order_values : Option (List Token) → List Data
order_values None = []
order_values (Some order) = values_at order

-- the values of the parts; the order may be left out
abbrev pub recorded_view : Recorded → Parts
recorded_view parts = record { events = values_at parts.events; order = order_values parts.order }

-- a member `order` of this value, if there is one
abbrev pub order_member : Option Data → Members
order_member None = no_members
order_member (Some order) = member (codes "order") order no_members

-- the members `events` and `order` of these values, as far as there are such
abbrev pub members_with : Option Data → Option Data → Members
members_with None order = order_member order
members_with (Some events) order = member (codes "events") events (order_member order)

-- the value has no parts, nor if the order may be left out
abbrev pub HasNoParts : Data → Type 0
HasNoParts d = (parts_in d ≡ None) × (recorded_in d ≡ None)

-- the item is the first wrong one of these events
abbrev pub IsWrongEventItem : List Operation → List Data → ℕ → Type 0
IsWrongEventItem operations ds item = (place : ℕ) × IsFirstWrongEvent operations ds place × (item ≡ 1 + place)

-- the item is the first wrong one of these entries, with `before` items before them
abbrev pub IsWrongEntryItem : List Operation → List Data → ℕ → ℕ → Type 0
IsWrongEntryItem operations ds before item = (place : ℕ) × IsFirstWrongEntry operations ds place × (item ≡ before + place)

-- the bytes are JSON of this value, within the limit of a file
pub record HasValue (bytes : List ℕ) (d : Data) : Type 0 where
  pub limit : length bytes ≤ file_limit
  pub utf8 : IsUtf8 bytes
  pub reads : read bytes ≡ Some d

-- they are not, whatever the value
abbrev pub IsNoJson : List ℕ → Type 0
IsNoJson bytes = (d : Data) → HasValue bytes d → ⊥

-- the values are these events and these entries
abbrev pub AreInParts : List Operation → Parts → List Event → List Entry → Type 0
AreInParts operations parts events entries = AreEvents operations parts.events events × AreEntries operations parts.order entries

-- the item is the first wrong one of them
abbrev pub IsWrongInParts : List Operation → Parts → ℕ → Type 0
IsWrongInParts operations parts item = IsWrongInEvents operations parts item ⊎ IsWrongInOrder operations parts item

-- the text says these events, and this order, if there is one
abbrev pub AreInText : List Operation → List ℕ → List Event → Option (List Entry) → Type 0
AreInText operations bytes events None = SaysRecorded operations bytes events []
AreInText operations bytes events (Some entries) = SaysHistory operations bytes events entries
