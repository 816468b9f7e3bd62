-- The JSON values of histories and orders, and what is written of them.
use Rattle.std.specs.Prelude.{◌≡◌, ℕ, List, [], ◌∷◌, ℤ, Option, Some, None, map, codes, slice_get}
use Rattle.serde_json.specs.Data.{Data, null, number, string, array, object, unsigned, member, no_members}
use Rattle.serde_json.specs.Find.{of_integer}
use Rattle.serde_json.specs.View.{items_of}
use Rattle.serde_json.specs.Written.{compact_text}
use Rattle.lc_seq.specs.Sequential.{Choice, InOrder, ByName}
use Rattle.lc_seq.specs.Specification.{Operation}
use Rattle.lc_history.specs.History.{Event, Called, Replied, Entry}
use Rattle.lc_hist.specs.JsonHistories.{SaysHistory}

-- `[..]`
abbrev pub list_data : List Data → Data
list_data ds = array (items_of ds)

-- an integer
abbrev pub number_data : ℤ → Data
number_data z = number (of_integer z)

-- `[NUMBER,..]`
abbrev pub numbers_data : List ℤ → Data
numbers_data zs = list_data (map number_data zs)

-- the name of an operation, and `null` if there is none
abbrev pub name_of : Option Operation → Data
name_of None = null
name_of (Some o) = string o.name

-- the name of the operation of this number
abbrev pub name_data : List Operation → ℕ → Data
name_data operations op = name_of (slice_get operations op)

-- `[CLIENT,"call",NAME,[NUMBER,..]]` or `[CLIENT,"return",[NUMBER,..]]`
abbrev pub event_data : List Operation → Event → Data
event_data operations (Called c call) = list_data (number (unsigned c) ∷ string (codes "call") ∷ name_data operations call.op ∷ numbers_data call.numbers ∷ [])
event_data operations (Replied c reply) = list_data (number (unsigned c) ∷ string (codes "return") ∷ numbers_data reply ∷ [])

-- `["NAME",[NUMBER,..]]`, if a branch is chosen by its name
abbrev pub choice_data : Choice → List Data
choice_data InOrder = []
choice_data (ByName name numbers) = list_data (string name ∷ numbers_data numbers ∷ []) ∷ []

-- `[CLIENT,NAME,[NUMBER,..],[NUMBER,..]]`, and after these the choice
abbrev pub entry_data : List Operation → Entry → Data
entry_data operations e =
    list_data (number (unsigned e.client) ∷ name_data operations e.call.op ∷ numbers_data e.call.numbers ∷ numbers_data e.reply ∷ choice_data e.choice)

-- `{"events":[..],"order":[..]}`
abbrev pub history_data : List Operation → List Event → List Entry → Data
history_data operations events order =
    object (member (codes "events") (list_data (map (event_data operations) events)) (member (codes "order") (list_data (map (entry_data operations) order)) no_members))

-- what is written of a history and an order, without a space
abbrev pub history_text : List Operation → List Event → List Entry → List ℕ
history_text operations events order = compact_text (history_data operations events order)

-- the text says nothing but this history and this order
abbrev pub SaysOnly : List Operation → List ℕ → List Event → List Entry → Type 0
SaysOnly operations bytes events order =
    (said : List Event) (entries : List Entry) → SaysHistory operations bytes said entries → (said ≡ events) × (entries ≡ order)
