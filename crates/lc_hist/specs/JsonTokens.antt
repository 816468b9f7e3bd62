-- What values say that are read from the tokens of a JSON text.
use Rattle.std.specs.Prelude.{◌≡◌, ◌≤◌, ℕ, List, [], ◌∷◌, Option, Some, None, option_and_then, codes}
use Rattle.json.specs.Token.{Token}
use Rattle.json.specs.Json.{value, after_end_array, read_key}
use Rattle.serde_json.specs.Data.{Data, array}
use Rattle.serde_json.specs.Read.{of_json, converted, read}
use Rattle.serde_json.specs.View.{items_of}
use Rattle.lc_seq.specs.Sequential.{Call, Choice}
use Rattle.lc_seq.specs.Specification.{Operation}
use Rattle.lc_history.specs.History.{Event, Entry}
use Rattle.lc_hist.specs.JsonHistories.{Parts, parts_in, AreEvents, AreEntries}
use Rattle.lc_hist.specs.JsonRecorded.{recorded_in}
use Rattle.lc_hist.specs.JsonValues.{client_in, call_in, event_from, pick_in}

-- the tokens begin with this value, in which at most `levels` lists nest, and these come after it
pub record Begins (levels : ℕ) (tokens : List Token) (d : Data) (rest : List Token) : Type 0 where
  pub reads : (depth : ℕ) → levels ≤ depth → converted of_json (value depth tokens) ≡ Some (d, rest)

-- they begin with these values
abbrev pub BeginAll : ℕ → List Token → List Data → List Token → Type 0
BeginAll levels tokens [] rest = tokens ≡ rest
BeginAll levels tokens (d ∷ ds) rest = (between : List Token) × Begins levels tokens d between × BeginAll levels between ds rest

-- they begin with a value that says this
abbrev pub Says : {A : Type 0} → ℕ → (Data → Option A) → List Token → A → List Token → Type 0
Says levels says tokens x rest = (d : Data) × (says d ≡ Some x) × Begins levels tokens d rest

-- they begin with a name and numbers that say a call
abbrev pub SayCall : List Operation → List Token → Call → List Token → Type 0
SayCall operations tokens call rest = (name : Data) × (numbers : Data) × (call_in operations name numbers ≡ Some call) × BeginAll 1 tokens (name ∷ numbers ∷ []) rest

-- they begin with the rest of an event, after its client
abbrev pub SayDeed : List Operation → ℕ → List Token → Event → List Token → Type 0
SayDeed operations client tokens event rest = (ds : List Data) × ((d : Data) → client_in d ≡ Some client → event_from operations (d ∷ ds) ≡ Some event) × BeginAll 1 tokens ds rest

-- the value that is said, if one is
abbrev pub said_alone : Option Data → List Data
said_alone None = []
said_alone (Some d) = d ∷ []

-- they begin with the choice of a call of this operation, if one is said, and with the end of its entry
abbrev pub SayPick : List Operation → ℕ → List Token → Choice → List Token → Type 0
SayPick operations op tokens choice rest =
    (said : Option Data) × (between : List Token) × (pick_in operations op said ≡ Some choice) × BeginAll 2 tokens (said_alone said) between × (after_end_array between ≡ Some rest)

-- they begin with an array of these events
abbrev pub SayEvents : List Operation → List Token → List Event → List Token → Type 0
SayEvents operations tokens events rest = (ds : List Data) × AreEvents operations ds events × Begins 4 tokens (array (items_of ds)) rest

-- they begin with an array of these entries
abbrev pub SayEntries : List Operation → List Token → List Entry → List Token → Type 0
SayEntries operations tokens entries rest = (ds : List Data) × AreEntries operations ds entries × Begins 4 tokens (array (items_of ds)) rest

-- they are the member `order` of an object, with these entries, and the end of the text
abbrev pub AreLast : List Operation → List Token → List Entry → Type 0
AreLast operations tokens entries =
    (between : List Token) × (read_key tokens ≡ Some (Some (codes "order"), between)) × SayEntries operations between entries (Token.end_object ∷ [])

-- after the events there is the end of the text, or the order and the end
abbrev pub AreBehind : List Operation → List Token → Option (List Entry) → Type 0
AreBehind operations tokens None = tokens ≡ Token.end_object ∷ []
AreBehind operations tokens (Some entries) = AreLast operations tokens entries

-- they are the member `events` of an object, with these events, and the member `order`, if there is an order, and the end of the text
abbrev pub AreMembers : List Operation → List Token → List Event → Option (List Entry) → Type 0
AreMembers operations tokens events order =
    (first : List Token) × (second : List Token) × (read_key tokens ≡ Some (Some (codes "events"), first)) × SayEvents operations first events second × AreBehind operations second order

-- a text is JSON of an object with arrays of these events and these entries, or of these events alone
abbrev pub AreSaid : List Operation → List ℕ → List Event → Option (List Entry) → Type 0
AreSaid operations text events None =
    (ds : List Data) × (option_and_then recorded_in (read text) ≡ Some (record { events = ds; order = [] })) × AreEvents operations ds events
AreSaid operations text events (Some entries) =
    (parts : Parts) × (option_and_then parts_in (read text) ≡ Some parts) × AreEvents operations parts.events events × AreEntries operations parts.order entries
