-- What JSON values say: numbers, calls, events, and entries of an order.
use Rattle.std.specs.Prelude.{ℕ, suc, ◌==◌, Bool, false, List, [], ◌∷◌, ℤ, Option, Some, None, option_map, option_and_then, unwrap_or, if◌then◌else◌, nat_le, nat_lt, codes, length, slice_get, bytes_eq}
use Rattle.serde_json.specs.Data.{Data, Items, no_items, item}
use Rattle.serde_json.specs.Find.{as_number, as_i64, as_u64, as_array, as_str}
use Rattle.std.specs.List.{list_any}
use Rattle.lc_history.specs.Limits.{client_limit}
use Rattle.lc_seq.specs.Sequential.{Call, Choice, InOrder, ByName}
use Rattle.lc_seq.specs.Specification.{Operation, agree, takes}
use Rattle.lc_history.specs.History.{Event, Called, Replied, Entry}

-- the values of an array, in order
abbrev pub values_in : Items → List Data
values_in no_items = []
values_in (item d ds) = d ∷ values_in ds

-- what each element says, if each says something
abbrev pub all_in : {A B : Type 0} → (A → Option B) → List A → Option (List B)
all_in says [] = Some []
all_in says (x ∷ xs) = option_and_then (λ y. option_map (λ ys. y ∷ ys) (all_in says xs)) (says x)

-- a number: an integer of 64 bits with a sign
abbrev pub number_in : Data → Option ℤ
number_in d = option_and_then as_i64 (as_number d)

-- `[NUMBER,..]`
abbrev pub numbers_in : Data → Option (List ℤ)
numbers_in d = option_and_then (λ ds. all_in number_in (values_in ds)) (as_array d)

-- the number, if it is within the limit of clients
abbrev pub client_within : ℕ → Option ℕ
client_within n = if nat_le n client_limit then Some n else None

-- a client: an integer from 0 to the limit
abbrev pub client_in : Data → Option ℕ
client_in d = option_and_then client_within (option_and_then as_u64 (as_number d))

-- it is this word
abbrev pub is_word : List ℕ → Data → Bool
is_word word d = unwrap_or (option_map (λ text. bytes_eq text word) (as_str d)) false

-- the place of the first operation of this name
abbrev pub place_of : List Operation → List ℕ → Option ℕ
place_of [] name = None
place_of (o ∷ os) name = if bytes_eq name o.name then Some 0 else option_map suc (place_of os name)

-- the number, if it has 32 bits
abbrev pub number_within : ℕ → Option ℕ
number_within n = if nat_lt n 4294967296 then Some n else None

-- the number of the operation of this name, which has 32 bits
abbrev pub operation_of : List Operation → List ℕ → Option ℕ
operation_of operations name = option_and_then number_within (place_of operations name)

-- these numbers for this operation, if it takes as many
abbrev pub call_with : List Operation → ℕ → List ℤ → Option Call
call_with operations op numbers = if takes (slice_get operations op) (length numbers) then Some (record { op = op; numbers = numbers }) else None

-- `NAME, [NUMBER,..]`: a call of the operation of this name, with as many numbers as it takes
abbrev pub call_in : List Operation → Data → Data → Option Call
call_in operations name numbers =
    option_and_then (λ op. option_and_then (call_with operations op) (numbers_in numbers)) (option_and_then (operation_of operations) (as_str name))

-- the operation replies n numbers
abbrev pub has_replies : Option Operation → ℕ → Bool
has_replies None n = false
has_replies (Some o) n = o.replies == n

-- the beginning of a call
abbrev pub invoke_from : List Operation → Data → Data → Data → Option Event
invoke_from operations client name numbers = option_and_then (λ c. option_map (Called c) (call_in operations name numbers)) (client_in client)

-- the return of a call
abbrev pub respond_from : Data → Data → Option Event
respond_from client numbers = option_and_then (λ c. option_map (Replied c) (numbers_in numbers)) (client_in client)

-- `[CLIENT,"call",NAME,[NUMBER,..]]` or `[CLIENT,"return",[NUMBER,..]]`
abbrev pub event_from : List Operation → List Data → Option Event
event_from operations (client ∷ word ∷ name ∷ numbers ∷ []) = if is_word (codes "call") word then invoke_from operations client name numbers else None
event_from operations (client ∷ word ∷ numbers ∷ []) = if is_word (codes "return") word then respond_from client numbers else None
event_from operations ds = None

-- an event, whatever comes before it
abbrev pub event_in : List Operation → Data → Option Event
event_in operations d = option_and_then (λ ds. event_from operations (values_in ds)) (as_array d)

-- `["NAME",[NUMBER,..]]`
abbrev pub choice_from : List Data → Option Choice
choice_from (name ∷ numbers ∷ []) = option_and_then (λ text. option_map (ByName text) (numbers_in numbers)) (as_str name)
choice_from ds = None

-- how a branch is chosen: in order, if nothing says it
abbrev pub choice_in : Option Data → Option Choice
choice_in None = Some InOrder
choice_in (Some d) = option_and_then (λ ds. choice_from (values_in ds)) (as_array d)

-- a branch of the operation may be taken by this choice
abbrev pub has_choice : Option Operation → Choice → Bool
has_choice None choice = false
has_choice (Some o) choice = list_any (λ b. agree b.label choice) o.branches

-- this choice, if a branch of the operation may be taken by it
abbrev pub choice_with : List Operation → ℕ → Choice → Option Choice
choice_with operations op choice = if has_choice (slice_get operations op) choice then Some choice else None

-- the choice that is said of a call of this operation
abbrev pub pick_in : List Operation → ℕ → Option Data → Option Choice
pick_in operations op said = option_and_then (choice_with operations op) (choice_in said)

-- an entry of this client, this call and this choice, if its reply has as many numbers as the operation replies
abbrev pub entry_with : List Operation → ℕ → Call → Choice → List ℤ → Option Entry
entry_with operations client call choice reply =
    if has_replies (slice_get operations call.op) (length reply) then Some (record { client = client; call = call; choice = choice; reply = reply }) else None

-- a call of a client, with how its branch is chosen, and a reply
abbrev pub done_from : List Operation → Data → Data → Data → Data → Option Data → Option Entry
done_from operations client name numbers reply said =
    option_and_then (λ c. option_and_then (λ call. option_and_then (λ choice. option_and_then (entry_with operations c call choice) (numbers_in reply))
    (pick_in operations call.op said)) (call_in operations name numbers)) (client_in client)

-- `[CLIENT,NAME,[NUMBER,..],[NUMBER,..]]`, and after these `["NAME",[NUMBER,..]]` if the operation has choices
abbrev pub entry_from : List Operation → List Data → Option Entry
entry_from operations (client ∷ name ∷ numbers ∷ reply ∷ []) = done_from operations client name numbers reply None
entry_from operations (client ∷ name ∷ numbers ∷ reply ∷ choice ∷ []) = done_from operations client name numbers reply (Some choice)
entry_from operations ds = None

-- an entry of an order
abbrev pub entry_in : List Operation → Data → Option Entry
entry_in operations d = option_and_then (λ ds. entry_from operations (values_in ds)) (as_array d)
