-- What happens in a run, in time: invocations, returns and marks; and which marks make the order.
use Rattle.std.specs.Prelude.{ℕ, Bool, true, false, ◌==◌, cond, List, [], ◌∷◌}
use Rattle.lc_history.specs.History.{Event, Called, Replied, Entry}

-- an invocation or a return happens, or a call is marked, by a note or otherwise
pub data Happening : Type 0 where
  Happens : Event → Happening
  Marked : (note : Bool) (entry : Entry) → Happening

-- whose it is
abbrev pub client_of : Happening → ℕ
client_of (Happens (Called c call)) = c
client_of (Happens (Replied c reply)) = c
client_of (Marked note entry) = entry.client

-- the invocations and returns
abbrev pub events : List Happening → List Event
events [] = []
events (Happens event ∷ hs) = event ∷ events hs
events (Marked note entry ∷ hs) = events hs

abbrev pub is_reply : Happening → Bool
is_reply (Happens (Called c call)) = false
is_reply (Happens (Replied c reply)) = true
is_reply (Marked note entry) = false

-- what comes next for this client is its return: nothing more is marked or noted for its call, and the call returns
abbrev pub returns_next : ℕ → List Happening → Bool
returns_next c [] = false
returns_next c (h ∷ hs) = cond (client_of h == c) (is_reply h) (returns_next c hs)

-- every mark that is no note, and for each call that returned by its note only its last note
abbrev pub counted : List Happening → List Entry
counted [] = []
counted (Happens event ∷ hs) = counted hs
counted (Marked false entry ∷ hs) = entry ∷ counted hs
counted (Marked true entry ∷ hs) = cond (returns_next entry.client hs) (entry ∷ counted hs) (counted hs)

-- what is kept for each client
abbrev pub put : {A : Type 0} → (ℕ → A) → ℕ → A → ℕ → A
put f c v = λ d. cond (d == c) v (f d)
