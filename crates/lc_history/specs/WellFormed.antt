-- Which lists of events are histories.
use Rattle.std.specs.Prelude.{◌≡◌, ◌≤◌, ℕ, suc, Bool, true, false, List, ℤ, Some, take, slice_get}
use Rattle.lc_history.specs.Limits.{client_limit}
use Rattle.lc_seq.specs.Sequential.{Call}
use Rattle.lc_history.specs.History.{Event, Called, Replied, is_call, is_return, count}

-- whose event it is
abbrev pub client_of : Event → ℕ
client_of (Called c call) = c
client_of (Replied c reply) = c

-- it is a call, and no return
abbrev pub begins : Event → Bool
begins (Called c call) = true
begins (Replied c reply) = false

-- after these events this one is in turn: a call if each call of its client has returned, a return if one has not
pub record IsInTurn (before : List Event) (event : Event) : Type 0 where
  pub called : (c : ℕ) (call : Call) → event ≡ Called c call → count (is_call c) before ≡ count (is_return c) before
  pub replied : (c : ℕ) (reply : List ℤ) → event ≡ Replied c reply → count (is_call c) before ≡ suc (count (is_return c) before)
  pub client : client_of event ≤ client_limit

-- each client's calls and returns take turns, beginning with a call, and each client's number is within the limit
pub record IsWellFormed (history : List Event) : Type 0 where
  pub in_turn : (i : ℕ) (event : Event) → slice_get history i ≡ Some event → IsInTurn (take i history) event

-- the event at this place is the first that is out of turn
pub record IsFirstOutOfTurn (events : List Event) (place : ℕ) : Type 0 where
  pub event : Event
  pub stands : slice_get events place ≡ Some event
  pub out : IsInTurn (take place events) event → ⊥
  pub before : IsWellFormed (take place events)
