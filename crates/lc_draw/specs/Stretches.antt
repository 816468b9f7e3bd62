-- Stretches of events round a mark, and what is drawn of a history in one.
use Rattle.std.specs.Prelude.{ℕ, zero, suc, ◌+◌, ◌-◌, min, Bool, false, cond, ◌&&◌, nat_lt, nat_le, List, [], ◌∷◌, ◌++◌, Option, Some, None, length, option_and_then, take, slice_get}
use Rattle.std.specs.Option.{option_map_or}
use Rattle.lc_history.specs.History.{Event, Called, Replied, Entry, count, is_call, is_return, is_of}
use Rattle.lc_draw.specs.Drawings.{Draws, event_in, has_call, marked}

-- the client's call, counted from 0, begins among the first `until` events, and does not return among the first `from`
abbrev pub is_within : (from until : ℕ) → List Event → (client turn : ℕ) → Bool
is_within from until events c t = nat_lt t (count (is_call c) (take until events)) && nat_le (count (is_return c) (take from events)) t

-- which of the calls that these events begin pass the test, by client and turn, if those are before these
abbrev pub such_calls : (ℕ → ℕ → Bool) → List Event → List Event → List Bool
such_calls test before [] = []
such_calls test before (Called c call ∷ es) = test c (count (is_call c) before) ∷ such_calls test (before ++ Called c call ∷ []) es
such_calls test before (Replied c reply ∷ es) = such_calls test (before ++ Replied c reply ∷ []) es

-- how many calls of these events pass the test
abbrev pub count_such : (ℕ → ℕ → Bool) → List Event → ℕ
count_such test events = count (λ passes. passes) (such_calls test [] events)

-- The text draws the calls that lie in part at least in the stretch from behind `from` events to behind `until`, marks the entries of
-- the order that have these calls, with their places, and draws a line behind the event of this number, if the history has it
abbrev pub IsPart : (from until : ℕ) → List Event → List Entry → Option ℕ → List ℕ → Type 0
IsPart from until events order event text =
    Draws (count_such (is_within from until events) events) (marked (is_within from until events) [] 0 order) (event_in events event) text

-- the number of places up to the last below n that passes, with it; 0 if none does
abbrev pub up_to_last : (ℕ → Bool) → ℕ → ℕ
up_to_last test zero = zero
up_to_last test (suc n) = cond (test n) (suc n) (up_to_last test n)

-- behind those before it, the event begins a call that passes the test, by client and turn
abbrev pub begins_such : (ℕ → ℕ → Bool) → List Event → Event → Bool
begins_such test before (Called c call) = test c (count (is_call c) before)
begins_such test before (Replied c reply) = false

-- the event at a place does so
abbrev pub begins_such_at : (ℕ → ℕ → Bool) → List Event → ℕ → Bool
begins_such_at test events i = option_map_or (begins_such test (take i events)) (slice_get events i) false

-- one of these entries is of the client's call, counted from 0
abbrev pub has_entry : List Entry → (client turn : ℕ) → Bool
has_entry entries c t = nat_lt t (count (is_of c) entries)

-- with the event at a place a client has not returned so often that this call returned, counted from 0
abbrev pub is_open_at : List Event → (client turn : ℕ) → ℕ → Bool
is_open_at events c t i = nat_le (count (is_return c) (take (suc i) events)) t

-- how many events are before the mark of an entry, if those entries are before it: those up to the last that begins the call of one
-- of them or its own, but at most those before its own call returns
abbrev pub events_before : List Event → List Entry → Entry → ℕ
events_before events before e =
    min (up_to_last (begins_such_at (has_entry (before ++ e ∷ [])) events) (length events)) (up_to_last (is_open_at events e.client (count (is_of e.client) before)) (length events))

-- that number, if the entry has a call, so that it is marked
abbrev pub events_to_mark : List Event → List Entry → Entry → Option ℕ
events_to_mark events before e = cond (has_call events e.client (count (is_of e.client) before)) (Some (events_before events before e)) None

-- that number for the entry at a place, if there is one
abbrev pub mark_at : List Event → List Entry → (place : ℕ) → Option ℕ
mark_at events order place = option_and_then (events_to_mark events (take place order)) (slice_get order place)

-- what is drawn round a mark that has so many events before it, if there is one
abbrev pub DrawsRound : List Event → List Entry → (width : ℕ) → Option ℕ → Option (List ℕ) → Type 0
DrawsRound events order width None None = Unit {0}
DrawsRound events order width None (Some text) = ⊥
DrawsRound events order width (Some at) None = ⊥
DrawsRound events order width (Some at) (Some text) = IsPart (at - width) (at + width) events order None text

-- What is drawn of a history and an order round the mark of the entry at a place: the calls within `width` events before it and behind
-- it; and nothing if the place has no mark
abbrev pub IsDrawnRound : List Event → List Entry → (place width : ℕ) → Option (List ℕ) → Type 0
IsDrawnRound events order place width found = DrawsRound events order width (mark_at events order place) found
