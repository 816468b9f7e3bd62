-- Clients that make their calls of a phase one turn at a time: what is left of these, and where a client stands in them.
use Rattle.std.specs.Prelude.{◌≡◌, ℕ, zero, suc, ◌+◌, nat_lt, Bool, true, false, List, [], ◌∷◌, Option, Some, None, is_none, filter, map}
use Rattle.std.specs.Vec.Iter.{into_iter_items}
use Rattle.lc_machine.specs.Step.{Event}
use Rattle.lc_plan.specs.Plans.{Calls, Script}
use Rattle.lc_plan.specs.View.{calls_of}
use Rattle.lc_run.specs.Labels.{is_unfinished, HasMade, HasMoved}
use Rattle.lc_run.specs.Locked.{client_in, labels_made}
use Rattle.lc_sound.specs.Instrumented.{Label}
use Rattle.lc_crew.specs.Halts.{fits}
use Rattle.lc_crew.specs.Playing.{HasPlayed, HasReturned, HasStopped, event_of, planned}
use Rattle.lc_crew.specs.declared.due.Due.{Due}
use Rattle.lc_crew.specs.declared.halt.Halt.{Halt}
use Rattle.lc_crew.specs.declared.halt.Halt.TheVariants as H
use Rattle.lc_crew.specs.declared.player.Player.{Player}
use Rattle.lc_crew.specs.declared.stand.Stand.{Stand}
use Rattle.lc_crew.specs.declared.stand.Stand.TheVariants.{Between, Within, Halted}

-- ---- what is left

-- a call that is made once, and so many times more
abbrev pub due_of : Due → Calls
due_of d = record (calls_of d.calls.now) { count = suc d.more }

abbrev pub dues_of : List Due → List Calls
dues_of ds = map due_of ds

-- those of these that are made at all
abbrev pub made_ever : List Calls → List Calls
made_ever ks = filter (λ k. nat_lt 0 k.count) ks

-- what is left when one call of the first has returned: it has so many times more, or the rest is left
abbrev pub lessened : (more : ℕ) → Due → List Due → List Due
lessened zero due rest = rest
lessened (suc more) due rest = record due { more = more } ∷ rest

-- what is called now or next, and what is called then; without the first there is nothing
abbrev pub left_of : Option Due → List Due → List Due
left_of None rest = []
left_of (Some due) rest = due ∷ rest

-- ---- where a client stands

-- a call has begun and goes on: with the next one and so many more it has its turns
abbrev pub IsWithin : (left turns : ℕ) (call : Event) (c : ℕ) (before now : List Label) → Type 0
IsWithin left turns call c before now =
    (begun : List Label) × (k : ℕ) × HasMade (λ what. what ≡ call) c before begun × HasMoved c k begun now × (k + suc left ≡ turns)

-- a client of which a call was begun stands so
abbrev pub StandsSo : Stand → (turns : ℕ) (call : Event) (c : ℕ) (before now : List Label) → Type 0
StandsSo Between turns call c before now = HasReturned turns call c before now
StandsSo (Within left) turns call c before now = IsWithin left turns call c before now
StandsSo (Halted halt) turns call c before now = HasStopped halt turns call c before now

-- where it stands with so many turns left
abbrev pub going_on : ℕ → Stand
going_on zero = Halted H.Spent
going_on (suc left) = Within left

-- where it stands before a phase
abbrev pub stand_before : Option Halt → Stand
stand_before None = Between
stand_before (Some halt) = Halted halt

-- why it makes no further call, if it is not for that it has made all
abbrev pub halt_in : Stand → Option Halt
halt_in Between = None
halt_in (Within left) = None
halt_in (Halted halt) = Some halt

-- who plays these calls from here has played the phases
abbrev pub LeadsTo : List (List Script) → (c : ℕ) → List Calls → (now : List Label) → Type 0
LeadsTo phases c ks now = (halt : Option Halt) (after : List Label) → HasPlayed halt ks c now after → HasPlayed halt (planned c phases) c [] after

-- A client is on its way through the phases: between two calls, what is left leads through them; in a call, so it did before the call
abbrev pub IsOnWayAt : List (List Script) → (c : ℕ) → Stand → Option Due → List Due → (now : List Label) → Type 0
IsOnWayAt phases c Between due rest now = LeadsTo phases c (dues_of (left_of due rest)) now × (is_unfinished now ≡ false)
IsOnWayAt phases c (Within left) None rest now = ⊥
IsOnWayAt phases c (Within left) (Some due) rest now =
    (before : List Label) × LeadsTo phases c (dues_of (due ∷ rest)) before × IsWithin left (due_of due).turns (event_of (due_of due)) c before now
IsOnWayAt phases c (Halted halt) due rest now = HasPlayed (Some halt) (planned c phases) c [] now × (fits (Some halt) (is_unfinished now) ≡ true)

-- after a turn in the call that it calls now or next it stands so; or it took none
abbrev pub HasTurnedAt : List (List Script) → (c : ℕ) → (turn : Option Stand) → (stand : Stand) → Option Due → List Due → (now : List Label) → Type 0
HasTurnedAt phases c None stand due rest now = IsOnWayAt phases c stand due rest now
HasTurnedAt phases c (Some turn) stand None rest now = ⊥
HasTurnedAt phases c (Some turn) stand (Some due) rest now =
    (before : List Label) × LeadsTo phases c (dues_of (due ∷ rest)) before × StandsSo turn (due_of due).turns (event_of (due_of due)) c before now

-- it makes no further call
abbrev pub is_at_end : Stand → Option Due → Bool
is_at_end Between due = is_none due
is_at_end (Within left) due = false
is_at_end (Halted halt) due = true

module _ {J : Type 0} where
  abbrev pub IsOnWay : List (List Script) → Player J → Type 0
  IsOnWay phases p = IsOnWayAt phases (client_in p.seat) p.stand p.due (into_iter_items p.rest) (labels_made p.seat)

  abbrev pub HasTurned : List (List Script) → Option Stand → Player J → Type 0
  HasTurned phases turn p = HasTurnedAt phases (client_in p.seat) turn p.stand p.due (into_iter_items p.rest) (labels_made p.seat)

  abbrev pub has_ended : Player J → Bool
  has_ended p = is_at_end p.stand p.due
