-- Clients of a run, and how they come to their ends.
use Rattle.std.specs.Prelude.{◌≡◌, ℕ, true, List, [], ◌∷◌, Option, IfSome}
use Rattle.lc_plan.specs.Plans.{Calls, Script}
use Rattle.lc_run.specs.Labels.{is_unfinished}
use Rattle.lc_run.specs.Locked.{client_in, labels_made}
use Rattle.lc_run.specs.declared.held.Seat.{Seat}
use Rattle.lc_sound.specs.Instrumented.{Label}
use Rattle.lc_crew.specs.Halts.{fits}
use Rattle.lc_crew.specs.Playing.{HasPlayed, HasPlayedFrom, planned}
use Rattle.lc_crew.specs.declared.ended.Ended.{Ended}
use Rattle.lc_crew.specs.declared.halt.Halt.{Halt}
use Rattle.lc_crew.specs.declared.member.Member.{Member}

module _ {J : Type 0} where
  -- whose place it has, what it made, and why it makes no further call, if it makes none
  abbrev pub client_of : Member J → ℕ
  client_of m = client_in m.seat

  abbrev pub made_by : Member J → List Label
  made_by m = labels_made m.seat

  abbrev pub halt_of : Member J → Option Halt
  halt_of m = m.halt

  -- a client makes these calls, unless it makes no further one
  abbrev pub Plays : List Calls → Member J → Member J → Type 0
  Plays ks before after = HasPlayedFrom (halt_of before) (halt_of after) ks (client_of before) (made_by before) (made_by after)

  -- what a client made is its calls of these phases, up to the one that halted it
  abbrev pub HasMadeAll : List (List Script) → Member J → Type 0
  HasMadeAll phases m = HasPlayed (halt_of m) (planned (client_of m) phases) (client_of m) [] (made_by m)

  -- and so it is of one that is at its place
  abbrev pub HasMadeAllIf : List (List Script) → Option (Member J) → Type 0
  HasMadeAllIf phases place = IfSome place (HasMadeAll phases)

  -- the end is that of the client whose seat it is: it fits the last call that it made, and these are its calls of the phases
  pub record IsEndOf (phases : List (List Script)) (seat : Seat J) (e : Ended) : Type 0 where
    pub client : e.client ≡ client_in seat
    pub fit : fits e.halt (is_unfinished (labels_made seat)) ≡ true
    pub played : HasPlayed e.halt (planned e.client phases) e.client [] (labels_made seat)

  -- each seat has its client's end, in order
  abbrev pub AreEndsOf : List (List Script) → List (Seat J) → List Ended → Type 0
  AreEndsOf phases [] [] = Unit {0}
  AreEndsOf phases (s ∷ ss) (e ∷ es) = IsEndOf phases s e × AreEndsOf phases ss es
  AreEndsOf phases [] (e ∷ es) = ⊥
  AreEndsOf phases (s ∷ ss) [] = ⊥
