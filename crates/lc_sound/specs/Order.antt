-- The order of a run: its marks, in time.
use Rattle.std.specs.Prelude.{ℕ, List, [], ◌∷◌, ◌++◌, map}
use Rattle.lc_seq.specs.Sequential.{Call}
use Rattle.lc_history.specs.History.{Entry}
use Rattle.lc_machine.specs.Step.{Event, Invoked, Moved, Returned}
use Rattle.lc_rider.specs.Rider.{Mark}
use Rattle.lc_sound.specs.Happening.{Happening, Happens, Marked, counted, put}
use Rattle.lc_sound.specs.Instrumented.{Label, event_of}

-- the call that each client made last
abbrev pub called_last : (ℕ → Call) → ℕ → Event → ℕ → Call
called_last calls c (Invoked o numbers) = put calls c (record { op = o; numbers = numbers })
called_last calls c (Moved point edge) = calls
called_last calls c (Returned numbers) = calls

-- a mark is for the call that its client made last, by the choice that the mark has
abbrev pub marked : (ℕ → Call) → Mark → Happening
marked calls m = Marked m.note (record { client = m.client; call = calls m.client; choice = m.choice; reply = m.reply })

-- what happens in a run; the marks of a step come before its return
abbrev pub happenings : (ℕ → Call) → List Label → List Happening
happenings calls [] = []
happenings calls (l ∷ ls) =
    map (marked calls) l.marks ++ (map Happens (event_of l.client l.what) ++ happenings (called_last calls l.client l.what) ls)

abbrev pub no_call : Call
no_call = record { op = 0; numbers = [] }

-- the order of a run
abbrev pub order : List Label → List Entry
order labels = counted (happenings (λ _. no_call) labels)
