-- What events and entries of the code stand for.
use Rattle.std.specs.Prelude.{List, ℤ, map, Vec}
use Rattle.std.specs.declared.alloc.Global.{Global}
use Rattle.lc_seq.specs.Sequential.{Call, Choice}
use Rattle.lc_seq.specs.SpecView.{text_call_of, choice_of}
use Rattle.lc_seq.specs.declared.choice.Pick.{Pick}
use Rattle.lc_seq.specs.declared.text_call.TextCall.{TextCall}
use Rattle.lc_history.specs.History as H
use Rattle.lc_history.specs.History.{Called, Replied, Entry}
use Rattle.lc_history.specs.declared.event.Event.{Event}
use Rattle.lc_history.specs.declared.event.Event.TheVariants.{Invoke, Respond}
use Rattle.lc_history.specs.declared.event.Done.{Done}

-- an event
abbrev pub event_of : Event → H.Event
event_of (Invoke client op numbers) = Called client (record { op = op.0; numbers = numbers.items })
event_of (Respond client numbers) = Replied client numbers.items

-- events in order
abbrev pub events_of : List Event → List H.Event
events_of events = map event_of events

-- an entry, if it is known what its call, its choice and its reply stand for
abbrev pub entry_of : {C H R : Type 0} → (C → Call) → (H → Choice) → (R → List ℤ) → Done C H R → Entry
entry_of call choice numbers done = record { client = done.client; call = call done.call; choice = choice done.choice; reply = numbers done.reply }

-- entries in order
abbrev pub entries_in : {C H R : Type 0} → (C → Call) → (H → Choice) → (R → List ℤ) → List (Done C H R) → List Entry
entries_in call choice numbers order = map (entry_of call choice numbers) order

-- an entry of a call of a specification
abbrev pub entry_view : Done TextCall Pick (Vec ℤ Global) → Entry
entry_view done = entry_of text_call_of choice_of (λ reply. reply.items) done

-- the entries of an order of calls of a specification
abbrev pub entries_view : List (Done TextCall Pick (Vec ℤ Global)) → List Entry
entries_view order = map entry_view order
