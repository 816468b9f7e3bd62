-- The histories of the code.
use Rattle.std.specs.Prelude.{◌≡◌, List, Result, Ok, Err}
use Rattle.lc_history.specs.History as H
use Rattle.lc_history.specs.View.{events_of}
use Rattle.lc_history.specs.WellFormed.{IsFirstOutOfTurn}
use Rattle.lc_history.specs.declared.history.History.{History}
use Rattle.lc_history.specs.declared.history.HistoryFault.{HistoryFault}
use Rattle.lc_history.specs.declared.history.HistoryFault.TheVariants.{OutOfTurn, OutOfMemory}

-- the events of a history
abbrev pub events_in : History → List H.Event
events_in history = events_of history.events.items

-- what is returned for events that are to be a history: the history of these, or the first event out of turn
abbrev pub IsHistory : List H.Event → Result History HistoryFault → Type 0
IsHistory events (Ok history) = events_in history ≡ events
IsHistory events (Err (OutOfTurn place)) = IsFirstOutOfTurn events place
IsHistory events (Err OutOfMemory) = Unit {0}
