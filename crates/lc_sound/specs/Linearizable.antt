-- The histories of an object, and when it is linearizable.
use Rattle.std.specs.Prelude.{ℕ, List, [], ◌∷◌, ◌++◌}
use Rattle.lc_history.specs.History as H
use Rattle.lc_history.specs.History.{Called, Replied, IsLinearizable}
use Rattle.lc_machine.specs.Runs.{BareLabel, IsBareRun}
use Rattle.lc_machine.specs.Step.{Event, Invoked, Moved, Returned}
use Rattle.lc_object.specs.Syntax.{Object}
use Rattle.lc_seq.specs.Specification.{Specification}
use Rattle.lc_seq.specs.TextStep.{text_step, start_of}

-- the invocations and returns of a step
abbrev pub event_of : ℕ → Event → List H.Event
event_of c (Invoked o numbers) = Called c (record { op = o; numbers = numbers }) ∷ []
event_of c (Moved point edge) = []
event_of c (Returned numbers) = Replied c numbers ∷ []

-- the history of a list of steps
abbrev pub bare_history : List BareLabel → List H.Event
bare_history [] = []
bare_history (l ∷ ls) = event_of l.client l.what ++ bare_history ls

-- For every number of clients and every list of single-access steps of the object, from its start, the history of calls and
-- returns is linearizable by the specification
abbrev pub IsLinearizableObject : Specification → Object → Type 0
IsLinearizableObject spec object =
    (clients : ℕ) (labels : List BareLabel) → IsBareRun object clients labels →
    IsLinearizable (text_step spec.operations) (start_of spec.columns) (bare_history labels)
