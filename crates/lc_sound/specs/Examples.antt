-- Runs of small objects: a counter, and one that loses updates.
use Rattle.std.specs.Prelude.{◌≡◌, List, [], ◌∷◌, pos, false}
use Rattle.lc_term.specs.Syntax.{Number}
use Rattle.lc_seq.specs.Sequential.{InOrder}
use Rattle.lc_history.specs.History.{Event, Called, Replied}
use Rattle.lc_object.specs.declared.instr.EdgeKind.TheVariants.{Next, Then, Else}
use Rattle.lc_machine.specs.World.{World}
use Rattle.lc_machine.specs.Step.{Invoked, Moved, Returned}
use Rattle.lc_machine.specs.Runs.{BareLabel, IsBareRun}
use Rattle.lc_cond.specs.Counter.{counter_by, counter_object, counter_specification, racy_object, counter, racy}
use Rattle.lc_outline.specs.Development.{Development}
use Rattle.lc_sound.specs.Instrumented.{Label, Runs, start_world, bare_history, history}
use Rattle.lc_sound.specs.Order.{order}
use Rattle.lc_rider.specs.Rider.{Mark, Other}
use Rattle.lc_sound.specs.Claims.{IsProven}
use Rattle.lc_outline.specs.Resolved.{IsResolved}

-- two clients increment the counter: the `cas` of the second fails once
abbrev pub two_labels : List BareLabel
two_labels =
    record { client = 0; what = Invoked 0 [] } ∷
    record { client = 1; what = Invoked 0 [] } ∷
    record { client = 0; what = Moved 0 Next } ∷
    record { client = 1; what = Moved 0 Next } ∷
    record { client = 0; what = Moved 1 Then } ∷
    record { client = 1; what = Moved 1 Else } ∷
    record { client = 1; what = Moved 0 Next } ∷
    record { client = 1; what = Moved 1 Then } ∷
    record { client = 0; what = Returned (pos 0 ∷ []) } ∷
    record { client = 1; what = Returned (pos 1 ∷ []) } ∷ []

abbrev pub two_events : List Event
two_events =
    Called 0 (record { op = 0; numbers = [] }) ∷ Called 1 (record { op = 0; numbers = [] }) ∷ Replied 0 (pos 0 ∷ []) ∷ Replied 1 (pos 1 ∷ []) ∷ []

abbrev pub TwoClientsCount : Type 0
TwoClientsCount = IsBareRun counter_object 2 two_labels × (bare_history two_labels ≡ two_events)

-- both clients load before either stores, so that one update is lost
abbrev pub lost_labels : List BareLabel
lost_labels =
    record { client = 0; what = Invoked 0 [] } ∷
    record { client = 1; what = Invoked 0 [] } ∷
    record { client = 0; what = Moved 0 Next } ∷
    record { client = 1; what = Moved 0 Next } ∷
    record { client = 0; what = Moved 1 Next } ∷
    record { client = 1; what = Moved 1 Next } ∷
    record { client = 0; what = Returned (pos 0 ∷ []) } ∷
    record { client = 1; what = Returned (pos 0 ∷ []) } ∷ []

-- whatever invariant, assertions, actions and riders are given for this object: some condition is not valid
abbrev pub LostUpdateIsNeverProven : Type 0
LostUpdateIsNeverProven = (D : Development) → D.specification ≡ counter_specification → D.object ≡ racy_object → IsProven D → ⊥

-- the developments of both objects are in order
abbrev pub AreResolved : Type 0
AreResolved = IsResolved counter × IsResolved racy

-- a client settles the call of another, which never returns
abbrev pub helping : Development
helping = counter_by (Other (Number (pos 0)) 0)

abbrev pub helped_mark : Mark
helped_mark = record { client = 0; note = false; choice = InOrder; reply = pos 0 ∷ [] }

abbrev pub helped_labels : List Label
helped_labels =
    record { client = 0; what = Invoked 0 []; marks = [] } ∷
    record { client = 1; what = Invoked 0 []; marks = [] } ∷
    record { client = 1; what = Moved 0 Next; marks = [] } ∷
    record { client = 1; what = Moved 1 Then; marks = helped_mark ∷ [] } ∷ []

-- its call is in the order of the run
abbrev pub HelpedCall : Type 0
HelpedCall =
    ((end : World) × Runs helping (start_world helping 2) helped_labels end)
    × (history helped_labels ≡ Called 0 (record { op = 0; numbers = [] }) ∷ Called 1 (record { op = 0; numbers = [] }) ∷ [])
    × (order helped_labels ≡ record { client = 0; call = record { op = 0; numbers = [] }; choice = InOrder; reply = pos 0 ∷ [] } ∷ [])
