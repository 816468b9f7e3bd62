-- What is returned if a client takes an instrumented step, reported before it is kept.
use Rattle.std.specs.Prelude.{◌≡◌, ℕ, ◌≤◌, List, ℤ, Option, Some, None, Result, Ok, Err, length, slice_get}
use Rattle.lc_base.specs.Limits.{reply_limit}
use Rattle.lc_ride.specs.Drafts.{saved_in_draft}
use Rattle.lc_term.specs.Meaning.{State}
use Rattle.lc_ride.specs.declared.draft.Draft.{Draft}
use Rattle.lc_object.specs.Syntax.{Operation}
use Rattle.lc_machine.specs.Answered.{IsInCall}
use Rattle.lc_machine.specs.Step as M
use Rattle.lc_machine.specs.Step.{Event, IsClient}
use Rattle.lc_machine.specs.View.{client_of, clients_of}
use Rattle.lc_machine.specs.World as W
use Rattle.lc_machine.specs.World.{World}
use Rattle.lc_machine.specs.declared.client.Client.{Client}
use Rattle.lc_machine.specs.declared.fault.StepFault.{StepFault}
use Rattle.lc_machine.specs.declared.fault.StepFault.TheVariants.{NoClient, Busy, Idle, NoOp, Arity, Overflow, OutOfMemory}
use Rattle.lc_outline.specs.Development.{Development}
use Rattle.lc_ride.specs.RideView.{marks_of}
use Rattle.lc_sound.specs.Instrumented.{Instrumented}
use Rattle.lc_steps.specs.Stepping.{world_with, IsUnlawful, StepFits, StepOverflows}
use Rattle.lc_steps.specs.declared.steps.Step.{Step}
use Rattle.lc_steps.specs.declared.steps.What.{What}
use Rattle.lc_steps.specs.declared.steps.What.TheVariants.{Invoked, Moved, Returned}

abbrev pub what_of : What → Event
what_of (Invoked op numbers) = M.Invoked op.0 numbers.items
what_of (Moved point edge) = M.Moved point.0 edge
what_of (Returned numbers) = M.Returned numbers.items

-- the world that is saved in the draft, if the clients are so
abbrev pub world_in : Draft → List Client → World
world_in draft clients = record { columns = saved_in_draft draft; clients = clients_of clients }

-- no call begins, and a return has few numbers
abbrev pub GoesOn : Event → Type 0
GoesOn (M.Invoked op numbers) = ⊥
GoesOn (M.Moved point edge) = Unit {0}
GoesOn (M.Returned numbers) = length numbers ≤ reply_limit

-- The answer to `advance`, which writes these columns to the draft: the client's instrumented step; none, if a mark is not
-- lawful or a return not justified; or why it takes none
abbrev pub IsAdvanced : Development → World → ℕ → State → Result (Option Step) StepFault → Type 0
IsAdvanced D w c columns (Ok (Some t)) =
    StepFits D w c × Instrumented D w c (what_of t.what) (marks_of t.marks.items) (world_with w columns c (client_of t.client)) × GoesOn (what_of t.what)
IsAdvanced D w c columns (Ok None) = StepFits D w c × IsUnlawful D w c
IsAdvanced D w c columns (Err NoClient) = length w.clients ≤ c
IsAdvanced D w c columns (Err Idle) = IsClient w c W.Idle
IsAdvanced D w c columns (Err Overflow) = StepOverflows D w c
IsAdvanced D w c columns (Err OutOfMemory) = IsInCall w c
IsAdvanced D w c columns (Err Busy) = ⊥
IsAdvanced D w c columns (Err NoOp) = ⊥
IsAdvanced D w c columns (Err Arity) = ⊥

-- the client may call this operation with these numbers
abbrev pub MayBegin : Development → World → ℕ → ℕ → List ℤ → Type 0
MayBegin D w c op ns =
    IsClient w c W.Idle × ((o : Operation) × (slice_get D.object.operations op ≡ Some o) × (length ns ≡ length o.arguments))

-- The answer to `begin`: the client's invocation, or why there is none
abbrev pub IsBegun : Development → World → ℕ → ℕ → List ℤ → State → Result Step StepFault → Type 0
IsBegun D w c op ns columns (Ok t) =
    Instrumented D w c (what_of t.what) (marks_of t.marks.items) (world_with w columns c (client_of t.client)) × (what_of t.what ≡ M.Invoked op ns)
IsBegun D w c op ns columns (Err NoClient) = length w.clients ≤ c
IsBegun D w c op ns columns (Err Busy) = IsInCall w c
IsBegun D w c op ns columns (Err NoOp) = IsClient w c W.Idle × (length D.object.operations ≤ op)
IsBegun D w c op ns columns (Err Arity) =
    IsClient w c W.Idle × ((o : Operation) × (slice_get D.object.operations op ≡ Some o) × (length ns ≡ length o.arguments → ⊥))
IsBegun D w c op ns columns (Err OutOfMemory) = MayBegin D w c op ns
IsBegun D w c op ns columns (Err Idle) = ⊥
IsBegun D w c op ns columns (Err Overflow) = ⊥
