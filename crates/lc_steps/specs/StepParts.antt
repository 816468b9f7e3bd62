-- What is returned when parts of a step are done.
use Rattle.std.specs.Prelude.{◌≡◌, ℕ, true, false, Bool, List, ℤ, Option, Some, None, Result, Ok, Err, Vec, slice_get}
use Rattle.std.specs.List.{list_all}
use Rattle.std.specs.declared.alloc.Global.{Global}
use Rattle.lc_term.specs.Meaning.{State}
use Rattle.lc_term.specs.SystemColumns.{column_count}
use Rattle.lc_term.specs.Updates.{stored_all}
use Rattle.lc_object.specs.Syntax.{Object, Point}
use Rattle.lc_object.specs.declared.instr.EdgeKind.{EdgeKind}
use Rattle.lc_object.specs.declared.instr.EdgeKind.TheVariants.{Next}
use Rattle.lc_machine.specs.Effects.{IsEffect}
use Rattle.lc_machine.specs.Step as M
use Rattle.lc_machine.specs.Step.{Event, Outcome, Goes, Answers}
use Rattle.lc_machine.specs.View.{client_of}
use Rattle.lc_machine.specs.World as W
use Rattle.lc_machine.specs.declared.effects.Effect.{Effect}
use Rattle.lc_machine.specs.declared.fault.StepFault.{StepFault}
use Rattle.lc_machine.specs.declared.fault.StepFault.TheVariants.{NoClient, Busy, Idle, NoOp, Arity, Overflow, OutOfMemory}
use Rattle.lc_seq.specs.declared.fault.SeqFault.{SeqFault}
use Rattle.lc_seq.specs.declared.fault.SeqFault.TheVariants as Q
use Rattle.lc_outline.specs.Development.{Development, first_system, riders_at}
use Rattle.lc_rider.specs.Rider.{return_writes}
use Rattle.lc_ride.specs.RideView.{marks_of, rider_is_evaluable}
use Rattle.lc_ride.specs.Riding.{Ridden}
use Rattle.lc_ride.specs.declared.marks.Mark.{Mark}
use Rattle.lc_steps.specs.Replies.{is_justified, ReplyFits}
use Rattle.lc_steps.specs.Stepping.{BehindFits, done_behind}
use Rattle.lc_steps.specs.StepView.{what_of}
use Rattle.lc_steps.specs.declared.steps.Step.{Step}

-- what a fault says of whether the numbers that are reached fit
abbrev pub step_says : StepFault → Type 0 → Type 0
step_says Overflow fits = fits → ⊥
step_says OutOfMemory fits = Unit {0}
step_says NoClient fits = ⊥
step_says Busy fits = ⊥
step_says Idle fits = ⊥
step_says NoOp fits = ⊥
step_says Arity fits = ⊥

-- ---- the instruction

-- the effect of the instruction at this point, with these variables
abbrev pub IsEffectHere : Object → ℕ → List ℤ → State → Result Effect StepFault → Type 0
IsEffectHere object p variables s r =
    (point : Point) × (slice_get object.points p ≡ Some point) × IsEffect object point.instruction s variables r

-- ---- riders

-- the riders there use existing columns and n variables, and no quantifier occurs in their conditions
abbrev pub AreRidersSeen : Development → ℕ → EdgeKind → ℕ → Type 0
AreRidersSeen D p k n = list_all (rider_is_evaluable (column_count (first_system D)) n) (riders_at D p k) ≡ true

-- a fault of riders, as a fault of a step
abbrev pub fault_as : SeqFault → StepFault
fault_as Q.Overflow = Overflow
fault_as Q.OutOfMemory = OutOfMemory

-- the answer if riders are done that would make these marks and leave these columns, if they can be done
abbrev pub AreRidden : Type 0 → Option Ridden → State → Result (Option (Vec Mark Global)) StepFault → Type 0
AreRidden fits wanted columns (Ok (Some marks)) = fits × (wanted ≡ Some (marks_of marks.items, columns))
AreRidden fits wanted columns (Ok None) = fits × (wanted ≡ None)
AreRidden fits wanted columns (Err fault) = step_says fault fits

-- ---- a return

-- the answer if a call returns in columns m: it is no call then, if the numbers are justified
abbrev pub IsReturned : ℕ → State → ℕ → List ℤ → State → Result Bool StepFault → Type 0
IsReturned first m c numbers columns (Ok true) =
    ReplyFits first m c numbers × (is_justified first m c numbers ≡ true) × (columns ≡ stored_all m (return_writes first c))
IsReturned first m c numbers columns (Ok false) = ReplyFits first m c numbers × (is_justified first m c numbers ≡ false)
IsReturned first m c numbers columns (Err fault) = step_says fault (ReplyFits first m c numbers)

-- ---- what is done after an instruction

-- the edge whose riders are done, and the variables that these see: a return has one edge, and no variables after it
abbrev pub rider_edge : EdgeKind → Outcome → EdgeKind
rider_edge k (Goes q new) = k
rider_edge k (Answers numbers) = Next

abbrev pub rider_variables : List ℤ → Outcome → List ℤ
rider_variables variables (Goes q new) = new
rider_variables variables (Answers numbers) = variables

-- what a client at point p has done, and where it is then
abbrev pub event_of : ℕ → EdgeKind → Outcome → Event
event_of p k (Goes q new) = M.Moved p k
event_of p k (Answers numbers) = M.Returned numbers

abbrev pub reached : Outcome → W.Client
reached (Goes q new) = W.In q new
reached (Answers numbers) = W.Idle

-- the answer if this step would be reported, with these marks and columns, if there is one
abbrev pub IsTold : Type 0 → Option Ridden → Event → W.Client → State → Result (Option Step) StepFault → Type 0
IsTold fits wanted what client columns (Ok (Some t)) =
    fits × (wanted ≡ Some (marks_of t.marks.items, columns)) × (what_of t.what ≡ what) × (client_of t.client ≡ client)
IsTold fits wanted what client columns (Ok None) = fits × (wanted ≡ None)
IsTold fits wanted what client columns (Err fault) = step_says fault fits

-- the answer if what comes after an instruction is done
abbrev pub IsBehind : Development → ℕ → ℕ → List ℤ → EdgeKind → State → Outcome → State → Result (Option Step) StepFault → Type 0
IsBehind D c p variables k s outcome columns r =
    IsTold (BehindFits D c p variables k s outcome) (done_behind D c p variables k s outcome) (event_of p k outcome) (reached outcome) columns r
