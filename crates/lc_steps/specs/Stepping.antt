-- Instrumented steps of a client, from what its instruction does and what the riders beside it do; and the numbers that are reached.
use Rattle.std.specs.Prelude.{ℕ, List, ℤ, Option, Some, None, cond, slice_set}
use Rattle.lc_term.specs.Meaning.{State}
use Rattle.lc_term.specs.Updates.{stored_all, variable}
use Rattle.lc_object.specs.Places.{operation_at}
use Rattle.lc_object.specs.Syntax.{Instr}
use Rattle.lc_object.specs.declared.instr.EdgeKind.{EdgeKind}
use Rattle.lc_object.specs.declared.instr.EdgeKind.TheVariants.{Next}
use Rattle.lc_machine.specs.Fits.{InstructionFits}
use Rattle.lc_machine.specs.Step.{Event, Steps, IsRunning, Does, Outcome, Goes, Answers}
use Rattle.lc_machine.specs.World.{World, Client}
use Rattle.lc_outline.specs.Development.{Development, first_system, riders_at}
use Rattle.lc_rider.specs.Rider.{Mark, return_writes}
use Rattle.lc_ride.specs.Riding.{Ridden, do_all}
use Rattle.lc_ride.specs.RidingFits.{RidersFit}
use Rattle.lc_sound.specs.Instrumented.{Instrumented}
use Rattle.lc_steps.specs.Replies.{is_justified, ReplyFits}

-- the world with these columns, and this client so
abbrev pub world_with : World → State → ℕ → Client → World
world_with w columns c client = record { columns = columns; clients = slice_set w.clients c client }

-- the client's bare step has no instrumented step over it: a mark is not lawful, or a return not justified
abbrev pub IsUnlawful : Development → World → ℕ → Type 0
IsUnlawful D w c =
    (what : Event) × (mid : World) × Steps D.object w c what mid
    × ((marks : List Mark) (v : World) → Instrumented D w c what marks v → ⊥)

-- what the riders beside an edge do, with these variables and columns after the instruction
abbrev pub ridden : Development → ℕ → ℕ → EdgeKind → List ℤ → State → Option Ridden
ridden D c p k variables s = do_all D.specification.operations (first_system D) c (operation_at D.object p) (variable variables) s (riders_at D p k)

-- the marks, and the columns after a return, if its riders came to this and the numbers are justified
abbrev pub answered : ℕ → ℕ → List ℤ → Option Ridden → Option Ridden
answered first c numbers None = None
answered first c numbers (Some r) = cond (is_justified first r.1 c numbers) (Some (r.0, stored_all r.1 (return_writes first c))) None

-- the marks and the columns after an instruction that leaves columns s
abbrev pub done_behind : Development → ℕ → ℕ → List ℤ → EdgeKind → State → Outcome → Option Ridden
done_behind D c p variables k s (Goes q new) = ridden D c p k new s
done_behind D c p variables k s (Answers numbers) = answered (first_system D) c numbers (ridden D c p Next variables s)

-- ---- the numbers that are reached. Each definition says that each of them fits 64 bits

abbrev pub RiddenFits : Development → ℕ → ℕ → EdgeKind → List ℤ → State → Type 0
RiddenFits D c p k variables s = RidersFit D.specification.operations (first_system D) c (operation_at D.object p) (variable variables) s (riders_at D p k)

-- of a return's justification, if the riders can be done
abbrev pub JustifiedFits : ℕ → ℕ → List ℤ → Option Ridden → Type 0
JustifiedFits first c numbers None = Unit {0}
JustifiedFits first c numbers (Some r) = ReplyFits first r.1 c numbers

-- after an instruction that leaves columns s: the numbers of the riders, and for a return those of its justification
abbrev pub BehindFits : Development → ℕ → ℕ → List ℤ → EdgeKind → State → Outcome → Type 0
BehindFits D c p variables k s (Goes q new) = RiddenFits D c p k new s
BehindFits D c p variables k s (Answers numbers) =
    RiddenFits D c p Next variables s × JustifiedFits (first_system D) c numbers (ridden D c p Next variables s)

-- of a step at a point with this instruction, in columns m
abbrev pub InstrumentedFits : Development → State → ℕ → ℕ → List ℤ → Instr → Type 0
InstrumentedFits D m c p variables i =
    InstructionFits D.object m variables i
    × ((k : EdgeKind) (s : State) (outcome : Outcome) → Does D.object m variables i k s outcome → BehindFits D c p variables k s outcome)

-- the client is in a call, and each number that its step reaches fits
abbrev pub StepFits : Development → World → ℕ → Type 0
StepFits D w c =
    (p : ℕ) × (variables : List ℤ) × (i : Instr) × IsRunning D.object w c p variables i × InstrumentedFits D w.columns c p variables i

-- the client is in a call, and a number that its step reaches does not fit
abbrev pub StepOverflows : Development → World → ℕ → Type 0
StepOverflows D w c =
    (p : ℕ) × (variables : List ℤ) × (i : Instr) × IsRunning D.object w c p variables i × (InstrumentedFits D w.columns c p variables i → ⊥)
