-- What an instruction does, before it is done.
use Rattle.std.specs.Prelude.{◌≡◌, ◌≤◌, List, length, Some, Result, Ok, Err, ℤ}
use Rattle.lc_base.specs.Limits.{reply_limit}
use Rattle.lc_term.specs.Meaning.{State}
use Rattle.lc_term.specs.Updates.{Write, stored_all, AreWithin}
use Rattle.lc_term.specs.UpdateView.{writes_view}
use Rattle.lc_object.specs.Syntax.{Instr, Object}
use Rattle.lc_object.specs.declared.instr.EdgeKind.{EdgeKind}
use Rattle.lc_machine.specs.World.{initial_numbers}
use Rattle.lc_machine.specs.Step as S
use Rattle.lc_machine.specs.Step.{Does, Outcome}
use Rattle.lc_machine.specs.Fits.{InstructionFits}
use Rattle.lc_machine.specs.MayRun.{variables_at}
use Rattle.lc_machine.specs.View.{variables_of}
use Rattle.lc_machine.specs.declared.effects.Effect.{Effect}
use Rattle.lc_machine.specs.declared.effects.Fate.{Fate}
use Rattle.lc_machine.specs.declared.effects.Fate.TheVariants.{Goes, Answers}
use Rattle.lc_machine.specs.declared.fault.StepFault.{StepFault}
use Rattle.lc_machine.specs.declared.fault.StepFault.TheVariants.{NoClient, Busy, Idle, NoOp, Arity, Overflow, OutOfMemory}

abbrev pub outcome_of : Fate → Outcome
outcome_of (Goes place) = S.Goes place.point.0 (variables_of place)
outcome_of (Answers numbers) = S.Answers numbers.items

abbrev pub writes_in : Effect → List Write
writes_in effect = writes_view effect.writes.items

-- an effect has this edge, stores this, and this becomes of the client
abbrev pub HasParts : EdgeKind → List Write → Outcome → Effect → Type 0
HasParts edge writes outcome effect = (effect.edge ≡ edge) × (writes_in effect ≡ writes) × (outcome_of effect.fate ≡ outcome)

-- a client that goes to a point has the variables of that place; a call returns three numbers at most
abbrev pub IsReached : Object → Outcome → Type 0
IsReached object (S.Goes point variables) = variables_at object point ≡ Some (length variables)
IsReached object (S.Answers numbers) = length numbers ≤ reply_limit

-- the effect of an instruction: its step, if each number that is reached fits; or why there is none
abbrev pub IsEffect : Object → Instr → State → List ℤ → Result Effect StepFault → Type 0
IsEffect object i s variables (Ok effect) =
    InstructionFits object s variables i
    × Does object s variables i effect.edge (stored_all s (writes_in effect)) (outcome_of effect.fate)
    × IsReached object (outcome_of effect.fate)
    × AreWithin (length (initial_numbers object)) (writes_in effect)
IsEffect object i s variables (Err Overflow) = InstructionFits object s variables i → ⊥
IsEffect object i s variables (Err OutOfMemory) = InstructionFits object s variables i
IsEffect object i s variables (Err NoClient) = ⊥
IsEffect object i s variables (Err Busy) = ⊥
IsEffect object i s variables (Err Idle) = ⊥
IsEffect object i s variables (Err NoOp) = ⊥
IsEffect object i s variables (Err Arity) = ⊥
