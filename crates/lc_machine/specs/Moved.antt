-- What is returned when a client takes a step, or is to begin a call.
use Rattle.std.specs.Prelude.{◌≡◌, ℕ, ℤ, ◌≤◌, List, length, slice_get, Some, Result, Ok, Err}
use Rattle.lc_base.specs.Limits.{reply_limit}
use Rattle.lc_term.specs.Meaning.{State}
use Rattle.lc_object.specs.Syntax.{Instr, Point, Object}
use Rattle.lc_object.specs.declared.instr.EdgeKind.{EdgeKind}
use Rattle.lc_machine.specs.World as W
use Rattle.lc_machine.specs.World.{Client, In, World}
use Rattle.lc_machine.specs.Step.{Does, Goes, Answers}
use Rattle.lc_machine.specs.Fits.{InstructionFits}
use Rattle.lc_machine.specs.declared.client.Moved.{Moved}
use Rattle.lc_machine.specs.declared.client.Moved.TheVariants.{Went, Returned}
use Rattle.lc_machine.specs.declared.fault.StepFault.{StepFault}
use Rattle.lc_machine.specs.declared.fault.StepFault.TheVariants.{NoClient, Busy, Idle, NoOp, Arity, Overflow, OutOfMemory}

-- a client is at the point p with these variables, whose instruction is this one
pub record IsAt (object : Object) (client : Client) (p : ℕ) (variables : List ℤ) (instruction : Instr) : Type 0 where
  pub client_is : client ≡ In p variables
  pub code : (point : Point) × (slice_get object.points p ≡ Some point) × (point.instruction ≡ instruction)

-- what one client's step makes of the columns and of the client
abbrev pub IsStepped : Object → State → Client → State → Client → Result Moved StepFault → Type 0
IsStepped object s k s' k' (Ok (Went point edge)) =
    (p : ℕ) × (variables : List ℤ) × (i : Instr) × (new : List ℤ) × IsAt object k p variables i × InstructionFits object s variables i
    × Does object s variables i edge s' (Goes point.0 new) × (k' ≡ In point.0 new)
IsStepped object s k s' k' (Ok (Returned reply)) =
    (p : ℕ) × (variables : List ℤ) × (i : Instr) × (edge : EdgeKind) × IsAt object k p variables i × InstructionFits object s variables i
    × Does object s variables i edge s' (Answers reply.items) × (k' ≡ W.Idle) × (length reply.items ≤ reply_limit)
IsStepped object s k s' k' (Err Idle) = (k ≡ W.Idle) × (s' ≡ s) × (k' ≡ k)
IsStepped object s k s' k' (Err Overflow) =
    (p : ℕ) × (variables : List ℤ) × (i : Instr) × IsAt object k p variables i × (InstructionFits object s variables i → ⊥) × (s' ≡ s) × (k' ≡ k)
IsStepped object s k s' k' (Err OutOfMemory) =
    (p : ℕ) × (variables : List ℤ) × (i : Instr) × IsAt object k p variables i × InstructionFits object s variables i × (s' ≡ s) × (k' ≡ k)
IsStepped object s k s' k' (Err NoClient) = ⊥
IsStepped object s k s' k' (Err Busy) = ⊥
IsStepped object s k s' k' (Err NoOp) = ⊥
IsStepped object s k s' k' (Err Arity) = ⊥
