-- What the machine answers, and the world after it.
use Rattle.std.specs.Prelude.{◌≡◌, ℕ, ℤ, ◌≤◌, List, length, slice_get, Some, Result, Ok, Err}
use Rattle.lc_base.specs.Limits.{reply_limit}
use Rattle.lc_object.specs.Syntax.{Instr, Operation, Object}
use Rattle.lc_machine.specs.World as W
use Rattle.lc_machine.specs.World.{In, World}
use Rattle.lc_machine.specs.Step as S
use Rattle.lc_machine.specs.Step.{Steps, IsClient, IsRunning}
use Rattle.lc_machine.specs.Fits.{InstructionFits}
use Rattle.lc_machine.specs.declared.client.Moved.{Moved}
use Rattle.lc_machine.specs.declared.client.Moved.TheVariants.{Went, Returned}
use Rattle.lc_machine.specs.declared.fault.StepFault.{StepFault}
use Rattle.lc_machine.specs.declared.fault.StepFault.TheVariants.{NoClient, Busy, Idle, NoOp, Arity, Overflow, OutOfMemory}

-- the client is in a call, and each number that its instruction reaches fits
abbrev pub StepFits : Object → World → ℕ → Type 0
StepFits object w c = (p : ℕ) × (variables : List ℤ) × (i : Instr) × IsRunning object w c p variables i × InstructionFits object w.columns variables i

-- the client is in a call, and a number that its instruction reaches does not fit
abbrev pub StepOverflows : Object → World → ℕ → Type 0
StepOverflows object w c = (p : ℕ) × (variables : List ℤ) × (i : Instr) × IsRunning object w c p variables i × (InstructionFits object w.columns variables i → ⊥)

-- the answer to `advance`: the client's step, which returns three numbers at most; or why it takes none, and nothing changes
abbrev pub IsAdvanced : Object → World → ℕ → World → Result Moved StepFault → Type 0
IsAdvanced object w c w' (Ok (Went point edge)) =
    StepFits object w c × ((left : ℕ) × Steps object w c (S.Moved left edge) w') × ((variables : List ℤ) × IsClient w' c (In point.0 variables))
IsAdvanced object w c w' (Ok (Returned reply)) = StepFits object w c × Steps object w c (S.Returned reply.items) w' × (length reply.items ≤ reply_limit)
IsAdvanced object w c w' (Err NoClient) = (length w.clients ≤ c) × (w' ≡ w)
IsAdvanced object w c w' (Err Idle) = IsClient w c W.Idle × (w' ≡ w)
IsAdvanced object w c w' (Err Overflow) = StepOverflows object w c × (w' ≡ w)
IsAdvanced object w c w' (Err OutOfMemory) = StepFits object w c × (w' ≡ w)
IsAdvanced object w c w' (Err Busy) = ⊥
IsAdvanced object w c w' (Err NoOp) = ⊥
IsAdvanced object w c w' (Err Arity) = ⊥

-- the client is in a call
abbrev pub IsInCall : World → ℕ → Type 0
IsInCall w c = (p : ℕ) × (variables : List ℤ) × IsClient w c (In p variables)

-- the answer to `invoke`: the invocation; or why there is none, and nothing changes
abbrev pub IsInvoked : Object → World → ℕ → ℕ → List ℤ → World → Result (Unit {0}) StepFault → Type 0
IsInvoked object w c op ns w' (Ok done) = Steps object w c (S.Invoked op ns) w'
IsInvoked object w c op ns w' (Err NoClient) = (length w.clients ≤ c) × (w' ≡ w)
IsInvoked object w c op ns w' (Err Busy) = IsInCall w c × (w' ≡ w)
IsInvoked object w c op ns w' (Err NoOp) = IsClient w c W.Idle × (length object.operations ≤ op) × (w' ≡ w)
IsInvoked object w c op ns w' (Err Arity) =
    IsClient w c W.Idle × ((o : Operation) × (slice_get object.operations op ≡ Some o) × (length ns ≡ length o.arguments → ⊥)) × (w' ≡ w)
IsInvoked object w c op ns w' (Err OutOfMemory) =
    IsClient w c W.Idle × ((o : Operation) × (slice_get object.operations op ≡ Some o) × (length ns ≡ length o.arguments)) × (w' ≡ w)
IsInvoked object w c op ns w' (Err Idle) = ⊥
IsInvoked object w c op ns w' (Err Overflow) = ⊥
