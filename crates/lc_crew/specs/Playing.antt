-- What a client makes of its scripts, by what its seat's list grows by.
use Rattle.std.specs.Prelude.{◌≡◌, ℕ, zero, suc, ◌<◌, ◌==◌, ◌⊎◌, cond, List, [], ◌∷◌, ◌++◌, Option, Some, None, ℤ, Vec}
use Rattle.std.specs.declared.alloc.Global.{Global}
use Rattle.lc_machine.specs.Step.{Event, Invoked}
use Rattle.lc_plan.specs.Plans.{Calls, Script}
use Rattle.lc_run.specs.Running.{IsCalled, IsLeft, IsUnderWay}
use Rattle.lc_run.specs.declared.fault.RunFault.{RunFault}
use Rattle.lc_run.specs.declared.fault.RunFault.TheVariants as run
use Rattle.lc_run.specs.declared.runner.Called.{Called}
use Rattle.lc_run.specs.declared.runner.Called.TheVariants as called
use Rattle.lc_sound.specs.Instrumented.{Label}
use Rattle.lc_crew.specs.declared.halt.Halt.{Halt}
use Rattle.lc_crew.specs.declared.halt.Halt.TheVariants.{Spent, Overflow, Full}

-- a call of at most `turns` turns was made, and returned
abbrev pub HasReturned : (turns : ℕ) (call : Event) (c : ℕ) (before after : List Label) → Type 0
HasReturned turns call c before after = (numbers : Vec ℤ Global) × IsCalled (called.Returned numbers) turns call c before after

-- a call was made and did not return: its turns are spent; or it could not go on, if it could begin, as it did if a number leaves
-- 64 bits
abbrev pub HasStopped : Halt → (turns : ℕ) (call : Event) (c : ℕ) (before after : List Label) → Type 0
HasStopped Spent turns call c before after = IsCalled called.TurnsSpent turns call c before after
HasStopped Overflow turns call c before after = IsUnderWay turns call c before after
HasStopped Full turns call c before after = IsLeft turns call c before after

-- why no further call is made after one that came to this
abbrev pub halt_behind : Called → Option Halt
halt_behind (called.Returned numbers) = None
halt_behind called.TurnsSpent = Some Spent

-- after these faults of a call its client makes no further one
abbrev pub IsHaltAt : RunFault → Halt → Type 0
IsHaltAt fault Spent = ⊥
IsHaltAt fault Overflow = fault ≡ run.Overflow
IsHaltAt fault Full = fault ≡ run.Full

-- one call, which returned or did not
abbrev pub HasMadeOne : Option Halt → (turns : ℕ) (call : Event) (c : ℕ) (before after : List Label) → Type 0
HasMadeOne None turns call c before after = HasReturned turns call c before after
HasMadeOne (Some halt) turns call c before after = HasStopped halt turns call c before after

-- n such calls, one after another, each of which returned
abbrev pub HaveReturned : ℕ → (turns : ℕ) (call : Event) (c : ℕ) (before after : List Label) → Type 0
HaveReturned zero turns call c before after = after ≡ before
HaveReturned (suc n) turns call c before after = (mid : List Label) × HaveReturned n turns call c before mid × HasReturned turns call c mid after

-- the call of a step
abbrev pub event_of : Calls → Event
event_of k = Invoked k.call.op k.call.numbers

-- The calls of a step of a script: all; or fewer, and one that did not return
abbrev pub HasMadeCalls : Option Halt → Calls → (c : ℕ) (before after : List Label) → Type 0
HasMadeCalls None k c before after = HaveReturned k.count k.turns (event_of k) c before after
HasMadeCalls (Some halt) k c before after =
    (n : ℕ) × (n < k.count) × ((mid : List Label) × HaveReturned n k.turns (event_of k) c before mid × HasStopped halt k.turns (event_of k) c mid after)

-- The calls of a script, step by step: all; or those of fewer steps, and then a step with a call that did not return
abbrev pub HasPlayed : Option Halt → List Calls → (c : ℕ) (before after : List Label) → Type 0
HasPlayed None [] c before after = after ≡ before
HasPlayed (Some halt) [] c before after = ⊥
HasPlayed None (k ∷ ks) c before after = (mid : List Label) × HasMadeCalls None k c before mid × HasPlayed None ks c mid after
HasPlayed (Some halt) (k ∷ ks) c before after =
    HasMadeCalls (Some halt) k c before after ⊎ ((mid : List Label) × HasMadeCalls None k c before mid × HasPlayed (Some halt) ks c mid after)

-- The same of a client that may be halted before: then it makes none
abbrev pub HasPlayedFrom : (before after : Option Halt) → List Calls → (c : ℕ) (made made' : List Label) → Type 0
HasPlayedFrom None after ks c made made' = HasPlayed after ks c made made'
HasPlayedFrom (Some halt) after ks c made made' = (after ≡ Some halt) × (made' ≡ made)

-- a client's calls in a phase
abbrev pub calls_in : ℕ → List Script → List Calls
calls_in c [] = []
calls_in c (s ∷ ss) = cond (s.client == c) (s.calls ++ calls_in c ss) (calls_in c ss)

-- and in all phases, one after another
abbrev pub planned : ℕ → List (List Script) → List Calls
planned c [] = []
planned c (p ∷ ps) = calls_in c p ++ planned c ps
