-- What the judge of an order answers.
use Rattle.std.specs.Prelude.{◌≡◌, ◌<◌, ℕ, suc, List, [], ◌∷◌, Some, length, take, slice_get, Result, Ok, Err}
use Rattle.lc_seq.specs.Sequential.{Call, Sequential, Step, Choice}
use Rattle.lc_history.specs.History.{Event, Entry, Linearizes}
use Rattle.lc_history.specs.Tests.{Passes, IsTested, NamesItsCall, HasItsReply, rank}
use Rattle.lc_history.specs.declared.reason.Reason.{Reason}
use Rattle.lc_history.specs.declared.reason.Reason.TheVariants.{OtherCall, OtherReply, MissingCall, NoStep, Preceded}
use Rattle.lc_history.specs.declared.judging.JudgeFault.{JudgeFault}
use Rattle.lc_history.specs.declared.judging.JudgeFault.TheVariants.{Order, Overflow, OutOfMemory}

-- the tests at each earlier place are passed
abbrev pub PassesBefore : {A : Type 0} → Sequential A → A → List Event → List Entry → ℕ → Type 0
PassesBefore step start history order place =
    (p : ℕ) (reason : Reason) → p < place → IsTested (length order) reason p → Passes step start history order reason p

-- this is the first test that is not passed
pub record IsFirstFailure {A : Type 0} (step : Sequential A) (start : A) (history : List Event) (order : List Entry) (place : ℕ) (reason : Reason) : Type 0 where
  pub tested : IsTested (length order) reason place
  pub fails : Passes step start history order reason place → ⊥
  pub places : PassesBefore step start history order place
  pub reasons : (other : Reason) → rank other < rank reason → IsTested (length order) other place → Passes step start history order other place

-- the entries lead from one state to another
abbrev pub Leads : {A : Type 0} → Sequential A → A → List Entry → A → Type 0
Leads step s [] t = s ≡ t
Leads {A} step s (e ∷ es) t = (u : A) × Step step s e.client e.call e.choice u e.reply × Leads step u es t

-- the numbers that are reached fit when the calls of entries are applied one after the other
abbrev pub FitsAlong : {A : Type 0} → Sequential A → (A → ℕ → Call → Choice → Type 0) → A → List Entry → Type 0
FitsAlong step Fits s [] = Unit {0}
FitsAlong {A} step Fits s (e ∷ es) = Fits s e.client e.call e.choice × ((t : A) → Step step s e.client e.call e.choice t e.reply → FitsAlong step Fits t es)

-- how many calls are applied up to a test: the call of its own place only if the test is about its step
abbrev pub applied : Reason → ℕ → ℕ
applied OtherCall place = place
applied OtherReply place = place
applied MissingCall place = place
applied NoStep place = suc place
applied Preceded place = suc place

-- the numbers fit up to this place, the entry is its client's call with its reply, and a number leaves what the object computes with when that call
-- is applied
pub record IsOverflow {A : Type 0} (step : Sequential A) (Fits : A → ℕ → Call → Choice → Type 0) (start : A) (history : List Event) (order : List Entry) (place : ℕ) : Type 0 where
  pub entry : Entry
  pub state : A
  pub stands : slice_get order place ≡ Some entry
  pub places : PassesBefore step start history order place
  pub call : NamesItsCall history order place
  pub reply : HasItsReply history order place
  pub leads : Leads step start (take place order) state
  pub fits : FitsAlong step Fits start (take place order)
  pub overflows : Fits state entry.client entry.call entry.choice → ⊥

-- what is returned for an order: whether it linearizes the history, and that the numbers fit that were reached; or that they do not
abbrev pub IsJudged : {A : Type 0} → Sequential A → (A → ℕ → Call → Choice → Type 0) → A → List Event → List Entry → Result (Unit {0}) JudgeFault → Type 0
IsJudged step Fits start history order (Ok done) = Linearizes step start history order × FitsAlong step Fits start order
IsJudged step Fits start history order (Err (Order place reason)) =
    IsFirstFailure step start history order place reason × (Linearizes step start history order → ⊥) × FitsAlong step Fits start (take (applied reason place) order)
IsJudged step Fits start history order (Err Overflow) = (place : ℕ) × IsOverflow step Fits start history order place
IsJudged step Fits start history order (Err OutOfMemory) = Unit {0}

-- an answer other than `OutOfMemory`
abbrev pub IsTold : Result (Unit {0}) JudgeFault → Type 0
IsTold (Ok done) = Unit {0}
IsTold (Err (Order place reason)) = Unit {0}
IsTold (Err Overflow) = Unit {0}
IsTold (Err OutOfMemory) = ⊥
