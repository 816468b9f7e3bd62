-- Lists of labels that grow, and why a client takes no step.
use Rattle.std.proofs.Common.{◌≡◌, ℕ, ◌-◌, ◌≤◌, true, List, [], ◌∷◌, ◌++◌, ℤ, Some, Err, length, refl, sym, ap, subst, ◌∙◌, arith}
use Rattle.std.specs.Prelude.{Result, Ok, IfOk, IfErr, IfSome, IsErrAnd}
use Rattle.std.proofs.lemmas.List.{append-nil, length-append}
use Rattle.std.proofs.lemmas.Option.{same_Some, slice_get_within}
use Rattle.lc_history.proofs.Tables.{slice_get-last}
use Rattle.lc_run.specs.Limits.{label_limit}
use Rattle.lc_term.specs.Meaning.{State}
use Rattle.lc_machine.specs.Answered.{IsInCall}
use Rattle.lc_machine.specs.Step.{Event, IsClient}
use Rattle.lc_machine.specs.World as W
use Rattle.lc_machine.specs.World.{World}
use Rattle.lc_machine.specs.declared.fault.StepFault.{StepFault}
use Rattle.lc_machine.specs.declared.fault.StepFault.TheVariants as step
use Rattle.lc_outline.specs.Development.{Development}
use Rattle.lc_sound.specs.Instrumented.{Label}
use Rattle.lc_steps.specs.StepView.{GoesOn, IsAdvanced, IsBegun, MayBegin}
use Rattle.lc_run.specs.Labels.{last_of, is_unfinished, HasMade, HasMoved}
use Rattle.lc_run.specs.Running.{IsSaid}
use Rattle.lc_run.specs.Taken.{fault_as, HaveRoom, IsUntold, IsStepFault, MayStep}
use Rattle.lc_run.specs.declared.fault.RunFault.{RunFault}
use Rattle.lc_run.specs.declared.fault.RunFault.TheVariants.{Clients, Busy, Idle, NoOp, Arity, Mismatch, Full, Overflow, OutOfMemory}
use Rattle.lc_run.specs.declared.runner.Progress.{Progress}
use Rattle.lc_run.specs.declared.runner.Progress.TheVariants as progress

-- ---- faults

not-past : (w : World) (c : ℕ) (k : W.Client) → IsClient w c k → length w.clients ≤ c → ⊥
not-past w c k is le = let h = slice_get_within w.clients c k is in omega arith

-- a client in a call has no other fault than that a number leaves 64 bits, and `OutOfMemory`
pub fault_is_untold : (D : Development) (w : World) (c : ℕ) (columns : State) (fault : StepFault) → IsInCall w c → IsAdvanced D w c columns (Err fault) → IsUntold D w c (fault_as fault)
fault_is_untold D w c columns step.NoClient (p, vs, is) h = not-past w c (W.In p vs) is h
fault_is_untold D w c columns step.Idle (p, vs, is) h = absurd (let same : W.In p vs ≡ W.Idle = same_Some (W.In p vs) W.Idle (sym is ∙ h) in cc)
fault_is_untold D w c columns step.Overflow there h = h
fault_is_untold D w c columns step.OutOfMemory there h = h
fault_is_untold D w c columns step.Busy there h = h
fault_is_untold D w c columns step.NoOp there h = h
fault_is_untold D w c columns step.Arity there h = h

-- it is as one of a run
pub as-step : (D : Development) (w : World) (held made : List Label) (c : ℕ) (fault : RunFault) → HaveRoom held → IsUntold D w c fault → IsStepFault D w held c made fault
as-step D w held made c Overflow room h = (h, room)
as-step D w held made c OutOfMemory room h = (h, room)
as-step D w held made c Clients room h = h
as-step D w held made c Busy room h = h
as-step D w held made c Idle room h = absurd h
as-step D w held made c NoOp room h = h
as-step D w held made c Arity room h = h
as-step D w held made c Mismatch room h = absurd h
as-step D w held made c Full room h = absurd h

-- a client that may not take a step
pub step_is_faulted : (D : Development) (w : World) (held made : List Label) (c n : ℕ) (fault : RunFault) → n ≡ length held → is_unfinished made ≡ true → MayStep w.clients c n (Err fault) → IsStepFault D w held c made fault
step_is_faulted D w held made c n Mismatch same goes h = (goes, h)
step_is_faulted D w held made c n Full same goes h = (h.0, subst (λ k. label_limit ≤ k) same h.1)
step_is_faulted D w held made c n Clients same goes h = h
step_is_faulted D w held made c n Busy same goes h = h
step_is_faulted D w held made c n Idle same goes h = absurd h
step_is_faulted D w held made c n NoOp same goes h = h
step_is_faulted D w held made c n Arity same goes h = h
step_is_faulted D w held made c n Overflow same goes h = absurd h
step_is_faulted D w held made c n OutOfMemory same goes h = absurd h

-- what holds in any case
pub if-done : {T E : Type 0} (r : Result T E) (P : Type 0) → P → IfOk r (λ _. P)
if-done (Ok x) P h = h
if-done (Err e) P h = tt

-- a fault that is handed on
pub handed-on : {T E : Type 0} (P : E → Type 0) (r : Result T E) (e : E) → IsErrAnd r (λ f. f ≡ e) → P e → IfErr r P
handed-on P (Ok x) e is h = tt
handed-on P (Err f) e is h = subst P (sym is) h

-- what is said of a fault, in other words
pub fault-as : {T E : Type 0} (P Q : E → Type 0) (r : Result T E) → ((e : E) → P e → Q e) → IfErr r P → IfErr r Q
fault-as P Q (Ok x) f h = tt
fault-as P Q (Err e) f h = f e h

-- a client that may begin a call does, but for `OutOfMemory`
pub fault_of_begun : (D : Development) (w : World) (c op : ℕ) (ns : List ℤ) (columns : State) (fault : StepFault) → MayBegin D w c op ns → IsBegun D w c op ns columns (Err fault) → fault_as fault ≡ OutOfMemory
fault_of_begun D w c op ns columns step.NoClient (is, (o, there, count)) h = absurd (not-past w c W.Idle is h)
fault_of_begun D w c op ns columns step.Busy (is, (o, there, count)) (p, vs, other) = absurd (let same : W.In p vs ≡ W.Idle = same_Some (W.In p vs) W.Idle (sym other ∙ is) in cc)
fault_of_begun D w c op ns columns step.NoOp (is, (o, there, count)) h = absurd (let k = slice_get_within D.object.operations op o there in let le = h.1 in omega arith)
fault_of_begun D w c op ns columns step.Arity (is, (o, there, count)) (idle, (p, at, other)) = absurd (other (count ∙ ap (λ x. length x.arguments) (same_Some o p (sym there ∙ at))))
fault_of_begun D w c op ns columns step.OutOfMemory may h = refl
fault_of_begun D w c op ns columns step.Idle may h = absurd h
fault_of_begun D w c op ns columns step.Overflow may h = absurd h

-- ---- labels

-- no move
pub none-moved : (c : ℕ) (ls : List Label) → HasMoved c 0 ls ls
none-moved c ls = record { moves = []; count = refl; each = tt; grown = sym (append-nil ls) }

-- the last of these labels
last-is : (before : List Label) (l : Label) → last_of (before ++ l ∷ []) ≡ Some l
last-is before l = slice_get-last before l (length (before ++ l ∷ []) - 1) (let n = length-append before (l ∷ []) in omega arith)

-- what holds of the label that was made holds of the last one
pub goes-last : (l : Label) (before after ls : List Label) → ls ≡ after → after ≡ before ++ l ∷ [] → GoesOn l.what → IfSome (last_of ls) (λ (x : Label). GoesOn x.what)
goes-last l before after ls same grown goes = subst (λ o. IfSome o (λ (x : Label). GoesOn x.what)) (sym (ap last_of (same ∙ grown) ∙ last-is before l)) goes

-- what is said of the last label is said of the one that was made
pub said-made : (progress : Progress) (c : ℕ) (l : Label) (before after : List Label) → l.client ≡ c → after ≡ before ++ l ∷ [] → IfSome (last_of after) (λ (x : Label). IsSaid progress x.what) → HasMade (IsSaid progress) c before after
said-made progress c l before after client grown said =
    record { label = l; client = client; what = subst (λ o. IfSome o (λ (x : Label). IsSaid progress x.what)) (ap last_of grown ∙ last-is before l) said; grown = grown }

-- ---- calls

-- of a call that goes on
pub record HasRun (call : Event) (c k : ℕ) (before after : List Label) : Type 0 where
  pub begun : List Label
  pub first : HasMade (λ what. what ≡ call) c before begun
  pub moved : HasMoved c k begun after

pub run-first : (call : Event) (c : ℕ) (before after : List Label) → HasMade (λ what. what ≡ call) c before after → HasRun call c 0 before after
run-first call c before after m = record { begun = after; first = m; moved = none-moved c after }
