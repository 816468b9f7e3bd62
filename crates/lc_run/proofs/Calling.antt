-- Why a call comes to no end, and what it leaves then.
use Rattle.std.proofs.Common.{◌≡◌, ℕ, ◌-◌, ◌<◌, true, false, List, [], ◌∷◌, ◌++◌, ℤ, length, sym, ap, subst, ◌∙◌, inl, inr, arith, append_assoc}
use Rattle.std.specs.Option.{option_map_or}
use Rattle.std.specs.Prelude.{Result, Ok, Err, IfErr, IsErrAnd, IsErrOf}
use Rattle.std.proofs.Math.Logic.{∥∥₁_elim, ∥∥₁_map}
use Rattle.std.proofs.lemmas.List.{append-nil, length-append}
use Rattle.lc_history.proofs.Tables.{slice_get-last}
use Rattle.lc_term.specs.Lists.{Every}
use Rattle.lc_machine.specs.Step.{Event, Invoked}
use Rattle.lc_sound.specs.Instrumented.{Label}
use Rattle.lc_run.specs.Labels.{goes_on, is_unfinished, IsMoveBy}
use Rattle.lc_run.specs.Locked.{development_held, labels_held, world_held, client_in, labels_made}
use Rattle.lc_run.specs.Running.{IsUnderWay, IsLeftBy, IsUnbegun, IsUnstepped}
use Rattle.lc_run.specs.Taken.{IsBeginFault, IsStepFault}
use Rattle.lc_run.specs.declared.fault.RunFault.{RunFault}
use Rattle.lc_run.specs.declared.fault.RunFault.TheVariants.{Clients, Busy, Idle, NoOp, Arity, Mismatch, Full, Overflow, OutOfMemory}
use Rattle.lc_run.specs.declared.held.Shared.{Shared}
use Rattle.lc_run.specs.declared.held.Seat.{Seat}
use Rattle.lc_run.proofs.Growing.{HasRun}

-- after a label a call is unfinished as the label says
pub last-goes : (before : List Label) (l : Label) → is_unfinished (before ++ l ∷ []) ≡ goes_on l.what
last-goes before l =
    ap (λ o. option_map_or (λ (x : Label). goes_on x.what) o false)
    (slice_get-last before l (length (before ++ l ∷ []) - 1) (let n = length-append before (l ∷ []) in omega arith))

-- moves leave it unfinished
pub moves-go : (c : ℕ) (before moves : List Label) → is_unfinished before ≡ true → Every (IsMoveBy c) moves → is_unfinished (before ++ moves) ≡ true
moves-go c before [] goes each = ap is_unfinished (append-nil before) ∙ goes
moves-go c before (m ∷ ms) goes each =
    ap is_unfinished (sym (append_assoc before (m ∷ []) ms))
    ∙ moves-go c (before ++ m ∷ []) ms (last-goes before m ∙ ap goes_on each.0.1.2) each.1

under-way-goes : (turns op : ℕ) (ns : List ℤ) (c : ℕ) (before after : List Label) → IsUnderWay turns (Invoked op ns) c before after → is_unfinished after ≡ true
under-way-goes turns op ns c before after (begun, k, first, moved, fewer) =
    ap is_unfinished moved.grown ∙ moves-go c begun moved.moves (ap is_unfinished first.grown ∙ (last-goes before first.label ∙ ap goes_on first.what)) moved.each

-- so does a call that has run
pub run-goes : (op : ℕ) (ns : List ℤ) (c k : ℕ) (before mid : List Label) → HasRun (Invoked op ns) c k before mid → is_unfinished mid ≡ true
run-goes op ns c k before mid run =
    ap is_unfinished run.moved.grown ∙ moves-go c run.begun run.moved.moves (ap is_unfinished run.first.grown ∙ (last-goes before run.first.label ∙ ap goes_on run.first.what)) run.moved.each

-- a client in a call is not idle
pub never-idle : {T U : Type 0} (r : Result T RunFault) (fault : RunFault) (ls : List Label) → IsErrAnd r (λ f. f ≡ fault) → is_unfinished ls ≡ true →
    (IsErrOf {T = U} (Err fault) Idle → is_unfinished ls ≡ false) → IsErrOf r Idle → ⊥
never-idle (Ok x) fault ls same goes idle h = cc
never-idle (Err f) fault ls same goes idle h =
    let here : f ≡ Idle = cc in
    let none : is_unfinished ls ≡ false = idle (ap Err (sym same ∙ here)) in
    cc

-- a call whose turns are not spent
pub under-way : (call : Event) (c k turns : ℕ) (before mid after : List Label) → HasRun call c k before mid → k < turns → after ≡ mid → IsUnderWay turns call c before after
under-way call c k turns before mid after run fewer same = subst (λ ls. IsUnderWay turns call c before ls) (sym same) (run.begun, k, run.first, run.moved, fewer)

never : {P Q : Type 0} → ∥ P ∥₁ → (P → ⊥) → Q
never h refute = absurd (∥∥₁_elim h (λ (x y : ⊥). absurd x) refute)

module _ {J : Type 0} where
  -- a fault of a client that begins no call leaves nothing of it
  pub unbegun-left : (t : Seat J) (op : ℕ) (ns : List ℤ) (turns : ℕ) (c : ℕ) (before after : List Label) (fault : RunFault) → IsUnbegun t op ns fault → after ≡ before →
      IsLeftBy fault turns (Invoked op ns) c before after
  unbegun-left t op ns turns c before after Busy h same = same
  unbegun-left t op ns turns c before after NoOp h same = same
  unbegun-left t op ns turns c before after Arity h same = same
  unbegun-left t op ns turns c before after Mismatch h same = inl same
  unbegun-left t op ns turns c before after Full h same = inl same
  unbegun-left t op ns turns c before after OutOfMemory h same = inl same
  unbegun-left t op ns turns c before after Overflow h same = never h (λ x. x.1)
  unbegun-left t op ns turns c before after Clients h same = never h (λ x. x.1)
  unbegun-left t op ns turns c before after Idle h same = never h (λ x. x.1)

  -- and one of a client that takes no step its beginning and its moves
  pub unstepped-left : (t : Seat J) (op : ℕ) (ns : List ℤ) (turns : ℕ) (c : ℕ) (before : List Label) (fault : RunFault) → IsUnstepped t fault → IsUnderWay turns (Invoked op ns) c before (labels_made t) →
      IsLeftBy fault turns (Invoked op ns) c before (labels_made t)
  unstepped-left t op ns turns c before Overflow h left = left
  unstepped-left t op ns turns c before Mismatch h left = inr left
  unstepped-left t op ns turns c before Full h left = inr left
  unstepped-left t op ns turns c before OutOfMemory h left = inr left
  unstepped-left t op ns turns c before Busy h left = never h (λ x. x.1)
  unstepped-left t op ns turns c before NoOp h left = never h (λ x. x.1)
  unstepped-left t op ns turns c before Arity h left = never h (λ x. x.1)
  unstepped-left t op ns turns c before Clients h left = never h (λ x. x.1)
  unstepped-left t op ns turns c before Idle h left =
      never h (λ x. let goes = under-way-goes turns op ns c before (labels_made t) left in let none : is_unfinished (labels_made t) ≡ false = x.1 in cc)

  -- a seat that has the same labels takes no step either
  pub unstepped-still : (t t' : Seat J) (fault : RunFault) → client_in t' ≡ client_in t → labels_made t' ≡ labels_made t → IsUnstepped t fault → IsUnstepped t' fault
  unstepped-still t t' fault client made h =
      ∥∥₁_map h (λ x. (
        x.0,
        subst (λ c. IsStepFault (development_held x.0) (world_held x.0) (labels_held x.0) c (labels_made t') fault) (sym client)
            (subst (λ ls. IsStepFault (development_held x.0) (world_held x.0) (labels_held x.0) (client_in t) ls fault) (sym made) x.1),
      ))

  -- what is known of a fault by the value of the lock
  pub begin-fault : {T : Type 0} (r : Result T RunFault) (s : Shared J) (t : Seat J) (op : ℕ) (ns : List ℤ) →
      IfErr r (IsBeginFault (development_held s) (world_held s) (labels_held s) (client_in t) (labels_made t) op ns) → IfErr r (IsUnbegun t op ns)
  begin-fault (Ok x) s t op ns h = tt
  begin-fault (Err e) s t op ns h = ∣ (s, h) ∣₁

  pub step-fault : {T : Type 0} (r : Result T RunFault) (s : Shared J) (t : Seat J) → IfErr r (IsStepFault (development_held s) (world_held s) (labels_held s) (client_in t) (labels_made t)) → IfErr r (IsUnstepped t)
  step-fault (Ok x) s t h = tt
  step-fault (Err e) s t h = ∣ (s, h) ∣₁
