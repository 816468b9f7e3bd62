-- The step of a client, from what its instruction does and what is done after it.
use Rattle.std.proofs.Common.{◌≡◌, ℕ, ◌≤◌, true, List, ℤ, Bool, false, Option, Some, None, Result, Ok, Err, cond, length, refl, sym, ap, subst, ◌∙◌}
use Rattle.std.specs.Prelude.{slice_get, IfOk, IfSome, IsErrAnd}
use Rattle.lc_term.specs.Meaning.{State}
use Rattle.lc_term.specs.Updates.{stored_all, AreWithin}
use Rattle.lc_object.specs.Syntax.{Object, Instr, Point}
use Rattle.lc_object.specs.declared.instr.EdgeKind.{EdgeKind}
use Rattle.lc_object.specs.declared.instr.EdgeKind.TheVariants.{Next}
use Rattle.lc_machine.specs.Effects.{writes_in, outcome_of, IsReached, IsEffect}
use Rattle.lc_machine.specs.Fits.{InstructionFits}
use Rattle.lc_machine.specs.Placed.{is_placed}
use Rattle.lc_machine.specs.Step.{IsClient, IsRunning, Does, Outcome, Goes, Answers}
use Rattle.lc_machine.specs.View.{client_of, variables_of}
use Rattle.lc_machine.specs.World.{World, In, initial_numbers}
use Rattle.lc_machine.specs.declared.effects.Effect.{Effect}
use Rattle.lc_machine.specs.declared.effects.Place.{Place}
use Rattle.lc_machine.specs.declared.fault.StepFault.{StepFault}
use Rattle.lc_machine.specs.declared.fault.StepFault.TheVariants.{NoClient, Busy, Idle, NoOp, Arity, Overflow, OutOfMemory}
use Rattle.lc_rider.specs.Rider.{return_writes}
use Rattle.lc_outline.specs.Development.{Development, first_system}
use Rattle.lc_outline.specs.Resolved.{is_resolved}
use Rattle.lc_ride.specs.RideLaws.{RidersAreDone}
use Rattle.lc_ride.specs.RideView.{marks_of}
use Rattle.lc_ride.specs.Riding.{Ridden}
use Rattle.lc_sound.specs.Instrumented.{Instrumented}
use Rattle.lc_steps.specs.Replies.{is_justified, ReplyFits}
use Rattle.lc_steps.specs.Stepping.{world_with, ridden, RiddenFits, JustifiedFits, answered, done_behind, BehindFits, InstrumentedFits}
use Rattle.lc_steps.specs.StepView.{GoesOn, IsAdvanced}
use Rattle.lc_steps.specs.StepParts.{step_says, IsEffectHere, AreRidersSeen, IsReturned, rider_edge, rider_variables, event_of, reached, IsBehind}
use Rattle.lc_steps.specs.declared.steps.Step.{Step}
use Rattle.lc_steps.proofs.Telling.{AreOpen, step-is, no-step}
use Rattle.lc_steps.proofs.Seen.{variables-there, placed-there, point-there, outcome-seen, open-there}
use Rattle.lc_sound.proofs.Once.{does_once}
use Rattle.lc_machine.proofs.Stepping.{more_within}

-- ---- faults

-- a fault of what is reached later
pub says-less : (all fits : Type 0) (fault : StepFault) → (all → fits) → step_says fault fits → step_says fault all
says-less all fits Overflow f h = λ a. h (f a)
says-less all fits OutOfMemory f h = tt
says-less all fits NoClient f h = h
says-less all fits Busy f h = h
says-less all fits Idle f h = h
says-less all fits NoOp f h = h
says-less all fits Arity f h = h

-- ---- after an instruction

-- a fault that is handed on
pub behind-fault : (D : Development) (c p : ℕ) (vs : List ℤ) (k : EdgeKind) (s : State) (outcome : Outcome) (columns : State) (r : Result (Option Step) StepFault) (fault : StepFault) →
    IsErrAnd r (λ y. y ≡ fault) → step_says fault (BehindFits D c p vs k s outcome) → IsBehind D c p vs k s outcome columns r
behind-fault D c p vs k s outcome columns (Ok x) fault e says = absurd e
behind-fault D c p vs k s outcome columns (Err y) fault e says = subst (λ z. step_says z (BehindFits D c p vs k s outcome)) (sym e) says

module _ (D : Development) (c p : ℕ) (vs numbers : List ℤ) (s : State) where
  -- its riders cannot be done
  pub not-ridden : RiddenFits D c p Next vs s → ridden D c p Next vs s ≡ None → BehindFits D c p vs Next s (Answers numbers) × (done_behind D c p vs Next s (Answers numbers) ≡ None)
  not-ridden fits none =
      ((fits, subst (JustifiedFits (first_system D) c numbers) (sym none) tt), ap (answered (first_system D) c numbers) none)

  -- they are done, and the numbers are not justified
  pub not-answered : (r : Ridden) → RiddenFits D c p Next vs s → ridden D c p Next vs s ≡ Some r → ReplyFits (first_system D) r.1 c numbers → is_justified (first_system D) r.1 c numbers ≡ false →
      BehindFits D c p vs Next s (Answers numbers) × (done_behind D c p vs Next s (Answers numbers) ≡ None)
  not-answered r fits rode reply unjust = (
    (fits, subst (JustifiedFits (first_system D) c numbers) (sym rode) reply),
    ap (answered (first_system D) c numbers) rode ∙ ap (λ b. cond b (let x : Ridden = (r.0, stored_all r.1 (return_writes (first_system D) c)) in Some x) None) unjust,
  )

  -- they are, and the call returns
  pub is-answered : (r : Ridden) (columns : State) → RiddenFits D c p Next vs s → ridden D c p Next vs s ≡ Some r → ReplyFits (first_system D) r.1 c numbers → is_justified (first_system D) r.1 c numbers ≡ true →
      columns ≡ stored_all r.1 (return_writes (first_system D) c) →
      BehindFits D c p vs Next s (Answers numbers) × (done_behind D c p vs Next s (Answers numbers) ≡ (let x : Ridden = (r.0, columns) in Some x))
  is-answered r columns fits rode reply just is = (
    (fits, subst (JustifiedFits (first_system D) c numbers) (sym rode) reply),
    ap (answered (first_system D) c numbers) rode ∙ ap (λ b. cond b (let x : Ridden = (r.0, stored_all r.1 (return_writes (first_system D) c)) in Some x) None) just ∙
        ap (λ t. let x : Ridden = (r.0, t) in Some x) (sym is),
  )

  -- a number does not fit of what justifies them
  pub not-read : (r : Ridden) (fault : StepFault) → ridden D c p Next vs s ≡ Some r → step_says fault (ReplyFits (first_system D) r.1 c numbers) →
      step_says fault (BehindFits D c p vs Next s (Answers numbers))
  not-read r fault rode says =
      says-less (BehindFits D c p vs Next s (Answers numbers)) (ReplyFits (first_system D) r.1 c numbers) fault (λ all. subst (JustifiedFits (first_system D) c numbers) rode all.1) says

-- a return, as it is computed with the system columns and the numbers of the development
pub returned-of : (first first' : ℕ) (m : State) (c : ℕ) (ns ns' : List ℤ) (columns : State) (r : Result Bool StepFault) → first ≡ first' → ns ≡ ns' → IsReturned first m c ns columns r → IsReturned first' m c ns' columns r
returned-of first first' m c ns ns' columns r a b h = subst (λ x. IsReturned x m c ns' columns r) a (subst (λ x. IsReturned first m c x columns r) b h)

-- ---- the effect of the instruction

-- as it is computed with the object and the columns of the development
pub effect-here : (object object' : Object) (place : Place) (s s' : State) (r : Result Effect StepFault) → object ≡ object' → s ≡ s' → is_placed object' (In place.point.0 (variables_of place)) ≡ true →
    ((point : Point) → slice_get object.points place.point.0 ≡ Some point → IsEffect object point.instruction s (variables_of place) r) → IsEffectHere object' place.point.0 (variables_of place) s' r
effect-here object object' place s s' r same columns placed effect =
    let at = point-there object' place.point.0 (length (variables_of place)) (variables-there object' place.point.0 (variables_of place) placed) in
    let here = effect at.0 (ap (λ (x : Object). slice_get x.points place.point.0) same ∙ at.1) in
    (at.0, at.1, subst (λ x. IsEffect x (at.0).instruction s' (variables_of place) r) same (subst (λ x. IsEffect object (at.0).instruction x (variables_of place) r) columns here))

pub within-columns : (object : Object) (p : ℕ) (vs : List ℤ) (s : State) (n : ℕ) (r : Result Effect StepFault) → IsEffectHere object p vs s r → length (initial_numbers object) ≤ n → IfOk r (λ done. AreWithin n (writes_in done))
within-columns object p vs s n (Ok done) (point, at, (fits, does, to, within)) le = more_within (length (initial_numbers object)) n (writes_in done) within le
within-columns object p vs s n (Err fault) effect le = tt

-- the riders after it are seen
pub effect-seen : (D : Development) → is_resolved D ≡ true → (p : ℕ) (vs : List ℤ) (s : State) (r : Result Effect StepFault) → is_placed D.object (In p vs) ≡ true → IsEffectHere D.object p vs s r →
    IfOk r (λ done. AreRidersSeen D p (rider_edge done.edge (outcome_of done.fate)) (length (rider_variables vs (outcome_of done.fate))))
effect-seen D R p vs s (Ok done) placed (point, at, (fits, does, to, within)) =
    outcome-seen D R p point at s (stored_all s (writes_in done)) vs (variables-there D.object p vs placed) done.edge (outcome_of done.fate) does
effect-seen D R p vs s (Err fault) placed effect = tt

-- and leads to where it may
pub effect-reached : (object : Object) (p : ℕ) (vs : List ℤ) (s : State) (done : Effect) → IsEffectHere object p vs s (Ok done) → IsReached object (outcome_of done.fate)
effect-reached object p vs s done (point, at, (fits, does, to, within)) = to

-- ---- the whole step

goes-on : (object : Object) (p : ℕ) (k : EdgeKind) (outcome : Outcome) → IsReached object outcome → GoesOn (event_of p k outcome)
goes-on object p k (Goes q new) h = tt
goes-on object p k (Answers numbers) h = h

placed-after : (object : Object) (outcome : Outcome) → IsReached object outcome → is_placed object (reached outcome) ≡ true
placed-after object (Goes q new) h = placed-there object q new h
placed-after object (Answers numbers) h = refl

-- the client is at a point that has code
pub behind-placed : (D : Development) (c p : ℕ) (vs : List ℤ) (k : EdgeKind) (s : State) (outcome : Outcome) (columns : State) (r : Result (Option Step) StepFault) → IsReached D.object outcome →
    IsBehind D c p vs k s outcome columns r → IfOk r (λ found. IfSome found (λ step. is_placed D.object (client_of step.client) ≡ true))
behind-placed D c p vs k s outcome columns (Ok (Some t)) to (h, done, what, client) = ap (is_placed D.object) client ∙ placed-after D.object outcome to
behind-placed D c p vs k s outcome columns (Ok None) to h = tt
behind-placed D c p vs k s outcome columns (Err fault) to h = tt

module _ (D : Development) (w : World) (c p : ℕ) (vs : List ℤ) (i : Instr) (running : IsRunning D.object w c p vs i) where
  -- what the instruction reaches does not fit, or memory runs out
  not-done : (columns : State) (r : Result (Option Step) StepFault) (fault : StepFault) → IsErrAnd r (λ y. y ≡ fault) → IsEffect D.object i w.columns vs (Err fault) → IsAdvanced D w c columns r
  not-done columns (Ok x) fault e h = absurd e
  not-done columns (Err y) fault e h = subst (λ z. IsAdvanced D w c columns (Err z)) (sym e) (at fault h)
    where
      at : (f : StepFault) → IsEffect D.object i w.columns vs (Err f) → IsAdvanced D w c columns (Err f)
      at Overflow h = (p, vs, i, running, λ fits. h fits.0)
      at OutOfMemory h = (p, vs, running.client)
      at NoClient h = absurd h
      at Busy h = h
      at Idle h = absurd h
      at NoOp h = h
      at Arity h = h

  module _ (agree : RidersAreDone) (k : EdgeKind) (s : State) (outcome : Outcome) (fits : InstructionFits D.object w.columns vs i) (does : Does D.object w.columns vs i k s outcome) (to : IsReached D.object outcome) where
    all-fits : BehindFits D c p vs k s outcome → InstrumentedFits D w.columns c p vs i
    all-fits h = (
      fits,
      λ l z o d.
          let same = does_once D.object w.columns vs i k l s z outcome o does d in
          subst (λ x. BehindFits D c p vs x z o) same.0 (subst (λ x. BehindFits D c p vs k x o) same.1 (subst (λ x. BehindFits D c p vs k s x) same.2 h)),
    )

    advanced : (columns : State) (r : Result (Option Step) StepFault) → AreOpen D p (rider_edge k outcome) → IsBehind D c p vs k s outcome columns r → IsAdvanced D w c columns r
    advanced columns (Ok (Some t)) plain (h, done, what, client) = (
      (p, vs, i, running, all-fits h),
      subst (λ e. Instrumented D w c e (marks_of t.marks.items) (world_with w columns c (client_of t.client))) (sym what)
          (subst (λ x. Instrumented D w c (event_of p k outcome) (marks_of t.marks.items) (world_with w columns c x)) (sym client)
          (step-is agree D w c p vs i k s outcome running does plain (marks_of t.marks.items) columns done)),
      subst GoesOn (sym what) (goes-on D.object p k outcome to),
    )
    advanced columns (Ok None) plain (h, none) = ((p, vs, i, running, all-fits h), no-step agree D w c p vs i k s outcome running does plain none)
    advanced columns (Err Overflow) plain h = (p, vs, i, running, λ all. h (all.1 k s outcome does))
    advanced columns (Err OutOfMemory) plain h = (p, vs, running.client)
    advanced columns (Err NoClient) plain h = absurd h
    advanced columns (Err Busy) plain h = h
    advanced columns (Err Idle) plain h = absurd h
    advanced columns (Err NoOp) plain h = h
    advanced columns (Err Arity) plain h = h

-- ---- from the world that is saved

module _ (D : Development) (w : World) (c p : ℕ) (vs : List ℤ) (s : State) (is : w.columns ≡ s) (client : IsClient w c (In p vs)) where
  stands : (point : Point) → slice_get D.object.points p ≡ Some point → IsRunning D.object w c p vs point.instruction
  stands point at = record { client = client; code = (point, at, refl) }

  pub no-effect : (columns : State) (r : Result (Option Step) StepFault) (fault : StepFault) → IsErrAnd r (λ y. y ≡ fault) → IsEffectHere D.object p vs s (Err fault) → IsAdvanced D w c columns r
  no-effect columns r fault e (point, at, h) =
      not-done D w c p vs point.instruction (stands point at) columns r fault e (subst (λ x. IsEffect D.object point.instruction x vs (Err fault)) (sym is) h)

  pub not-stored : (columns : State) (r : Result (Option Step) StepFault) → IsErrAnd r (λ y. y ≡ OutOfMemory) → IsAdvanced D w c columns r
  not-stored columns (Ok x) e = absurd e
  not-stored columns (Err y) e = subst (λ z. IsAdvanced D w c columns (Err z)) (sym e) (p, vs, client)

  pub stepped : RidersAreDone → (done : Effect) (mid columns : State) (r : Result (Option Step) StepFault) → IsEffectHere D.object p vs s (Ok done) → mid ≡ stored_all s (writes_in done) →
      AreRidersSeen D p (rider_edge done.edge (outcome_of done.fate)) (length (rider_variables vs (outcome_of done.fate))) →
      IsBehind D c p vs done.edge mid (outcome_of done.fate) columns r → IsAdvanced D w c columns r
  stepped agree done mid columns r (point, at, (fits, does, to, within)) stored seen behind =
      let outcome = outcome_of done.fate in
      let from : stored_all s (writes_in done) ≡ mid = sym stored in
      let does' = subst (λ x. Does D.object x vs point.instruction done.edge mid outcome) (sym is) (subst (λ x. Does D.object s vs point.instruction done.edge x outcome) from does) in
      let fits' = subst (λ x. InstructionFits D.object x vs point.instruction) (sym is) fits in
      advanced D w c p vs point.instruction (stands point at) agree done.edge mid outcome fits' does' to columns r
      (open-there D p (length (rider_variables vs outcome)) (rider_edge done.edge outcome) seen) behind
