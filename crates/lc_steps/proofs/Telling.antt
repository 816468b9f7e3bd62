-- Instrumented steps, from what an instruction and the riders beside its edge do.
use Rattle.std.proofs.Common.{◌≡◌, ℕ, List, ℤ, Bool, true, false, cond, Option, Some, None, refl, sym, ap, subst, ◌∙◌}
use Rattle.std.specs.Prelude.{slice_get}
use Rattle.std.proofs.lemmas.Bool.{false≢true}
use Rattle.std.proofs.lemmas.Option.{same_Some}
use Rattle.lc_lemmas.proofs.Lists.{set_there}
use Rattle.lc_term.specs.Lists.{Every}
use Rattle.lc_term.specs.Meaning.{State}
use Rattle.lc_term.specs.Updates.{stored_all, variable}
use Rattle.lc_object.specs.Places.{operation_at}
use Rattle.lc_object.specs.Syntax.{Instr}
use Rattle.lc_object.specs.declared.instr.EdgeKind.{EdgeKind}
use Rattle.lc_object.specs.declared.instr.EdgeKind.TheVariants.{Next}
use Rattle.lc_machine.specs.Step.{Moved, Returned, Steps, IsRunning, IsClient, Does, Outcome, Goes, Answers, after}
use Rattle.lc_machine.specs.World.{World, Idle, In}
use Rattle.lc_outline.specs.Development.{Development, first_system, riders_at}
use Rattle.lc_rider.specs.Rider.{Mark, Rider, RideAll, IsJustified, return_writes}
use Rattle.lc_ride.specs.RideLaws.{IsOpen, RidersAreDone}
use Rattle.lc_ride.specs.Riding.{Ridden}
use Rattle.lc_sound.specs.Instrumented.{Instrumented}
use Rattle.lc_steps.specs.Replies.{is_justified}
use Rattle.lc_steps.specs.Stepping.{world_with, IsUnlawful, ridden, answered, done_behind}
use Rattle.lc_steps.specs.StepParts.{rider_edge, event_of, reached}
use Rattle.lc_steps.proofs.Replying.{justified-to, justified-from}
use Rattle.lc_sound.proofs.Once.{same_done}

-- no quantifier occurs in the conditions of the riders there
abbrev pub AreOpen : Development → ℕ → EdgeKind → Type 0
AreOpen D p k = Every (λ (r : Rider). IsOpen r.condition) (riders_at D p k)

rides : RidersAreDone → (D : Development) (c p : ℕ) (k : EdgeKind) (vs : List ℤ) (s : State) (marks : List Mark) (m : State) → AreOpen D p k → ridden D c p k vs s ≡ Some (marks, m) →
    RideAll D.specification.operations (first_system D) c (operation_at D.object p) (variable vs) s (riders_at D p k) marks m
rides agree D c p k vs s marks m plain e = (agree D.specification.operations (first_system D) c (operation_at D.object p) (variable vs) s (riders_at D p k) marks m plain).0 e

ridden-by : RidersAreDone → (D : Development) (c p : ℕ) (k : EdgeKind) (vs : List ℤ) (s : State) (marks : List Mark) (m : State) → AreOpen D p k →
    RideAll D.specification.operations (first_system D) c (operation_at D.object p) (variable vs) s (riders_at D p k) marks m → ridden D c p k vs s ≡ Some (marks, m)
ridden-by agree D c p k vs s marks m plain e = (agree D.specification.operations (first_system D) c (operation_at D.object p) (variable vs) s (riders_at D p k) marks m plain).1 e

none-some : (x : Option Ridden) (r : Ridden) → x ≡ None → x ≡ Some r → ⊥
none-some x r e f = absurd (is-some (sym e ∙ f))
  where
    is-some : ◌≡◌ {A = Option Ridden} None (Some r) → ⊥
    is-some h = cc

-- ---- a client that goes on

module _ (agree : RidersAreDone) (D : Development) (w : World) (c p q : ℕ) (vs new : List ℤ) (i : Instr) (k : EdgeKind) (s : State) (running : IsRunning D.object w c p vs i) (does : Does D.object w.columns vs i k s (Goes q new)) (plain : AreOpen D p k) where
  there : IsClient (after w s c (In q new)) c (In q new)
  there = set_there w.clients c (In q new) (In p vs) running.client

  bare-move : Steps D.object w c (Moved p k) (after w s c (In q new))
  bare-move = (vs, i, running, s, q, new, does, refl)

  pub moved : (marks : List Mark) (m : State) → ridden D c p k new s ≡ Some (marks, m) → Instrumented D w c (Moved p k) marks (world_with w m c (In q new))
  moved marks m e = (after w s c (In q new), q, new, m, bare-move, there, rides agree D c p k new s marks m plain e, refl)

  refused : ridden D c p k new s ≡ None → (marks : List Mark) (v : World) → Instrumented D w c (Moved p k) marks v → ⊥
  refused none marks v (mid', q', new', m', (vs', i', running', s', next', after', does', mid-is), isc, ride, v-is) =
      let did = same_done D.object w c p p vs vs' i i' k k s s' (Goes q new) (Goes next' after') running running' does does' in
      let back = set_there w.clients c (In next' after') (In p vs) running.client in
      let variables : In next' after' ≡ In q' new' = same_Some (In next' after') (In q' new') (sym (ap (λ (x : World). slice_get x.clients c) mid-is ∙ back) ∙ isc) in
      let one : after' ≡ new' = cc variables in
      let two : new ≡ after' = cc did.2 in
      let same : new' ≡ new = sym (two ∙ one) in
      let columns : mid'.columns ≡ s = ap (λ (x : World). x.columns) mid-is ∙ sym did.1 in
      let mine = subst (λ (x : State). RideAll D.specification.operations (first_system D) c (operation_at D.object p) (variable new) x (riders_at D p k) marks m') columns
      (subst (λ (xs : List ℤ). RideAll D.specification.operations (first_system D) c (operation_at D.object p) (variable xs) mid'.columns (riders_at D p k) marks m') same ride) in
      none-some (ridden D c p k new s) (marks, m') none (ridden-by agree D c p k new s marks m' plain mine)

  pub not-moved : ridden D c p k new s ≡ None → IsUnlawful D w c
  not-moved none = (Moved p k, after w s c (In q new), bare-move, λ marks v step. refused none marks v step)

-- ---- a call that returns

module _ (agree : RidersAreDone) (D : Development) (w : World) (c p : ℕ) (vs numbers : List ℤ) (i : Instr) (k : EdgeKind) (s : State) (running : IsRunning D.object w c p vs i) (does : Does D.object w.columns vs i k s (Answers numbers)) (plain : AreOpen D p Next) where
  bare-return : Steps D.object w c (Returned numbers) (after w s c Idle)
  bare-return = (p, vs, i, running, k, s, does, refl)

  -- what such a step comes to is what riders and return are computed to come to
  computed : (marks : List Mark) (v : World) → Instrumented D w c (Returned numbers) marks v → (r : Ridden) × (ridden D c p Next vs s ≡ Some r) × IsJustified (first_system D) r.1 c numbers
  computed marks v (mid, p', vs', m, isc, (p2, vs2, i2, running2, k2, s2, does2, mid-is), ride, just, v-is) =
      let did = same_done D.object w c p p2 vs vs2 i i2 k k2 s s2 (Answers numbers) (Answers numbers) running running2 does does2 in
      let client : In p' vs' ≡ In p vs = same_Some (In p' vs') (In p vs) (sym isc ∙ running.client) in
      let point : p' ≡ p = cc client in
      let same : vs' ≡ vs = cc client in
      let columns : mid.columns ≡ s = ap (λ (x : World). x.columns) mid-is ∙ sym did.1 in
      let mine = subst (λ (x : State). RideAll D.specification.operations (first_system D) c (operation_at D.object p) (variable vs) x (riders_at D p Next) marks m) columns
      (subst (λ (xs : List ℤ). RideAll D.specification.operations (first_system D) c (operation_at D.object p) (variable xs) mid.columns (riders_at D p Next) marks m) same
      (subst (λ (x : ℕ). RideAll D.specification.operations (first_system D) c (operation_at D.object x) (variable vs') mid.columns (riders_at D x Next) marks m) point ride)) in
      ((marks, m), ridden-by agree D c p Next vs s marks m plain mine, just)

  pub returned : (marks : List Mark) (m : State) → ridden D c p Next vs s ≡ Some (marks, m) → IsJustified (first_system D) m c numbers →
      Instrumented D w c (Returned numbers) marks (world_with w (stored_all m (return_writes (first_system D) c)) c Idle)
  returned marks m e just = (after w s c Idle, p, vs, m, running.client, bare-return, rides agree D c p Next vs s marks m plain e, just, refl)

  pub not-ridden : ridden D c p Next vs s ≡ None → IsUnlawful D w c
  not-ridden none = (
    Returned numbers,
    after w s c Idle,
    bare-return,
    λ marks v step. let x = computed marks v step in none-some (ridden D c p Next vs s) x.0 none x.1,
  )

  pub not-justified : (r : Ridden) → ridden D c p Next vs s ≡ Some r → (IsJustified (first_system D) r.1 c numbers → ⊥) → IsUnlawful D w c
  not-justified r e unjust = (
    Returned numbers,
    after w s c Idle,
    bare-return,
    λ marks v step.
        let x = computed marks v step in
        let same : r ≡ x.0 = same_Some r x.0 (sym e ∙ x.1) in
        unjust (subst (λ (z : Ridden). IsJustified (first_system D) z.1 c numbers) (sym same) x.2),
  )

-- ---- either

-- what is computed after an instruction is the client's instrumented step
pub step-is : RidersAreDone → (D : Development) (w : World) (c p : ℕ) (vs : List ℤ) (i : Instr) (k : EdgeKind) (s : State) (outcome : Outcome) → IsRunning D.object w c p vs i → Does D.object w.columns vs i k s outcome →
    AreOpen D p (rider_edge k outcome) → (marks : List Mark) (m : State) → done_behind D c p vs k s outcome ≡ Some (marks, m) →
    Instrumented D w c (event_of p k outcome) marks (world_with w m c (reached outcome))
step-is agree D w c p vs i k s (Goes q new) running does plain marks m e = moved agree D w c p q vs new i k s running does plain marks m e
step-is agree D w c p vs i k s (Answers numbers) running does plain marks m e = by-ridden (ridden D c p Next vs s) refl e
  where
    by-justified : (r : Ridden) (b : Bool) → ridden D c p Next vs s ≡ Some r → is_justified (first_system D) r.1 c numbers ≡ b →
        cond b (let x : Ridden = (r.0, stored_all r.1 (return_writes (first_system D) c)) in Some x) None ≡ Some (marks, m) →
        Instrumented D w c (Returned numbers) marks (world_with w m c Idle)
    by-justified r true rode just f =
        let mine : Ridden = (r.0, stored_all r.1 (return_writes (first_system D) c)) in
        let yours : Ridden = (marks, m) in
        let same : mine ≡ yours = same_Some mine yours f in
        subst (λ (x : Ridden). Instrumented D w c (Returned numbers) x.0 (world_with w x.1 c Idle)) same
        (returned agree D w c p vs numbers i k s running does plain r.0 r.1 rode (justified-to (first_system D) r.1 c numbers just))
    by-justified r false rode just f = absurd cc

    by-ridden : (x : Option Ridden) → ridden D c p Next vs s ≡ x → answered (first_system D) c numbers x ≡ Some (marks, m) → Instrumented D w c (Returned numbers) marks (world_with w m c Idle)
    by-ridden None rode f = absurd cc
    by-ridden (Some r) rode f = by-justified r (is_justified (first_system D) r.1 c numbers) rode refl f

-- and if nothing is computed there is none
pub no-step : RidersAreDone → (D : Development) (w : World) (c p : ℕ) (vs : List ℤ) (i : Instr) (k : EdgeKind) (s : State) (outcome : Outcome) → IsRunning D.object w c p vs i → Does D.object w.columns vs i k s outcome →
    AreOpen D p (rider_edge k outcome) → done_behind D c p vs k s outcome ≡ None → IsUnlawful D w c
no-step agree D w c p vs i k s (Goes q new) running does plain none = not-moved agree D w c p q vs new i k s running does plain none
no-step agree D w c p vs i k s (Answers numbers) running does plain none = by-ridden (ridden D c p Next vs s) refl none
  where
    by-justified : (r : Ridden) (b : Bool) → ridden D c p Next vs s ≡ Some r → is_justified (first_system D) r.1 c numbers ≡ b →
        cond b (let x : Ridden = (r.0, stored_all r.1 (return_writes (first_system D) c)) in Some x) None ≡ None → IsUnlawful D w c
    by-justified r true rode just f = absurd cc
    by-justified r false rode unjust f = not-justified agree D w c p vs numbers i k s running does plain r rode (λ just. false≢true (sym unjust ∙ justified-from (first_system D) r.1 c numbers just))

    by-ridden : (x : Option Ridden) → ridden D c p Next vs s ≡ x → answered (first_system D) c numbers x ≡ None → IsUnlawful D w c
    by-ridden None rode f = not-ridden agree D w c p vs numbers i k s running does plain rode
    by-ridden (Some r) rode f = by-justified r (is_justified (first_system D) r.1 c numbers) rode refl f
