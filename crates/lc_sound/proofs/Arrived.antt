-- After the step of an edge the new world is good.
use Rattle.std.proofs.Common.{◌≡◌, ℕ, zero, suc, ◌+◌, ◌<◌, ◌≤◌, ◌⊎◌, ◌==◌, Bool, true, false, List, [], ◌∷◌, ◌++◌, ℤ, pos, ◌≤ℤ◌, Option, Some, None, map, length, refl, sym, ap, ◌∙◌, subst, inl, inr, arith, eqb-true}
use Rattle.std.specs.Prelude.{slice_get, slice_set}
use Rattle.std.specs.Ordering.{int_eq}
use Rattle.std.proofs.lemmas.Bool.{eqb-false}
use Rattle.std.proofs.lemmas.Bool.Decides.{Decides-int_eq}
use Rattle.std.proofs.lemmas.Int.{ints}
use Rattle.std.proofs.lemmas.List.{length-set}
use Rattle.std.proofs.lemmas.Option.{same_Some, slice_get_within}
use Rattle.lc_term.specs.Updates.{Update, stored_all, variable, assigned}
use Rattle.lc_term.specs.Meaning.{State, Env, outside, value, EachHolds}
use Rattle.lc_history.proofs.Tables.{slice_get-set, slice_get-set_other}
use Rattle.lc_object.specs.Syntax.{Operation, Point}
use Rattle.lc_object.specs.Edges.{Edge, edges}
use Rattle.lc_machine.specs.World.{Client, Idle, In, World}
use Rattle.lc_machine.specs.Step.{IsClient, numbers}
use Rattle.lc_machine.specs.EdgeSteps.{updated, IsIn}
use Rattle.lc_machine.proofs.Lengths.{assigned_length}
use Rattle.lc_term.specs.Lists.{Every}
use Rattle.lc_term.specs.SystemColumns.{column_count}
use Rattle.lc_rider.specs.Rider.{Mark, RideAll, return_writes}
use Rattle.lc_action.specs.Action.{Action, skip, leave, enter, Acts}
use Rattle.lc_outline.specs.Development.{invariant_of, Development, On, first_system, riders_in, asserts_to}
use Rattle.lc_cond.specs.Conditions.{at_end, action_conditions, on_conditions, body_frame}
use Rattle.lc_outline.specs.Resolved.{IsOnResolved, IsRiderResolved}
use Rattle.lc_sound.specs.Claims.{IsProven, IsClientGood, IsGood, own}
use Rattle.lc_sound.specs.Valid.{IsValid}
use Rattle.lc_term.proofs.Stores.{cell_other, cell_same, cell_away, stored_here}
use Rattle.lc_sound.proofs.Stable.{each_agree}
use Rattle.lc_sound.proofs.Frames.{Kept, Kept_trans, Kept_rides}
use Rattle.lc_sound.proofs.Acting.{valid_action_acts}
use Rattle.lc_sound.proofs.Others.{FrameAt, frame_at, frame_kept, Moved, Same, By, other_good}
use Rattle.lc_sound.proofs.Rideable.{Only}
use Rattle.lc_sound.proofs.Lifting as L
use Rattle.lc_sound.proofs.Going as Y
use Rattle.lc_machine.proofs.EdgeLaw.{in_back}

pub in_front : {A : Type 0} (x : A) (xs ys : List A) (k : ℕ) → slice_get xs k ≡ Some x → IsIn x (xs ++ ys)
in_front x [] ys k e = absurd cc
in_front x (z ∷ zs) ys zero e = inl (sym (same_Some z x e))
in_front x (z ∷ zs) ys (suc k) e = inr (in_front x zs ys k e)

pub only_kept : (first n : ℕ) (s m : State) → Kept first s m → Only first n s → Only first n m
only_kept first n s m k only i = by (k.pend_is i) (only i)
  where
    by : (m first i ≡ s first i) ⊎ ((s first i ≡ pos 1) × (m first i ≡ pos 2)) → (s first i ≡ pos 0) ⊎ ((c : ℕ) × (c < n) × (i ≡ pos c)) → (m first i ≡ pos 0) ⊎ ((c : ℕ) × (c < n) × (i ≡ pos c))
    by (inl e) (inl z) = inl (e ∙ z)
    by (inr e) (inl z) = absurd (omega (arith, ints, e.0, z))
    by e (inr c) = inr c

-- what becomes of the client
abbrev pub newly : Option ℕ → List ℤ → Client
newly (Some q) vs = In q vs
newly None vs = Idle

-- what an edge's action did: the one that its `on` names, else `leave` at a return and `skip` elsewhere
abbrev pub Took : Development → ℕ → ℕ → List ℤ → State → Option On → Option ℕ → State → Type 0
Took D n c vs s None (Some q) m = Acts n skip c [] s m
Took D n c vs s None None m = Acts n (leave (first_system D)) c [] s m
Took D n c vs s (Some x) next m = (a : Action) × (slice_get D.actions x.action ≡ Some a) × Acts n a c (map (value s (variable vs) outside) x.arguments) s m

module _ (D : Development) (X : IsProven D) (n : ℕ) (w : World) (G : IsGood D n w) (c p : ℕ) (vs : List ℤ) (at : IsClient w c (In p vs))
    (e : Edge) (among : IsIn e (edges D.object)) (from : e.point ≡ p) (facts : EachHolds w.columns (variable vs) e.facts)
    (ms : List Mark) (m : State) (behind : L.AreBehind (2 + length (L.op D X n w G c p vs at e among from facts).arguments) e.targets)
    (resolved : IsOnResolved D (L.point D X n w G c p vs at e among from facts).operation e (L.on D X n w G c p vs at e among from facts))
    (steady : Kept (first_system D) w.columns (updated w.columns vs w.columns e.updates))
    (one : variable (assigned vs e.targets (numbers w.columns vs e.values)) 1 ≡ pos c)
    (ride : RideAll D.specification.operations (first_system D) c (L.point D X n w G c p vs at e among from facts).operation (variable (assigned vs e.targets (numbers w.columns vs e.values))) (updated w.columns vs w.columns e.updates)
    (riders_in (L.on D X n w G c p vs at e among from facts)) ms m)
    (target : (q : ℕ) → e.next ≡ Some q → (pt : Point) × (slice_get D.object.points q ≡ Some pt) × (pt.operation ≡ (L.point D X n w G c p vs at e among from facts).operation)) where
  abbrev s : State
  s = w.columns

  abbrev first : ℕ
  first = first_system D

  abbrev point : Point
  point = L.point D X n w G c p vs at e among from facts

  abbrev op : Operation
  op = L.op D X n w G c p vs at e among from facts

  abbrev on : Option On
  on = L.on D X n w G c p vs at e among from facts

  abbrev good : IsClientGood D n s c (In p vs)
  good = L.good D X n w G c p vs at e among from facts

  abbrev new : List ℤ
  new = assigned vs e.targets (numbers s vs e.values)

  abbrev pub M : State
  M = Y.ended D X n w G c p vs at e among from facts ms m one ride e.next

  riders-are : (o : ℕ) (x : Option On) → IsOnResolved D o e x → Every (IsRiderResolved D o) (riders_in x)
  riders-are o None h = tt
  riders-are o (Some x) h = h.1

  kept : Kept first s m
  kept = Kept_trans first s (updated s vs s e.updates) m steady (Kept_rides D X.resolved c point.operation (variable new) (riders_in on) (updated s vs s e.updates) m ms (riders-are point.operation on resolved) ride)

  -- ---- the action

  ended-beyond : (next : Option ℕ) (k : ℕ) → column_count first ≤ k → Y.ended D X n w G c p vs at e among from facts ms m one ride next k ≡ s k
  ended-beyond (Some q) k h = kept.beyond k h
  ended-beyond None k h = cell_other m first k (pos c) (pos 0) (λ x. omega arith) ∙ kept.beyond k h

  pending : s first (pos c) ≡ pos 0 → pos 1 ≤ℤ s first (pos c) → ⊥
  pending z h = omega (arith, ints)

  plain : e.updates ≡ [] → m ≡ updated s vs s e.updates → (next : Option ℕ) → Took D n c vs s None next (Y.ended D X n w G c p vs at e among from facts ms m one ride next)
  plain none same (Some q) = (tt, same ∙ ap (updated s vs s) none)
  plain none same None = ((λ z. pending z (subst (λ i. pos 1 ≤ℤ s first i) good.6 good.7.0)), ap (λ x. stored_all x (return_writes first c)) (same ∙ ap (updated s vs s) none))

  every-at : (xs : List Action) (k : ℕ) (a : Action) → Every (λ (a : Action). Every (λ (u : Update). u.column < column_count first) a.updates) xs → slice_get xs k ≡ Some a → Every (λ (u : Update). u.column < column_count first) a.updates
  every-at [] k a h i = absurd cc
  every-at (y ∷ ys) zero a h i = subst (λ (z : Action). Every (λ (u : Update). u.column < column_count first) z.updates) (same_Some y a i) h.0
  every-at (y ∷ ys) (suc k) a h i = every-at ys k a h.1 i

  pub took : Took D n c vs s on e.next M
  took = by on refl resolved ride (Y.on_valid D X n w G c p vs at e among from facts ms m one ride)
    where
      by : (x : Option On) → on ≡ x → IsOnResolved D point.operation e x → RideAll D.specification.operations first c point.operation (variable new) (updated s vs s e.updates) (riders_in x) ms m →
          Every IsValid (on_conditions D e (Y.count D X n w G c p vs at e among from facts ms m one ride) (Y.number D X n w G c p vs at e among from facts ms m one ride) (Y.all D X n w G c p vs at e among from facts ms m one ride) (at_end first e.next (Y.path D X n w G c p vs at e among from facts ms m one ride).columns) x) → Took D n c vs s x e.next M
      by None is r t v = plain r t.1 e.next
      by (Some x) is r t v =
          let a : Action = r.0.0 in (
            a,
            r.0.1,
            valid_action_acts D e (Y.count D X n w G c p vs at e among from facts ms m one ride) (Y.number D X n w G c p vs at e among from facts ms m one ride) s M vs n c (Y.all D X n w G c p vs at e among from facts ms m one ride) (at_end first e.next (Y.path D X n w G c p vs at e among from facts ms m one ride).columns) x.arguments a good.5 good.6
                (every-at D.actions x.action a X.resolved.actions r.0.1)
                (subst (λ y. Every IsValid (action_conditions D e (Y.count D X n w G c p vs at e among from facts ms m one ride) (Y.number D X n w G c p vs at e among from facts ms m one ride) (Y.all D X n w G c p vs at e among from facts ms m one ride) (at_end first e.next (Y.path D X n w G c p vs at e among from facts ms m one ride).columns) x.arguments y)) r.0.1 v)
                (Y.all_hold D X n w G c p vs at e among from facts ms m one ride) (Y.ended_is D X n w G c p vs at e among from facts ms m one ride e.next) (ended-beyond e.next),
          )

  -- as the other clients see it
  seen : (x : Option On) (next : Option ℕ) (m' : State) → IsOnResolved D point.operation e x → Took D n c vs s x next m' → Moved D n c s m'
  seen None (Some q) m' r t = Same t.1
  seen None None m' r t = By (leave first) [] (in_back (leave first) D.actions (enter first ∷ leave first ∷ []) (inr (inl refl))) refl t
  seen (Some x) next m' r (a, at, t) =
      By a (map (value s (variable vs) outside) x.arguments) (in_front a D.actions (enter first ∷ leave first ∷ []) x.action at)
      (Rattle.std.proofs.lemmas.List.length-map x.arguments (value s (variable vs) outside) ∙ (r.0.2 ∙ ap (λ (y : Action). length y.parameters) (same_Some r.0.0 a (sym r.0.1 ∙ at)))) t

  pub moved : Moved D n c s M
  moved = seen on e.next M resolved took

  -- ---- the new world

  stays : (k : ℕ) → k < 2 + length op.arguments → variable new k ≡ variable vs k
  stays k lt = L.assigned_other vs e.targets (numbers s vs e.values) (2 + length op.arguments) k behind lt

  zeroth : variable new 0 ≡ pos n
  zeroth = stays 0 (omega arith) ∙ good.5

  invariant_new : (x : Env) → x 0 ≡ pos n → EachHolds M x (invariant_of D)
  invariant_new x z = each_agree M (variable new) x 1 (invariant_of D) only X.resolved.invariant (Y.invariant_after D X n w G c p vs at e among from facts ms m one ride)
    where
      only : (k : ℕ) → k < 1 → variable new k ≡ x k
      only zero lt = zeroth ∙ sym z
      only (suc k) lt = absurd (omega arith)

  frame_of : (r : ℕ) → (r ≡ c → ⊥) → (next : Option ℕ) → FrameAt first s (Y.ended D X n w G c p vs at e among from facts ms m one ride next) (pos r)
  frame_of r ne (Some q) = frame_at first s m (pos r) kept
  frame_of r ne None = record {
    call = λ k a b. cell_away m first k (pos c) (pos r) (pos 0) (λ x. ne (omega (arith, ints, x))) ∙ (λ i. kept.call k a b i (pos r));
    pend_is = subst (λ x. (x ≡ s first (pos r)) ⊎ ((s first (pos r) ≡ pos 1) × (x ≡ pos 2))) (sym (cell_away m first first (pos c) (pos r) (pos 0) (λ x. ne (omega (arith, ints, x))))) (kept.pend_is (pos r));
  }

  own_good : (next : Option ℕ) → e.next ≡ next → EachHolds (Y.ended D X n w G c p vs at e among from facts ms m one ride next) (variable new) (asserts_to D next) →
      IsClientGood D n (Y.ended D X n w G c p vs at e among from facts ms m one ride next) c (newly next new)
  own_good (Some q) is h =
      let t = target q is in (
        t.0,
        op,
        t.1,
        ap (slice_get D.object.operations) t.2 ∙ good.3,
        assigned_length vs e.targets (numbers s vs e.values) ∙ good.4,
        zeroth,
        one,
        subst (λ o. EachHolds m (variable new) (body_frame first o (length op.arguments))) (sym t.2)
            (frame_kept first point.operation (length op.arguments) c s m (variable vs) (variable new) (frame_at first s m (pos c) kept) good.6 one stays good.7),
        h,
      )
  own_good None is h = (
    ((λ i. cell_same m first (pos c) (pos 0) i (pos c)) ∙ stored_here (m first) (pos c) (pos 0), tt),
    each_agree (stored_all m (return_writes first c)) (variable new) (variable (own n c)) 2 D.idle two X.resolved.idle h,
  )
    where
      two : (k : ℕ) → k < 2 → variable new k ≡ variable (own n c) k
      two zero lt = zeroth
      two (suc zero) lt = one
      two (suc (suc k)) lt = absurd (omega arith)

  only_new : (next : Option ℕ) → Only first n (Y.ended D X n w G c p vs at e among from facts ms m one ride next)
  only_new (Some q) = only_kept first n s m kept G.only
  only_new None = λ i. by i (int_eq (pos c) i) refl
    where
      by : (i : ℤ) (b : Bool) → int_eq (pos c) i ≡ b → (stored_all m (return_writes first c) first i ≡ pos 0) ⊎ ((d : ℕ) × (d < n) × (i ≡ pos d))
      by i true h = inr (c, L.below D X n w G c p vs at e among from facts, sym ((Decides-int_eq (pos c) i).0 h))
      by i false h =
          subst (λ x. (x ≡ pos 0) ⊎ ((d : ℕ) × (d < n) × (i ≡ pos d))) (sym (cell_away m first first (pos c) i (pos 0) (λ x. Rattle.std.proofs.Common.true≢false (sym ((Decides-int_eq (pos c) i).1 x) ∙ h))))
          (only_kept first n s m kept G.only i)

  pub good_after : IsGood D n (record { columns = M; clients = slice_set w.clients c (newly e.next new) })
  good_after = record {
    count = length-set w.clients c (newly e.next new) ∙ G.count;
    invariant = invariant_new;
    each_client = λ r x is. each r x is (r == c) refl;
    only = only_new e.next;
  }
    where
      each : (r : ℕ) (x : Client) → slice_get (slice_set w.clients c (newly e.next new)) r ≡ Some x → (b : Bool) → (r == c) ≡ b → IsClientGood D n M r x
      each r x is true h =
          let q : r ≡ c = eqb-true r c h in
          let there = slice_get-set w.clients c (newly e.next new) (slice_get_within w.clients c (In p vs) at) in
          let mine : newly e.next new ≡ x = same_Some (newly e.next new) x (sym there ∙ (ap (slice_get (slice_set w.clients c (newly e.next new))) (sym q) ∙ is)) in
          subst (λ y. IsClientGood D n M r y) mine (subst (λ y. IsClientGood D n M y (newly e.next new)) (sym q) (own_good e.next refl (Y.next_after D X n w G c p vs at e among from facts ms m one ride)))
      each r x is false h =
          let ne = eqb-false r c h in
          let there : slice_get w.clients r ≡ Some x = sym (slice_get-set_other w.clients c r (newly e.next new) ne) ∙ is in
          let lt = slice_get_within w.clients r x there in
          other_good D X n s M c r (L.below D X n w G c p vs at e among from facts) (let k = G.count in omega arith) ne (frame_of r ne e.next) G.invariant invariant_new moved x (G.each_client r x there)
