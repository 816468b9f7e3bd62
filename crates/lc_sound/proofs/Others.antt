-- The other clients of a step: their frames are kept, and their assertions are stable.
use Rattle.std.proofs.Common.{◌≡◌, ℕ, zero, suc, ◌+◌, ◌<◌, ◌≤◌, ◌⊎◌, nat_lt, true, List, [], ◌∷◌, ◌++◌, ℤ, pos, ◌≤ℤ◌, Option, Some, None, length, refl, sym, ap, ◌∙◌, subst, inl, inr, arith}
use Rattle.std.specs.Prelude.{slice_get}
use Rattle.std.proofs.lemmas.Bool.Decides.{nat_tests}
use Rattle.std.proofs.lemmas.Int.{ints}
use Rattle.std.proofs.lemmas.Bool.{and_from}
use Rattle.lc_term.specs.Updates.{variable}
use Rattle.lc_term.specs.Syntax.{Term, Number, Variable, Formula}
use Rattle.lc_term.specs.Meaning.{State, Env, EachHolds}
use Rattle.lc_term.specs.Places.{term_passes}
use Rattle.lc_object.specs.Syntax.{Operation, Point}
use Rattle.lc_object.specs.WellFormed.{variable_count}
use Rattle.lc_machine.specs.World.{Client, Idle, In}
use Rattle.lc_machine.specs.EdgeSteps.{IsIn}
use Rattle.lc_term.specs.Lists.{Every, concat_map, numbered, concat_places}
use Rattle.lc_term.specs.SystemColumns.{op_column, arg_columns}
use Rattle.lc_action.specs.Action.{Action, Acts}
use Rattle.lc_outline.specs.Development.{invariant_of, all_actions, Development, first_system, asserts_at, in_operation}
use Rattle.lc_cond.specs.Conditions.{is_cell, idle_frame, hold_variables, body_frame, start_conditions, entry_conditions, edge_conditions, point_stability, stable_under, stable_conditions, idle_stability, conditions}
use Rattle.lc_outline.specs.Resolved.{variables_below, IsBelow}
use Rattle.lc_sound.specs.Claims.{IsProven, IsClientGood, own}
use Rattle.lc_sound.specs.Valid.{IsValid}
use Rattle.lc_term.proofs.Stores.{Every_left, Every_right, Every-map}
use Rattle.lc_rider.proofs.Riding.{Every-counted, Every-numbered}
use Rattle.lc_sound.proofs.Lifting.{Every-in}
use Rattle.lc_sound.proofs.Frames.{Kept}
use Rattle.lc_sound.proofs.Stable.{stable_holds}

-- at one client, the system columns that its frame reads
pub record FrameAt (first : ℕ) (s m : State) (i : ℤ) : Type 0 where
  pub call : (k : ℕ) → first < k → k < 5 + first → m k i ≡ s k i
  pub pend_is : (m first i ≡ s first i) ⊎ ((s first i ≡ pos 1) × (m first i ≡ pos 2))

pub frame_at : (first : ℕ) (s m : State) (i : ℤ) → Kept first s m → FrameAt first s m i
frame_at first s m i h = record { call = λ k a b. λ j. h.call k a b j i; pend_is = h.pend_is i }

hold_kept : (s m : State) (a b : Env) (i : ℤ) (cs : List ℕ) (k n : ℕ) → a 1 ≡ i → b 1 ≡ i → Every (λ c. m c i ≡ s c i) cs → ((j : ℕ) → j < k + n → b j ≡ a j) →
    EachHolds s a (hold_variables cs k n) → EachHolds m b (hold_variables cs k n)
hold_kept s m a b i [] k n p q c same h = tt
hold_kept s m a b i (x ∷ cs) k zero p q c same h = tt
hold_kept s m a b i (x ∷ cs) k (suc n) p q c same h = (
  ap (m x) q ∙ (c.0 ∙ (ap (s x) (sym p) ∙ (h.0 ∙ sym (same k (omega arith))))),
  hold_kept s m a b i cs (suc k) n p q c.1 (λ j lt. same j (omega arith)) h.1,
)

low : (x y : ℤ) → (y ≡ x) ⊎ ((x ≡ pos 1) × (y ≡ pos 2)) → pos 1 ≤ℤ x → pos 1 ≤ℤ y
low x y (inl e) h = subst (λ z. pos 1 ≤ℤ z) (sym e) h
low x y (inr e) h = subst (λ z. pos 1 ≤ℤ z) (sym e.1) (omega (arith, ints))

high : (x y : ℤ) → (y ≡ x) ⊎ ((x ≡ pos 1) × (y ≡ pos 2)) → x ≤ℤ pos 2 → y ≤ℤ pos 2
high x y (inl e) h = subst (λ z. z ≤ℤ pos 2) (sym e) h
high x y (inr e) h = subst (λ z. z ≤ℤ pos 2) (sym e.1) (omega (arith, ints))

pub frame_kept : (first o n r : ℕ) (s m : State) (a b : Env) → FrameAt first s m (pos r) → a 1 ≡ pos r → b 1 ≡ pos r → ((j : ℕ) → j < 2 + n → b j ≡ a j) →
    EachHolds s a (body_frame first o n) → EachHolds m b (body_frame first o n)
frame_kept first o n r s m a b f p q same h =
    let here : pos 1 ≤ℤ m first (b 1) = subst (λ i. pos 1 ≤ℤ m first i) (sym q) (low (s first (pos r)) (m first (pos r)) f.pend_is (subst (λ i. pos 1 ≤ℤ s first i) p h.0)) in
    let there : m first (b 1) ≤ℤ pos 2 = subst (λ i. m first i ≤ℤ pos 2) (sym q) (high (s first (pos r)) (m first (pos r)) f.pend_is (subst (λ i. s first i ≤ℤ pos 2) p h.1.0)) in
    let op : m (1 + first) (b 1) ≡ pos o = ap (m (1 + first)) q ∙ (f.call (1 + first) (omega arith) (omega arith) ∙ (ap (s (1 + first)) (sym p) ∙ h.1.1.0)) in
    let args = hold_kept s m a b (pos r) (arg_columns first) 2 n p q (f.call (2 + first) (omega arith) (omega arith), (f.call (3 + first) (omega arith) (omega arith), (f.call (4 + first) (omega arith) (omega arith), tt))) same h.1.1.1 in
    (here, (there, (op, args)))

-- ---- frames have few variables

cell_below : (n c : ℕ) (t : Term) → nat_lt 1 n ≡ true → term_passes (variables_below n) t ≡ true → IsBelow n (is_cell c t)
cell_below n c t h k = and_from (nat_lt 1 n) (term_passes (variables_below n) t) h k

hold_below : (n : ℕ) (cs : List ℕ) (k j : ℕ) → nat_lt 1 n ≡ true → k + j ≤ n → Every (IsBelow n) (hold_variables cs k j)
hold_below n [] k j h le = tt
hold_below n (c ∷ cs) k zero h le = tt
hold_below n (c ∷ cs) k (suc j) h le = (let lt : k < n = omega arith in cell_below n c (Variable k) h (grind (arith, nat_tests)), hold_below n cs (suc k) j h (omega arith))

pub frame_below : (first o j n : ℕ) → 2 + j ≤ n → Every (IsBelow n) (body_frame first o j)
frame_below first o j n le =
    let h : nat_lt 1 n ≡ true = grind (arith, nat_tests) in
    (h, (and_from (nat_lt 1 n) true h refl, (cell_below n (op_column first) (Number (pos o)) h refl, hold_below n (arg_columns first) 2 j h (omega arith))))

-- ---- the stable conditions of one action

pub for_action : (D : Development) (point : Option ℕ) (n : ℕ) (hs fs : List Formula) (a : Action) → IsIn a (all_actions D) →
    Every IsValid (concat_places (λ k f. numbered (stable_under D point n hs k f) 0 (all_actions D)) 0 fs) → Every (λ f. IsValid (stable_under D None n hs 0 f 0 a)) fs
for_action D point n hs fs a h v =
    Every-map (λ f. (k : ℕ) × Every IsValid (numbered (stable_under D point n hs k f) 0 (all_actions D))) (λ f. IsValid (stable_under D None n hs 0 f 0 a)) fs
    (λ f p. (Every-in (λ x. (i : ℕ) × IsValid (stable_under D point n hs p.0 f i x)) (all_actions D) a h (Every-numbered IsValid (stable_under D point n hs p.0 f) 0 (all_actions D) p.1)).1)
    (Every-counted IsValid (λ k f. numbered (stable_under D point n hs k f) 0 (all_actions D)) 0 fs v)

pub Every-places : {A B : Type 0} (P : B → Type 0) (f : ℕ → A → List B) (j : ℕ) (xs : List A) (k : ℕ) (x : A) → Every P (concat_places f j xs) → slice_get xs k ≡ Some x → Every P (f (j + k) x)
Every-places P f j [] k x p e = absurd cc
Every-places P f j (y ∷ ys) zero x p e =
    subst (λ i. Every P (f i x)) (omega arith) (subst (λ z. Every P (f j z)) (Rattle.std.proofs.lemmas.Option.same_Some y x e) (Every_left P (f j y) (concat_places f (suc j) ys) p))
Every-places P f j (y ∷ ys) (suc k) x p e = subst (λ i. Every P (f i x)) (omega arith) (Every-places P f (suc j) ys k x (Every_right P (f j y) (concat_places f (suc j) ys) p) e)

behind_edges : (D : Development) → Every IsValid (conditions D) → Every IsValid (concat_places (point_stability D) 0 D.object.points ++ idle_stability D)
behind_edges D v =
    Every_right IsValid (concat_map (edge_conditions D) (Rattle.lc_object.specs.Edges.edges D.object)) _
    (Every_right IsValid (concat_places (entry_conditions D) 0 D.object.operations) _ (Every_right IsValid (start_conditions D) _ v))

pub of_idle : (D : Development) → Every IsValid (conditions D) → Every IsValid (idle_stability D)
of_idle D v = Every_right IsValid (concat_places (point_stability D) 0 D.object.points) _ (behind_edges D v)

pub of_point : (D : Development) (p : ℕ) (point : Point) (o : Operation) → Every IsValid (conditions D) → slice_get D.object.points p ≡ Some point → slice_get D.object.operations point.operation ≡ Some o →
    Every IsValid (stable_conditions D (Some p) (variable_count o) (body_frame (first_system D) point.operation (length o.arguments)) (asserts_at D p))
of_point D p point o v at is =
    subst (λ x. Every IsValid (in_operation (λ k operation. stable_conditions D (Some p) (variable_count operation) (body_frame (first_system D) k (length operation.arguments)) (asserts_at D p)) point.operation x)) is
    (subst (λ k. Every IsValid (point_stability D k point)) (omega arith)
    (Every-places IsValid (point_stability D) 0 D.object.points p point (Every_left IsValid (concat_places (point_stability D) 0 D.object.points) _ (behind_edges D v)) at))

-- the action that a client took, or nothing changed
pub data Moved (D : Development) (n u : ℕ) (s m : State) : Type 0 where
  Same : m ≡ s → Moved D n u s m
  By : (a : Action) (xs : List ℤ) → IsIn a (all_actions D) → length xs ≡ length a.parameters → Acts n a u xs s m → Moved D n u s m

module _ (D : Development) (X : IsProven D) (n : ℕ) (s m : State) (u r : ℕ) (hu : u < n) (hr : r < n) (ne : r ≡ u → ⊥) (f : FrameAt (first_system D) s m (pos r))
    (inv : (e : Env) → e 0 ≡ pos n → EachHolds s e (invariant_of D)) (inv' : (e : Env) → e 0 ≡ pos n → EachHolds m e (invariant_of D)) where
  stays : (place : Option ℕ) (vs : List ℤ) (frame asserts : List Formula) → variable vs 0 ≡ pos n → variable vs 1 ≡ pos r → 2 ≤ length vs → Moved D n u s m → Every IsValid (stable_conditions D place (length vs) frame asserts) →
      Every (IsBelow (length vs)) frame → Every (IsBelow (length vs)) asserts → EachHolds s (variable vs) frame → EachHolds s (variable vs) asserts → EachHolds m (variable vs) asserts
  stays place vs frame asserts z o two (Same e) v bf ba hf ha = subst (λ x. EachHolds x (variable vs) asserts) (sym e) ha
  stays place vs frame asserts z o two (By a xs among fits acts) v bf ba hf ha =
      stable_holds D n s m u r vs xs a z o two fits hu hr ne acts inv inv' frame asserts bf ba hf ha asserts ba
      (for_action D place (length vs) (frame ++ ((invariant_of D) ++ asserts)) asserts a among v)

  pub other_good : Moved D n u s m → (x : Client) → IsClientGood D n s r x → IsClientGood D n m r x
  other_good mv Idle g = (
    (by f.pend_is, tt),
    stays None (own n r) (idle_frame (first_system D)) D.idle refl refl (omega arith) mv (of_idle D X.valid) (refl, tt) X.resolved.idle g.0 g.1,
  )
    where
      by : (m (first_system D) (pos r) ≡ s (first_system D) (pos r)) ⊎ ((s (first_system D) (pos r) ≡ pos 1) × (m (first_system D) (pos r) ≡ pos 2)) → m (first_system D) (pos r) ≡ pos 0
      by (inl e) = e ∙ g.0.0
      by (inr e) = absurd (omega (arith, ints, e.0, g.0.0))
  other_good mv (In p vs) (point, o, at, is, len, z, first, frame, asserts) = (
    point,
    o,
    at,
    is,
    len,
    z,
    first,
    frame_kept (first_system D) point.operation (length o.arguments) r s m (variable vs) (variable vs) f first first (λ j lt. refl) frame,
    stays (Some p) vs (body_frame (first_system D) point.operation (length o.arguments)) (asserts_at D p) z first (subst (λ k. 2 ≤ k) (sym len) (omega arith)) mv
        (subst (λ k. Every IsValid (stable_conditions D (Some p) k (body_frame (first_system D) point.operation (length o.arguments)) (asserts_at D p))) (sym len) (of_point D p point o X.valid at is))
        (subst (λ k. Every (IsBelow k) (body_frame (first_system D) point.operation (length o.arguments))) (sym len) (frame_below (first_system D) point.operation (length o.arguments) (variable_count o) (omega arith)))
        (subst (λ k. Every (IsBelow k) (asserts_at D p)) (sym len) (X.resolved.asserts p point o at is)) frame asserts,
  )
