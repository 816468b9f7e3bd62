-- A run and one more step are a run; and a step is determined by its client, and by the call if one begins.
use Rattle.std.proofs.Common.{◌≡◌, ℕ, true, false, List, [], ◌∷◌, ◌++◌, ℤ, Option, Some, None, refl, sym, ap, ◌∙◌, subst, inl, inr, arith}
use Rattle.std.specs.Prelude.{slice_get}
use Rattle.std.proofs.lemmas.Int.{ints}
use Rattle.std.proofs.lemmas.Option.{same_Some}
use Rattle.lc_term.specs.Updates.{Write, stored_all, variable}
use Rattle.lc_term.specs.Syntax.{Formula}
use Rattle.lc_term.specs.Meaning.{State, Env}
use Rattle.lc_seq.specs.Sequential.{Choice}
use Rattle.lc_seq.specs.Specification.{Operation}
use Rattle.lc_object.specs.Syntax.{Instr, Load, Store, Cas, Set, Faa, If, Return, Object, Point}
use Rattle.lc_object.specs.declared.instr.EdgeKind.{EdgeKind}
use Rattle.lc_object.specs.declared.instr.EdgeKind.TheVariants.{Next}
use Rattle.lc_machine.specs.World.{Idle, In, World, first_variables}
use Rattle.lc_machine.specs.Step.{Event, Invoked, Moved, Returned, IsRunning, Does, Outcome, Goes, Answers, after}
use Rattle.lc_object.specs.Places.{operation_at}
use Rattle.lc_rider.specs.Rider.{Marking, Own, Other, Note, Deed, Assign, Marks, Rider, Mark, choice_at, IsSettled, IsMarked, IsDone, IsDoneWhere, RideAll, mark_writes, note_writes, invocation_writes, return_writes}
use Rattle.lc_outline.specs.Development.{Development, first_system, riders_at}
use Rattle.lc_sound.specs.Instrumented.{Label, Runs, start_world, Instrumented, with_columns}
use Rattle.lc_sound.specs.Claims.{RunsExtend, StepsAreDetermined}

one_more : (D : Development) (u : World) (ls : List Label) (w v : World) (c : ℕ) (what : Event) (ms : List Mark) → Runs D u ls w → Instrumented D w c what ms v → Runs D u (ls ++ record { client = c; what = what; marks = ms } ∷ []) v
one_more D u [] w v c what ms run step = (v, subst (λ x. Instrumented D x c what ms v) run step, refl)
one_more D u (l ∷ ls) w v c what ms (mid, first, rest) step = (mid, first, one_more D mid ls w v c what ms rest step)

pub runs_extend : RunsExtend
runs_extend D n ls w v c what ms run step = one_more D (start_world D n) ls w v c what ms run step

-- ---- an instruction

pub does_once : (object : Object) (s : State) (vs : List ℤ) (i : Instr) (k l : EdgeKind) (a b : State) (x y : Outcome) → Does object s vs i k a x → Does object s vs i l b y → (k ≡ l) × (a ≡ b) × (x ≡ y)
does_once object s vs (Load a t rs m) k l x y o p (d, e, f) (g, h, j) = (d ∙ sym g, e ∙ sym h, f ∙ sym j)
does_once object s vs (Store a t us m) k l x y o p (d, e, f) (g, h, j) = (d ∙ sym g, e ∙ sym h, f ∙ sym j)
does_once object s vs (Cas a t old new m q) k l x y o p (inl (is, d, e, f)) (inl (is', g, h, j)) = (d ∙ sym g, e ∙ sym h, f ∙ sym j)
does_once object s vs (Cas a t old new m q) k l x y o p (inl (is, d, e, f)) (inr (not, g, h, j)) = absurd (not is)
does_once object s vs (Cas a t old new m q) k l x y o p (inr (not, d, e, f)) (inl (is, g, h, j)) = absurd (not is)
does_once object s vs (Cas a t old new m q) k l x y o p (inr (not, d, e, f)) (inr (not', g, h, j)) = (d ∙ sym g, e ∙ sym h, f ∙ sym j)
does_once object s vs (Set rs us m) k l x y o p (d, e, f) (g, h, j) = (d ∙ sym g, e ∙ sym h, f ∙ sym j)
does_once object s vs (Faa a t rs us m) k l x y o p (d, e, f) (g, h, j) = (d ∙ sym g, e ∙ sym h, f ∙ sym j)
does_once object s vs (If t m q) k l x y o p (inl (is, d, e, f)) (inl (is', g, h, j)) = (d ∙ sym g, e ∙ sym h, f ∙ sym j)
does_once object s vs (If t m q) k l x y o p (inl (is, d, e, f)) (inr (not, g, h, j)) = absurd (not is)
does_once object s vs (If t m q) k l x y o p (inr (not, d, e, f)) (inl (is, g, h, j)) = absurd (not is)
does_once object s vs (If t m q) k l x y o p (inr (not, d, e, f)) (inr (not', g, h, j)) = (d ∙ sym g, e ∙ sym h, f ∙ sym j)
does_once object s vs (Return us) k l x y o p (d, e, f) (g, h, j) = (d ∙ sym g, e ∙ sym h, f ∙ sym j)

-- ---- riders

module _ (operations : List Operation) (first : ℕ) where
  settled_once : (m : State) (c o : ℕ) (choice : Choice) (ms ns : List Mark) (a b : State) → IsSettled operations first m c o choice ms a → IsSettled operations first m c o choice ns b → (ms ≡ ns) × (a ≡ b)
  settled_once m c o choice ms ns a b (ws, reply, one, is, ms-is, a-is) (us, said, one', is', ns-is, b-is) =
      let same : (ws, reply) ≡ (us, said) = same_Some (ws, reply) (us, said) (sym is ∙ is') in (
        ms-is ∙ (ap (λ (p : List Write × List ℤ). record { client = c; note = false; choice = choice; reply = p.1 } ∷ []) same ∙ sym ns-is),
        a-is ∙ (ap (λ (p : List Write × List ℤ). stored_all m (p.0 ++ mark_writes first c p.1)) same ∙ sym b-is),
      )

  marked_once : (self o : ℕ) (e : Env) (m : State) (k : Marking) (choice : Choice) (ms ns : List Mark) (a b : State) → IsMarked operations first self o e m k choice ms a → IsMarked operations first self o e m k choice ns b → (ms ≡ ns) × (a ≡ b)
  marked_once self o e m Own choice ms ns a b d f = settled_once m self o choice ms ns a b d f
  marked_once self o e m (Other t p) choice ms ns a b (c, is, op, d) (c', is', op', f) =
      let same : c' ≡ c = omega (arith, ints, sym is' ∙ is) in
      settled_once m c p choice ms ns a b d (subst (λ x. IsSettled operations first m x p choice ns b) same f)
  marked_once self o e m Note choice ms ns a b (reply, one, is, ms-is, a-is) (said, one', is', ns-is, b-is) =
      let none : List Write = [] in
      let same : (none, reply) ≡ (none, said) = same_Some (none, reply) (none, said) (sym is ∙ is') in (
        ms-is ∙ (ap (λ (p : List Write × List ℤ). record { client = self; note = true; choice = choice; reply = p.1 } ∷ []) same ∙ sym ns-is),
        a-is ∙ (ap (λ (p : List Write × List ℤ). stored_all m (note_writes first self p.1)) same ∙ sym b-is),
      )

  done_once : (self o : ℕ) (e : Env) (m : State) (d : Deed) (ms ns : List Mark) (a b : State) → IsDone operations first self o e m d ms a → IsDone operations first self o e m d ns b → (ms ≡ ns) × (a ≡ b)
  done_once self o e m (Assign u) ms ns a b (x, y) (z, w) = (x ∙ sym z, y ∙ sym w)
  done_once self o e m (Marks k by) ms ns a b d f = marked_once self o e m k (choice_at m e by) ms ns a b d f

  where_once : (condition : Option Formula) (self o : ℕ) (e : Env) (m : State) (d : Deed) (ms ns : List Mark) (a b : State) → IsDoneWhere operations first condition self o e m d ms a → IsDoneWhere operations first condition self o e m d ns b → (ms ≡ ns) × (a ≡ b)
  where_once None self o e m d ms ns a b x y = done_once self o e m d ms ns a b x y
  where_once (Some f) self o e m d ms ns a b (inl x) (inl y) = done_once self o e m d ms ns a b x.1 y.1
  where_once (Some f) self o e m d ms ns a b (inl x) (inr y) = absurd (y.0 x.0)
  where_once (Some f) self o e m d ms ns a b (inr x) (inl y) = absurd (x.0 y.0)
  where_once (Some f) self o e m d ms ns a b (inr x) (inr y) = (x.1 ∙ sym y.1, x.2 ∙ sym y.2)

  rides_once : (self o : ℕ) (e : Env) (rs : List Rider) (m : State) (ms ns : List Mark) (a b : State) → RideAll operations first self o e m rs ms a → RideAll operations first self o e m rs ns b → (ms ≡ ns) × (a ≡ b)
  rides_once self o e [] m ms ns a b (x, y) (z, w) = (x ∙ sym z, y ∙ sym w)
  rides_once self o e (r ∷ rs) m ms ns a b (mid, now, later, ride, rest, is) (mid', now', later', ride', rest', is') =
      let one = where_once r.condition self o e m r.deed now now' mid mid' ride ride' in
      let two = rides_once self o e rs mid later later' a b rest (subst (λ x. RideAll operations first self o e x rs later' b) (sym one.1) rest') in
      (is ∙ ((λ i. one.0 i ++ two.0 i) ∙ sym is'), two.1)

-- ---- a step

-- the same client, with its instruction
pub same_running : (object : Object) (w : World) (c p q : ℕ) (vs us : List ℤ) (i j : Instr) → IsRunning object w c p vs i → IsRunning object w c q us j → (p ≡ q) × (vs ≡ us) × (i ≡ j)
same_running object w c p q vs us i j r t =
    let client : In p vs ≡ In q us = same_Some (In p vs) (In q us) (sym r.client ∙ t.client) in
    let point : p ≡ q = cc client in
    let same : r.code.0 ≡ t.code.0 = same_Some r.code.0 t.code.0 (sym r.code.1 ∙ (ap (slice_get object.points) point ∙ t.code.1)) in
    (point, cc client, sym r.code.2 ∙ (ap (λ (x : Point). x.instruction) same ∙ t.code.2))

-- what the two did, if they run the same instruction
pub same_done : (object : Object) (w : World) (c p q : ℕ) (vs us : List ℤ) (i j : Instr) (k l : EdgeKind) (a b : State) (x y : Outcome) → IsRunning object w c p vs i → IsRunning object w c q us j →
    Does object w.columns vs i k a x → Does object w.columns us j l b y → (k ≡ l) × (a ≡ b) × (x ≡ y)
same_done object w c p q vs us i j k l a b x y r t d f =
    let same = same_running object w c p q vs us i j r t in
    does_once object w.columns vs i k l a b x y d (subst (λ z. Does object w.columns vs z l b y) (sym same.2) (subst (λ zs. Does object w.columns zs j l b y) (sym same.1) f))

pub steps_are_determined : StepsAreDetermined
steps_are_determined D w c (Invoked o ns) (Invoked p us) ms ns' v v' alike (mid, (x, is, whole, idle, mid-is), none, v-is) (mid', (x', is', whole', idle', mid-is'), none', v-is') =
    let op : x ≡ x' = same_Some x x' (sym is ∙ (ap (slice_get D.object.operations) alike.0 ∙ is')) in
    let mids : mid ≡ mid' = mid-is ∙ ((λ i. after w w.columns c (In (op i).entry (first_variables (Rattle.std.specs.Prelude.length w.clients) c (op i) (alike.1 i)))) ∙ sym mid-is') in
    record {
      event = λ i. Invoked (alike.0 i) (alike.1 i);
      marks = none ∙ sym none';
      world = v-is ∙ ((λ i. with_columns (mids i) (stored_all (mids i).columns (invocation_writes (first_system D) c (alike.0 i) (alike.1 i)))) ∙ sym v-is');
    }
steps_are_determined D w c (Invoked o ns) (Moved p k) ms ns' v v' alike step step' = absurd alike
steps_are_determined D w c (Invoked o ns) (Returned us) ms ns' v v' alike step step' = absurd alike
steps_are_determined D w c (Moved p k) (Invoked o us) ms ns' v v' alike step step' = absurd alike
steps_are_determined D w c (Returned ns) (Invoked o us) ms ns' v v' alike step step' = absurd alike
steps_are_determined D w c (Moved p k) (Moved q l) ms ns v v' alike (mid, there, variables, m, (vs, i, running, s, next, new, done, mid-is), isc, ride, v-is) (mid', there', variables', m', (vs', i', running', s', next', new', done', mid-is'), isc', ride', v-is') =
    let place = same_running D.object w c p q vs vs' i i' running running' in
    let did = same_done D.object w c p q vs vs' i i' k l s s' (Goes next new) (Goes next' new') running running' done done' in
    let to : next ≡ next' = cc did.2 in
    let new-is : new ≡ new' = cc did.2 in
    let mids : mid ≡ mid' = mid-is ∙ ((λ x. after w (did.1 x) c (In (to x) (new-is x))) ∙ sym mid-is') in
    let client : In there variables ≡ In there' variables' = same_Some (In there variables) (In there' variables') (sym isc ∙ (ap (λ (y : World). slice_get y.clients c) mids ∙ isc')) in
    let vars : variables ≡ variables' = cc client in
    let rode = subst (λ x. RideAll D.specification.operations (first_system D) c (operation_at D.object p) (variable variables) x.columns (riders_at D p k) ns m') (sym mids)
    (subst (λ xs. RideAll D.specification.operations (first_system D) c (operation_at D.object p) (variable xs) mid'.columns (riders_at D p k) ns m') (sym vars)
    (subst (λ z. RideAll D.specification.operations (first_system D) c (operation_at D.object p) (variable variables') mid'.columns (riders_at D p z) ns m') (sym did.0)
    (subst (λ z. RideAll D.specification.operations (first_system D) c (operation_at D.object z) (variable variables') mid'.columns (riders_at D z l) ns m') (sym place.0) ride'))) in
    let same = rides_once D.specification.operations (first_system D) c (operation_at D.object p) (variable variables) (riders_at D p k) mid.columns ms ns m m' ride rode in
    record { event = λ x. Moved (place.0 x) (did.0 x); marks = same.0; world = v-is ∙ ((λ x. with_columns (mids x) (same.1 x)) ∙ sym v-is') }
steps_are_determined D w c (Moved p k) (Returned us) ms ns v v' alike (mid, there, variables, m, (vs, i, running, s, next, new, done, mid-is), isc, ride, v-is) (mid', q', vars', m', isc', (q, vs', i', running', l, s', done', mid-is'), ride', just', v-is') =
    absurd (cc (same_done D.object w c p q vs vs' i i' k l s s' (Goes next new) (Answers us) running running' done done').2)
steps_are_determined D w c (Returned us) (Moved p k) ms ns v v' alike (mid', q', vars', m', isc', (q, vs', i', running', l, s', done', mid-is'), ride', just', v-is') (mid, there, variables, m, (vs, i, running, s, next, new, done, mid-is), isc, ride, v-is) =
    absurd (cc (same_done D.object w c q p vs' vs i' i l k s' s (Answers us) (Goes next new) running' running done' done).2)
steps_are_determined D w c (Returned xs) (Returned ys) ms ns v v' alike (mid, point, variables, m, isc, (p, vs, i, running, k, s, done, mid-is), ride, just, v-is) (mid', point', variables', m', isc', (q, vs', i', running', l, s', done', mid-is'), ride', just', v-is') =
    let did = same_done D.object w c p q vs vs' i i' k l s s' (Answers xs) (Answers ys) running running' done done' in
    let numbers : xs ≡ ys = cc did.2 in
    let mids : mid ≡ mid' = mid-is ∙ ((λ x. after w (did.1 x) c Idle) ∙ sym mid-is') in
    let client : In point variables ≡ In point' variables' = same_Some (In point variables) (In point' variables') (sym isc ∙ isc') in
    let at : point ≡ point' = cc client in
    let vars : variables ≡ variables' = cc client in
    let rode = subst (λ x. RideAll D.specification.operations (first_system D) c (operation_at D.object point) (variable variables) x.columns (riders_at D point Next) ns m') (sym mids)
    (subst (λ zs. RideAll D.specification.operations (first_system D) c (operation_at D.object point) (variable zs) mid'.columns (riders_at D point Next) ns m') (sym vars)
    (subst (λ z. RideAll D.specification.operations (first_system D) c (operation_at D.object z) (variable variables') mid'.columns (riders_at D z Next) ns m') (sym at) ride')) in
    let same = rides_once D.specification.operations (first_system D) c (operation_at D.object point) (variable variables) (riders_at D point Next) mid.columns ms ns m m' ride rode in
    record { event = ap Returned numbers; marks = same.0; world = v-is ∙ ((λ x. with_columns (mids x) (stored_all (same.1 x) (return_writes (first_system D) c))) ∙ sym v-is') }
