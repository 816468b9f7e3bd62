-- Over every bare run there is an instrumented one, all of whose worlds are good.
use Rattle.std.proofs.Common.{◌≡◌, ℕ, List, [], ◌∷◌, ℤ, pos, Option, Some, None, refl, sym, ap, ◌∙◌, subst}
use Rattle.std.specs.Prelude.{slice_get, slice_set}
use Rattle.std.proofs.lemmas.Option.{same_Some, slice_get_within}
use Rattle.lc_term.specs.Updates.{stored_all, variable, assigned}
use Rattle.lc_term.specs.Meaning.{State}
use Rattle.lc_history.proofs.Tables.{slice_get-set}
use Rattle.lc_object.specs.Syntax.{Instr, Point}
use Rattle.lc_object.specs.Edges.{Edge}
use Rattle.lc_object.specs.declared.instr.EdgeKind.{EdgeKind}
use Rattle.lc_object.specs.declared.instr.EdgeKind.TheVariants.{Next}
use Rattle.lc_machine.specs.World.{Idle, In, World, first_variables}
use Rattle.lc_machine.specs.Step.{Event, Invoked, Moved, Returned, IsClient, IsRunning, Does, Outcome, Goes, Answers, numbers}
use Rattle.lc_machine.specs.EdgeSteps.{updated, reached}
use Rattle.lc_term.specs.Lists.{Every}
use Rattle.lc_object.specs.Places.{operation_at, operation_in}
use Rattle.lc_rider.specs.Rider.{Mark, RideAll, invocation_writes, return_writes}
use Rattle.lc_outline.specs.Development.{Development, first_system, on_at, riders_in, riders_at}
use Rattle.lc_sound.specs.Instrumented.{Label, Instrumented, Runs, start_world, with_columns}
use Rattle.lc_sound.specs.Claims.{IsProven, IsGood}
use Rattle.lc_machine.proofs.Bodies.{point_is_placed, answers_next}
use Rattle.lc_sound.proofs.Gone.{Gone, done_is_gone}
use Rattle.lc_outline.specs.Resolved.{IsRiderResolved, IsOnResolved}
use Rattle.lc_outline.specs.Development.{On}
use Rattle.lc_sound.specs.Claims.{OutlinesHold}
use Rattle.lc_sound.specs.Claims.{IsAction, IsEdgeAction, StepsAreActions}
use Rattle.lc_action.specs.Action.{enter, Acts}
use Rattle.lc_rider.specs.Rider.{argument}
use Rattle.lc_sound.proofs.Leaving.{return_edge}
use Rattle.lc_sound.proofs.Going as Y
use Rattle.lc_sound.proofs.Arrived as A
use Rattle.lc_sound.proofs.Calling as C

-- where an edge leads, by what became of the client
pub goes_where_reached : (s : State) (vs : List ℤ) (e : Edge) (next : ℕ) (new : List ℤ) (nx : Option ℕ) → Goes next new ≡ reached s vs e nx → (nx ≡ Some next) × (new ≡ assigned vs e.targets (numbers s vs e.values))
goes_where_reached s vs e next new (Some l) h = (cc h, cc h)
goes_where_reached s vs e next new None h = absurd (cc h)

pub answers_when_reached : (s : State) (vs : List ℤ) (e : Edge) (ns : List ℤ) (nx : Option ℕ) → Answers ns ≡ reached s vs e nx → (nx ≡ None) × (ns ≡ numbers s vs e.replies)
answers_when_reached s vs e ns (Some l) h = absurd (cc h)
answers_when_reached s vs e ns None h = (refl, cc h)

pub riders-are : (D : Development) (o : ℕ) (e : Edge) (x : Option On) → IsOnResolved D o e x → Every (IsRiderResolved D o) (riders_in x)
riders-are D o e None h = tt
riders-are D o e (Some x) h = h.1

-- ---- a step keeps worlds good

module _ (D : Development) (X : IsProven D) (n : ℕ) (w : World) (G : IsGood D n w) (c : ℕ) where
  -- what is known of an instruction that is gone
  pub at_edge : (p : ℕ) (vs : List ℤ) (i : Instr) (k : EdgeKind) (s' : State) (out : Outcome) → (r : IsRunning D.object w c p vs i) → Does D.object w.columns vs i k s' out →
      Gone D n w.columns s' c p vs (G.each_client c (In p vs) r.client).0 (G.each_client c (In p vs) r.client).1 k out
  at_edge p vs i k s' out r done =
      let good = G.each_client c (In p vs) r.client in
      let same : r.code.0 ≡ good.0 = same_Some r.code.0 good.0 (sym r.code.1 ∙ good.2) in
      done_is_gone D X n w.columns s' c p vs k out good (subst (λ j. Does D.object w.columns vs j k s' out) (sym r.code.2 ∙ ap (λ (x : Point). x.instruction) same) done)

  op-at : (p : ℕ) (vs : List ℤ) (at : IsClient w c (In p vs)) → operation_at D.object p ≡ (G.each_client c (In p vs) at).0.operation
  op-at p vs at = ap operation_in (G.each_client c (In p vs) at).2

  abbrev Rode : ℕ → ℕ → List ℤ → State → ℕ → EdgeKind → List Mark → State → Type 0
  Rode o q variables cols p k ms m = RideAll D.specification.operations (first_system D) c o (variable variables) cols (riders_at D p k) ms m

  pub good_invoked : (v : World) (o : ℕ) (ns : List ℤ) (ms : List Mark) → Instrumented D w c (Invoked o ns) ms v → IsGood D n v
  good_invoked v o ns ms (mid, (x, is, whole, idle, mid-is), none, v-is) =
      subst (IsGood D n) (sym v-is)
      (subst (λ (y : World). IsGood D n (with_columns y (stored_all y.columns (invocation_writes (first_system D) c o ns)))) (sym mid-is)
      (subst (λ k. IsGood D n (record { columns = stored_all w.columns (invocation_writes (first_system D) c o ns); clients = slice_set w.clients c (In x.entry (first_variables k c x ns)) })) (sym G.count)
      (C.good_after D X n w G c o ns x is whole idle)))

  -- the riders' run, in the words of the edge
  to_edge : (p : ℕ) (vs : List ℤ) (k : EdgeKind) (s' : State) (out : Outcome) (at : IsClient w c (In p vs)) (g : Gone D n w.columns s' c p vs (G.each_client c (In p vs) at).0 (G.each_client c (In p vs) at).1 k out) (variables : List ℤ) (ms : List Mark) (m : State) →
      variables ≡ assigned vs (g.edge).targets (numbers w.columns vs (g.edge).values) → RideAll D.specification.operations (first_system D) c (operation_at D.object p) (variable variables) s' (riders_at D p k) ms m →
      RideAll D.specification.operations (first_system D) c (G.each_client c (In p vs) at).0.operation (variable (assigned vs (g.edge).targets (numbers w.columns vs (g.edge).values))) (updated w.columns vs w.columns (g.edge).updates) (riders_in (on_at D (g.edge).point (g.edge).kind)) ms m
  to_edge p vs k s' out at g variables ms m vars ride =
      subst (λ (o : ℕ). RideAll D.specification.operations (first_system D) c o (variable (assigned vs (g.edge).targets (numbers w.columns vs (g.edge).values))) (updated w.columns vs w.columns (g.edge).updates) (riders_in (on_at D (g.edge).point (g.edge).kind)) ms m) (op-at p vs at)
      (subst (λ q. RideAll D.specification.operations (first_system D) c (operation_at D.object p) (variable (assigned vs (g.edge).targets (numbers w.columns vs (g.edge).values))) (updated w.columns vs w.columns (g.edge).updates) (riders_in (on_at D q (g.edge).kind)) ms m) (sym g.from)
      (subst (λ j. RideAll D.specification.operations (first_system D) c (operation_at D.object p) (variable (assigned vs (g.edge).targets (numbers w.columns vs (g.edge).values))) (updated w.columns vs w.columns (g.edge).updates) (riders_at D p j) ms m) (sym g.kind_is)
      (subst (λ cols. RideAll D.specification.operations (first_system D) c (operation_at D.object p) (variable (assigned vs (g.edge).targets (numbers w.columns vs (g.edge).values))) cols (riders_at D p k) ms m) g.columns
      (subst (λ xs. RideAll D.specification.operations (first_system D) c (operation_at D.object p) (variable xs) s' (riders_at D p k) ms m) vars ride))))

  pub from_edge : (p : ℕ) (vs : List ℤ) (k : EdgeKind) (s' : State) (out : Outcome) (at : IsClient w c (In p vs)) (g : Gone D n w.columns s' c p vs (G.each_client c (In p vs) at).0 (G.each_client c (In p vs) at).1 k out) (variables : List ℤ) (ms : List Mark) (m : State) →
      variables ≡ assigned vs (g.edge).targets (numbers w.columns vs (g.edge).values) →
      RideAll D.specification.operations (first_system D) c (G.each_client c (In p vs) at).0.operation (variable (assigned vs (g.edge).targets (numbers w.columns vs (g.edge).values))) (updated w.columns vs w.columns (g.edge).updates) (riders_in (on_at D (g.edge).point (g.edge).kind)) ms m →
      RideAll D.specification.operations (first_system D) c (operation_at D.object p) (variable variables) s' (riders_at D p k) ms m
  from_edge p vs k s' out at g variables ms m vars ride =
      subst (λ xs. RideAll D.specification.operations (first_system D) c (operation_at D.object p) (variable xs) s' (riders_at D p k) ms m) (sym vars)
      (subst (λ cols. RideAll D.specification.operations (first_system D) c (operation_at D.object p) (variable (assigned vs (g.edge).targets (numbers w.columns vs (g.edge).values))) cols (riders_at D p k) ms m) (sym g.columns)
      (subst (λ j. RideAll D.specification.operations (first_system D) c (operation_at D.object p) (variable (assigned vs (g.edge).targets (numbers w.columns vs (g.edge).values))) (updated w.columns vs w.columns (g.edge).updates) (riders_at D p j) ms m) g.kind_is
      (subst (λ q. RideAll D.specification.operations (first_system D) c (operation_at D.object p) (variable (assigned vs (g.edge).targets (numbers w.columns vs (g.edge).values))) (updated w.columns vs w.columns (g.edge).updates) (riders_in (on_at D q (g.edge).kind)) ms m) g.from
      (subst (λ (o : ℕ). RideAll D.specification.operations (first_system D) c o (variable (assigned vs (g.edge).targets (numbers w.columns vs (g.edge).values))) (updated w.columns vs w.columns (g.edge).updates) (riders_in (on_at D (g.edge).point (g.edge).kind)) ms m) (sym (op-at p vs at)) ride))))

  pub good_moved : (v : World) (p : ℕ) (k : EdgeKind) (ms : List Mark) → Instrumented D w c (Moved p k) ms v → IsGood D n v
  good_moved v p k ms (mid, there, variables, m, (vs, i, running, s', next, new, done, mid-is), isc, ride, v-is) =
      let at = running.client in
      let g = at_edge p vs i k s' (Goes next new) running done in
      let e : Edge = g.edge in
      let by = goes_where_reached w.columns vs e next new e.next g.outcome in
      let client : In next new ≡ In there variables =
      same_Some (In next new) (In there variables) (sym (slice_get-set w.clients c (In next new) (slice_get_within w.clients c (In p vs) at)) ∙ (ap (λ (y : World). slice_get y.clients c) (sym mid-is) ∙ isc)) in
      let vars : variables ≡ new = cc client in
      let cols : mid.columns ≡ s' = ap (λ (y : World). y.columns) mid-is in
      let ride' = to_edge p vs k s' (Goes next new) at g variables ms m (vars ∙ by.1) (subst (λ x. RideAll D.specification.operations (first_system D) c (operation_at D.object p) (variable variables) x (riders_at D p k) ms m) cols ride) in
      let good = A.good_after D X n w G c p vs at e g.among g.from g.facts ms m g.behind g.resolved g.steady g.one ride' g.target in
      let good' : IsGood D n (record { columns = m; clients = slice_set w.clients c (In next (assigned vs e.targets (numbers w.columns vs e.values))) }) =
      subst (λ (nx : Option ℕ). IsGood D n (record { columns = Y.ended D X n w G c p vs at e g.among g.from g.facts ms m g.one ride' nx; clients = slice_set w.clients c (A.newly nx (assigned vs e.targets (numbers w.columns vs e.values))) })) by.0 good in
      subst (IsGood D n) (sym v-is) (subst (λ (y : World). IsGood D n (with_columns y m)) (sym mid-is)
      (subst (λ xs. IsGood D n (record { columns = m; clients = slice_set w.clients c (In next xs) })) (sym by.1) good'))

  pub good_returned : (v : World) (ns : List ℤ) (ms : List Mark) → Instrumented D w c (Returned ns) ms v → IsGood D n v
  good_returned v ns ms (mid, point, variables, m, isc, (p, vs, i, running, k, s', done, mid-is), ride, just, v-is) =
      let at = running.client in
      let g = at_edge p vs i k s' (Answers ns) running done in
      let e : Edge = g.edge in
      let by = answers_when_reached w.columns vs e ns e.next g.outcome in
      let ret = return_edge D.object p (G.each_client c (In p vs) at).0.operation (G.each_client c (In p vs) at).1 (G.each_client c (In p vs) at).0.instruction e g.code g.here by.0 in
      let client : In point variables ≡ In p vs = same_Some (In point variables) (In p vs) (sym isc ∙ at) in
      let is-p : point ≡ p = cc client in
      let vars : variables ≡ vs = cc client in
      let still : vs ≡ assigned vs e.targets (numbers w.columns vs e.values) = ap (λ rs. assigned vs rs (numbers w.columns vs e.values)) (sym ret.targets) in
      let pl = point_is_placed D.object X.resolved.object p running.code.0 running.code.1 in
      let next : k ≡ Next = answers_next D.object (running.code.0).operation pl.operation w.columns vs k s' i ns done in
      let cols : mid.columns ≡ s' = ap (λ (y : World). y.columns) mid-is in
      let ride1 = subst (λ x. RideAll D.specification.operations (first_system D) c (operation_at D.object point) (variable variables) x (riders_at D point Next) ms m) cols ride in
      let ride2 = subst (λ q. RideAll D.specification.operations (first_system D) c (operation_at D.object q) (variable variables) s' (riders_at D q Next) ms m) is-p ride1 in
      let ride3 = subst (λ j. RideAll D.specification.operations (first_system D) c (operation_at D.object p) (variable variables) s' (riders_at D p j) ms m) (sym next) ride2 in
      let ride' = to_edge p vs k s' (Answers ns) at g variables ms m (vars ∙ still) ride3 in
      let good = A.good_after D X n w G c p vs at e g.among g.from g.facts ms m g.behind g.resolved g.steady g.one ride' g.target in
      let good' : IsGood D n (record { columns = stored_all m (return_writes (first_system D) c); clients = slice_set w.clients c Idle }) =
      subst (λ (nx : Option ℕ). IsGood D n (record { columns = Y.ended D X n w G c p vs at e g.among g.from g.facts ms m g.one ride' nx; clients = slice_set w.clients c (A.newly nx (assigned vs e.targets (numbers w.columns vs e.values))) })) by.0 good in
      subst (IsGood D n) (sym v-is) (subst (λ (y : World). IsGood D n (with_columns y (stored_all m (return_writes (first_system D) c)))) (sym mid-is) good')

  pub good_step : (v : World) (what : Event) (ms : List Mark) → Instrumented D w c what ms v → IsGood D n v
  good_step v (Invoked o ns) ms step = good_invoked v o ns ms step
  good_step v (Moved p k) ms step = good_moved v p k ms step
  good_step v (Returned ns) ms step = good_returned v ns ms step

pub good_run : (D : Development) (X : IsProven D) (n : ℕ) (ls : List Label) (w v : World) → IsGood D n w → Runs D w ls v → IsGood D n v
good_run D X n [] w v G run = subst (IsGood D n) (sym run) G
good_run D X n (l ∷ ls) w v G (mid, step, rest) = good_run D X n ls mid v (good_step D X n w G l.client mid l.what l.marks step) rest

pub outlines_hold : OutlinesHold
outlines_hold D X n ls w run = good_run D X n ls (start_world D n) w (C.start_good D X n) run

-- ---- each step is an instance of its action

module _ (D : Development) (X : IsProven D) (n : ℕ) (w : World) (G : IsGood D n w) (c : ℕ) where
  invoked_acts : (v : World) (o : ℕ) (ns : List ℤ) (ms : List Mark) → Instrumented D w c (Invoked o ns) ms v → IsAction D n w c (Invoked o ns) v
  invoked_acts v o ns ms (mid, (x, is, whole, idle, mid-is), none, v-is) =
      subst (λ m. Acts n (enter (first_system D)) c (pos o ∷ argument ns 0 ∷ argument ns 1 ∷ argument ns 2 ∷ []) w.columns m)
      (sym (ap (λ (y : World). y.columns) v-is ∙ ap (λ (y : World). stored_all y.columns (invocation_writes (first_system D) c o ns)) mid-is)) (C.enters D X n w G c o ns x is whole idle)

  -- the action of an edge, in the words of its point and kind
  at_point : (p : ℕ) (vs : List ℤ) (k : EdgeKind) (s' : State) (out : Outcome) (at : IsClient w c (In p vs)) (g : Gone D n w.columns s' c p vs (G.each_client c (In p vs) at).0 (G.each_client c (In p vs) at).1 k out) (nx : Option ℕ) (m : State) →
      A.Took D n c vs w.columns (on_at D (g.edge).point (g.edge).kind) nx m → A.Took D n c vs w.columns (on_at D p k) nx m
  at_point p vs k s' out at g nx m t =
      subst (λ j. A.Took D n c vs w.columns (on_at D p j) nx m) g.kind_is (subst (λ q. A.Took D n c vs w.columns (on_at D q (g.edge).kind) nx m) g.from t)

  of_move : (vs : List ℤ) (p q : ℕ) (k : EdgeKind) (x : Option On) (m : State) → A.Took D n c vs w.columns x (Some q) m → IsEdgeAction D n c vs x (Moved p k) w.columns m
  of_move vs p q k None m t = t
  of_move vs p q k (Some x) m t = t

  of_return : (vs ns : List ℤ) (x : Option On) (m : State) → A.Took D n c vs w.columns x None m → IsEdgeAction D n c vs x (Returned ns) w.columns m
  of_return vs ns None m t = t
  of_return vs ns (Some x) m t = t

  moved_acts : (v : World) (p : ℕ) (k : EdgeKind) (ms : List Mark) → Instrumented D w c (Moved p k) ms v → IsAction D n w c (Moved p k) v
  moved_acts v p k ms (mid, there, variables, m, (vs, i, running, s', next, new, done, mid-is), isc, ride, v-is) =
      let at = running.client in
      let g = at_edge D X n w G c p vs i k s' (Goes next new) running done in
      let e : Edge = g.edge in
      let by = goes_where_reached w.columns vs e next new e.next g.outcome in
      let client : In next new ≡ In there variables =
      same_Some (In next new) (In there variables) (sym (slice_get-set w.clients c (In next new) (slice_get_within w.clients c (In p vs) at)) ∙ (ap (λ (y : World). slice_get y.clients c) (sym mid-is) ∙ isc)) in
      let vars : variables ≡ new = cc client in
      let cols : mid.columns ≡ s' = ap (λ (y : World). y.columns) mid-is in
      let ride' = to_edge D X n w G c p vs k s' (Goes next new) at g variables ms m (vars ∙ by.1) (subst (λ x. RideAll D.specification.operations (first_system D) c (operation_at D.object p) (variable variables) x (riders_at D p k) ms m) cols ride) in
      let took = A.took D X n w G c p vs at e g.among g.from g.facts ms m g.behind g.resolved g.steady g.one ride' g.target in
      let here : A.Took D n c vs w.columns (on_at D e.point e.kind) (Some next) m =
      subst (λ (nx : Option ℕ). A.Took D n c vs w.columns (on_at D e.point e.kind) nx (Y.ended D X n w G c p vs at e g.among g.from g.facts ms m g.one ride' nx)) by.0 took in
      let acts = of_move vs p next k (on_at D p k) m (at_point p vs k s' (Goes next new) at g (Some next) m here) in
      (vs, at, subst (λ (x : State). IsEdgeAction D n c vs (on_at D p k) (Moved p k) w.columns x) (sym (ap (λ (y : World). y.columns) v-is)) acts)

  returned_acts : (v : World) (ns : List ℤ) (ms : List Mark) → Instrumented D w c (Returned ns) ms v → IsAction D n w c (Returned ns) v
  returned_acts v ns ms (mid, point, variables, m, isc, (p, vs, i, running, k, s', done, mid-is), ride, just, v-is) =
      let at = running.client in
      let g = at_edge D X n w G c p vs i k s' (Answers ns) running done in
      let e : Edge = g.edge in
      let by = answers_when_reached w.columns vs e ns e.next g.outcome in
      let ret = return_edge D.object p (G.each_client c (In p vs) at).0.operation (G.each_client c (In p vs) at).1 (G.each_client c (In p vs) at).0.instruction e g.code g.here by.0 in
      let client : In point variables ≡ In p vs = same_Some (In point variables) (In p vs) (sym isc ∙ at) in
      let is-p : point ≡ p = cc client in
      let vars : variables ≡ vs = cc client in
      let still : vs ≡ assigned vs e.targets (numbers w.columns vs e.values) = ap (λ rs. assigned vs rs (numbers w.columns vs e.values)) (sym ret.targets) in
      let pl = point_is_placed D.object X.resolved.object p running.code.0 running.code.1 in
      let next : k ≡ Next = answers_next D.object (running.code.0).operation pl.operation w.columns vs k s' i ns done in
      let cols : mid.columns ≡ s' = ap (λ (y : World). y.columns) mid-is in
      let ride1 = subst (λ x. RideAll D.specification.operations (first_system D) c (operation_at D.object point) (variable variables) x (riders_at D point Next) ms m) cols ride in
      let ride2 = subst (λ q. RideAll D.specification.operations (first_system D) c (operation_at D.object q) (variable variables) s' (riders_at D q Next) ms m) is-p ride1 in
      let ride3 = subst (λ j. RideAll D.specification.operations (first_system D) c (operation_at D.object p) (variable variables) s' (riders_at D p j) ms m) (sym next) ride2 in
      let ride' = to_edge D X n w G c p vs k s' (Answers ns) at g variables ms m (vars ∙ still) ride3 in
      let took = A.took D X n w G c p vs at e g.among g.from g.facts ms m g.behind g.resolved g.steady g.one ride' g.target in
      let end : State = stored_all m (return_writes (first_system D) c) in
      let here : A.Took D n c vs w.columns (on_at D e.point e.kind) None end =
      subst (λ (nx : Option ℕ). A.Took D n c vs w.columns (on_at D e.point e.kind) nx (Y.ended D X n w G c p vs at e g.among g.from g.facts ms m g.one ride' nx)) by.0 took in
      let acts = of_return vs ns (on_at D p k) end (at_point p vs k s' (Answers ns) at g None end here) in
      let acts' = subst (λ j. IsEdgeAction D n c vs (on_at D p j) (Returned ns) w.columns end) next acts in
      (p, vs, at, subst (λ (x : State). IsEdgeAction D n c vs (on_at D p Next) (Returned ns) w.columns x) (sym (ap (λ (y : World). y.columns) v-is)) acts')

  pub step_acts : (v : World) (what : Event) (ms : List Mark) → Instrumented D w c what ms v → IsAction D n w c what v
  step_acts v (Invoked o ns) ms step = invoked_acts v o ns ms step
  step_acts v (Moved p k) ms step = moved_acts v p k ms step
  step_acts v (Returned ns) ms step = returned_acts v ns ms step

pub steps_act : StepsAreActions
steps_act D X n ls w w' run c what ms step = step_acts D X n w (good_run D X n ls (start_world D n) w (C.start_good D X n) run) c w' what ms step
