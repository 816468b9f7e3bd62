-- Each bare step has its instrumented step, and over every bare run there is an instrumented one.
use Rattle.std.proofs.Common.{◌≡◌, ℕ, ◌≤◌, List, [], ◌∷◌, ℤ, Option, Some, None, map, length, refl, sym, ap, ◌∙◌, subst, arith}
use Rattle.std.specs.Prelude.{slice_get}
use Rattle.std.proofs.lemmas.Option.{slice_get_within}
use Rattle.lc_base.specs.Limits.{reply_limit}
use Rattle.lc_term.specs.Updates.{stored_all, values_of, variable, assigned}
use Rattle.lc_machine.specs.Runs.{BareLabel, BareRuns}
use Rattle.lc_term.specs.Meaning.{State, EachHolds}
use Rattle.lc_history.proofs.Tables.{slice_get-set}
use Rattle.lc_object.specs.Edges.{Edge}
use Rattle.lc_object.specs.declared.instr.EdgeKind.{EdgeKind}
use Rattle.lc_object.specs.declared.instr.EdgeKind.TheVariants.{Next}
use Rattle.lc_machine.specs.World.{In, World, initial_world}
use Rattle.lc_machine.specs.Step.{Event, Invoked, Moved, Returned, IsClient, Steps, Goes, Answers, numbers}
use Rattle.lc_machine.specs.EdgeSteps.{updated}
use Rattle.lc_rider.specs.Rider.{RideAll, IsJustified, invocation_writes, return_writes}
use Rattle.lc_outline.specs.Development.{Development, first_system, riders_in, on_at}
use Rattle.lc_cond.specs.Conditions.{justified}
use Rattle.lc_sound.specs.Instrumented.{Label, Runs, start_world, with_columns, IsOver, IsConcrete, unmarked}
use Rattle.lc_sound.specs.Claims.{IsProven, IsGood, IsLifted, BareStepsLift, RunsAreSimulated, Headline}
use Rattle.lc_term.proofs.Stores.{writes_other}
use Rattle.lc_sound.proofs.RowChanges.{invocation_behind}
use Rattle.lc_outline.proofs.Matched.{match_at, arity_and_replies_few}
use Rattle.lc_sound.proofs.Going.{justified_is}
use Rattle.lc_machine.proofs.Over.{Agree, IsStepOver, step_over}
use Rattle.lc_sound.proofs.Leaving.{behind_other, rides_leave, return_edge, code_values}
use Rattle.lc_sound.proofs.Lifting as L
use Rattle.lc_sound.proofs.Going as Y
use Rattle.lc_sound.proofs.Arrived.{only_kept}
use Rattle.lc_sound.proofs.Calling as C
use Rattle.lc_sound.proofs.Simulated.{at_edge, goes_where_reached, answers_when_reached, riders-are, from_edge, good_run, good_step}
use Rattle.lc_sound.proofs.Standing.{own_of, to_own, start_over}
use Rattle.lc_sound.proofs.Headline.{headline_if_simulated}

module _ (D : Development) (X : IsProven D) (n : ℕ) (w b : World) (G : IsGood D n w) (over : IsOver D w b) (c : ℕ) where
  agree : Agree D.object b.columns w.columns
  agree k own = sym (over.columns k (own_of D X.resolved k own))

  stands : (mid b' : World) (m : State) → b'.clients ≡ mid.clients → Agree D.object b'.columns mid.columns → ((k : ℕ) → IsConcrete D k → m k ≡ mid.columns k) → IsOver D (with_columns mid m) b'
  stands mid b' m cs cols same = record { clients = sym cs; columns = λ k own. same k own ∙ sym (cols k (to_own D X.resolved k own)) }

  invoked : (o : ℕ) (ns : List ℤ) (b' : World) → IsStepOver D.object w c (Invoked o ns) b' → IsLifted D w c (Invoked o ns) b'
  invoked o ns b' s = record {
    to = with_columns s.to (stored_all (s.to).columns (invocation_writes (first_system D) c o ns));
    marks = [];
    step = (s.to, s.steps, refl, refl);
    over = stands s.to b' (stored_all (s.to).columns (invocation_writes (first_system D) c o ns)) s.clients s.columns
        (λ k own. writes_other (s.to).columns (invocation_writes (first_system D) c o ns) k (behind_other (first_system D) k (invocation_writes (first_system D) c o ns) (let l = own.1 in omega arith) (invocation_behind (first_system D) c o ns)));
  }

  moved : (p : ℕ) (k : EdgeKind) (b' : World) → IsStepOver D.object w c (Moved p k) b' → IsLifted D w c (Moved p k) b'
  moved p k b' s = go s.to s.steps s.clients s.columns
    where
      go : (mid : World) → Steps D.object w c (Moved p k) mid → b'.clients ≡ mid.clients → Agree D.object b'.columns mid.columns → IsLifted D w c (Moved p k) b'
      go mid (vs, i, running, s', next, new, done, mid-is) cs cols =
          let at = running.client in
          let g = at_edge D X n w G c p vs i k s' (Goes next new) running done in
          let e : Edge = g.edge in
          let by = goes_where_reached w.columns vs e next new e.next g.outcome in
          let res = riders-are D (G.each_client c (In p vs) at).0.operation e (on_at D e.point e.kind) g.resolved in
          let r = L.rides_on D X n w G c p vs at e g.among g.from g.facts res (only_kept (first_system D) n w.columns (updated w.columns vs w.columns e.updates) g.steady G.only) g.one in
          let mid-cols : mid.columns ≡ s' = ap (λ (y : World). y.columns) mid-is in
          let ride = from_edge D X n w G c p vs k s' (Goes next new) at g new r.0 r.1 by.1 r.2 in
          let client : IsClient mid c (In next new) = ap (λ (y : World). slice_get y.clients c) mid-is ∙ slice_get-set w.clients c (In next new) (slice_get_within w.clients c (In p vs) at) in
          record {
            to = with_columns mid r.1;
            marks = r.0;
            step = (
              mid,
              next,
              new,
              r.1,
              (vs, i, running, s', next, new, done, mid-is),
              client,
              subst (λ x. RideAll D.specification.operations (first_system D) c (Rattle.lc_object.specs.Places.operation_at D.object p) (variable new) x (Rattle.lc_outline.specs.Development.riders_at D p k) r.0 r.1) (sym mid-cols) ride,
              refl,
            );
            over = stands mid b' r.1 cs cols (λ j own.
                rides_leave D X.resolved j own c (G.each_client c (In p vs) at).0.operation (variable (assigned vs e.targets (numbers w.columns vs e.values))) (riders_in (on_at D e.point e.kind)) (updated w.columns vs w.columns e.updates) r.1 r.0 res r.2
                ∙ (λ i. (sym g.columns ∙ sym mid-cols) i j));
          }

  ended : (ns : List ℤ) (b' : World) → IsStepOver D.object w c (Returned ns) b' → IsLifted D w c (Returned ns) b'
  ended ns b' s = go s.to s.steps s.clients s.columns
    where
      go : (mid : World) → Steps D.object w c (Returned ns) mid → b'.clients ≡ mid.clients → Agree D.object b'.columns mid.columns → IsLifted D w c (Returned ns) b'
      go mid (p, vs, i, running, k, s', done, mid-is) cs cols =
          let at = running.client in
          let g = at_edge D X n w G c p vs i k s' (Answers ns) running done in
          let e : Edge = g.edge in
          let by = answers_when_reached w.columns vs e ns e.next g.outcome in
          let ret = return_edge D.object p (G.each_client c (In p vs) at).0.operation (G.each_client c (In p vs) at).1 (G.each_client c (In p vs) at).0.instruction e g.code g.here by.0 in
          let still : vs ≡ assigned vs e.targets (numbers w.columns vs e.values) = ap (λ rs. assigned vs rs (numbers w.columns vs e.values)) (sym ret.targets) in
          let res = riders-are D (G.each_client c (In p vs) at).0.operation e (on_at D e.point e.kind) g.resolved in
          let r = L.rides_on D X n w G c p vs at e g.among g.from g.facts res (only_kept (first_system D) n w.columns (updated w.columns vs w.columns e.updates) g.steady G.only) g.one in
          let mid-cols : mid.columns ≡ s' = ap (λ (y : World). y.columns) mid-is in
          let pl = Rattle.lc_machine.proofs.Bodies.point_is_placed D.object X.resolved.object p running.code.0 running.code.1 in
          let next : k ≡ Next = Rattle.lc_machine.proofs.Bodies.answers_next D.object (running.code.0).operation pl.operation w.columns vs k s' i ns done in
          let ride1 = from_edge D X n w G c p vs k s' (Answers ns) at g vs r.0 r.1 still r.2 in
          let ride = subst (λ j. RideAll D.specification.operations (first_system D) c (Rattle.lc_object.specs.Places.operation_at D.object p) (variable vs) s' (Rattle.lc_outline.specs.Development.riders_at D p j) r.0 r.1) next ride1 in
          let said = Y.replied D X n w G c p vs at e g.among g.from g.facts r.0 r.1 g.one r.2 in
          let goal : EachHolds r.1 (variable (assigned vs e.targets (numbers w.columns vs e.values))) (justified (first_system D) e.replies ∷ []) =
          subst (λ (nx : Option ℕ). EachHolds r.1 (variable (assigned vs e.targets (numbers w.columns vs e.values))) (elim nx as (λ x. List Rattle.lc_term.specs.Syntax.Formula) [ Some q ↦ [] | None ↦ justified (first_system D) e.replies ∷ [] ])) by.0 said in
          let short : length e.replies ≤ reply_limit = (let m = (match_at D X.resolved (G.each_client c (In p vs) at).0.operation (G.each_client c (In p vs) at).1 (G.each_client c (In p vs) at).3).replies in let f = (arity_and_replies_few D X.resolved (G.each_client c (In p vs) at).0.operation).1 in let q = ret.count in omega arith) in
          let just : IsJustified (first_system D) r.1 c (values_of r.1 (variable (assigned vs e.targets (numbers w.columns vs e.values))) e.replies) =
          justified_is (first_system D) r.1 (variable (assigned vs e.targets (numbers w.columns vs e.values))) c e.replies g.one short goal.0 in
          let same : values_of r.1 (variable (assigned vs e.targets (numbers w.columns vs e.values))) e.replies ≡ ns =
          ap (λ xs. values_of r.1 (variable xs) e.replies) (sym still) ∙ (code_values r.1 w.columns (variable vs) (Rattle.lc_object.specs.WellFormed.variable_count (G.each_client c (In p vs) at).1) e.replies ret.code ∙ sym by.1) in
          record {
            to = with_columns mid (stored_all r.1 (return_writes (first_system D) c));
            marks = r.0;
            step = (
              mid,
              p,
              vs,
              r.1,
              at,
              (p, vs, i, running, k, s', done, mid-is),
              subst (λ x. RideAll D.specification.operations (first_system D) c (Rattle.lc_object.specs.Places.operation_at D.object p) (variable vs) x (Rattle.lc_outline.specs.Development.riders_at D p Next) r.0 r.1) (sym mid-cols) ride,
              subst (IsJustified (first_system D) r.1 c) same just,
              refl,
            );
            over = stands mid b' (stored_all r.1 (return_writes (first_system D) c)) cs cols (λ j own.
                writes_other r.1 (return_writes (first_system D) c) j ((λ x. let l = own.1 in omega arith), tt)
                ∙ (rides_leave D X.resolved j own c (G.each_client c (In p vs) at).0.operation (variable (assigned vs e.targets (numbers w.columns vs e.values))) (riders_in (on_at D e.point e.kind)) (updated w.columns vs w.columns e.updates) r.1 r.0 res r.2
                ∙ (λ i. (sym g.columns ∙ sym mid-cols) i j)));
          }

  by_event : (what : Event) (b' : World) → IsStepOver D.object w c what b' → IsLifted D w c what b'
  by_event (Invoked o ns) b' s = invoked o ns b' s
  by_event (Moved p k) b' s = moved p k b' s
  by_event (Returned ns) b' s = ended ns b' s

  pub lifted : (what : Event) (b' : World) → Steps D.object b c what b' → IsLifted D w c what b'
  lifted what b' s = by_event what b' (step_over D.object X.resolved.object b w (sym over.clients) agree c what b' s)

pub bare_steps_lift : BareStepsLift
bare_steps_lift D X n ls w b run over c what b' s = lifted D X n w b (good_run D X n ls (start_world D n) w (C.start_good D X n) run) over c what b' s

over_run : (D : Development) (X : IsProven D) (n : ℕ) (ls : List BareLabel) (w b end : World) → IsGood D n w → IsOver D w b → BareRuns D.object b ls end →
    (labels : List Label) × (v : World) × Runs D w labels v × (map unmarked labels ≡ ls) × IsOver D v end
over_run D X n [] w b end G over run = ([], w, refl, refl, subst (IsOver D w) (sym run) over)
over_run D X n (l ∷ ls) w b end G over (mid, step, rest) =
    let x = lifted D X n w b G over l.client l.what mid step in
    let y = over_run D X n ls x.to mid end (good_step D X n w G l.client x.to l.what x.marks x.step) x.over rest in
    (record { client = l.client; what = l.what; marks = x.marks } ∷ y.0, y.1, (x.to, x.step, y.2), ap (λ zs. l ∷ zs) y.3, y.4)

pub runs_are_simulated : RunsAreSimulated
runs_are_simulated D X n ls b run =
    let y = over_run D X n ls (start_world D n) (initial_world D.object n) b (C.start_good D X n) (start_over D X.resolved n) run in
    record { labels = y.0; world = y.1; run = y.2; same = y.3; over = y.4 }

pub headline_is_proved : Headline
headline_is_proved = headline_if_simulated runs_are_simulated
