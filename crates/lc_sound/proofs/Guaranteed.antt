-- Each step of a client is in its guarantee.
use Rattle.std.proofs.Common.{◌≡◌, ℕ, List, [], ◌∷◌, ℤ, pos, Option, Some, None, map, length, refl, sym, ap, ◌∙◌, subst, inl, inr}
use Rattle.std.specs.Prelude.{slice_get}
use Rattle.std.proofs.lemmas.Option.{same_Some}
use Rattle.std.proofs.lemmas.List.{length-map}
use Rattle.lc_term.specs.Updates.{variable}
use Rattle.lc_term.specs.Meaning.{State, outside, value}
use Rattle.lc_object.specs.Edges.{Edge}
use Rattle.lc_object.specs.declared.instr.EdgeKind.{EdgeKind}
use Rattle.lc_object.specs.declared.instr.EdgeKind.TheVariants.{Next}
use Rattle.lc_machine.specs.World.{In, World}
use Rattle.lc_machine.specs.Step.{Event, Invoked, Moved, Returned, Goes, Answers}
use Rattle.lc_machine.proofs.Bodies.{point_is_placed, answers_next}
use Rattle.lc_action.specs.Action.{Action, skip, enter, leave}
use Rattle.lc_rider.specs.Rider.{Mark, argument}
use Rattle.lc_outline.specs.Development.{Development, On, first_system, on_at}
use Rattle.lc_outline.specs.Resolved.{IsOnResolved}
use Rattle.lc_sound.specs.Claims.{IsProven, IsGood, IsEdgeAction}
use Rattle.lc_sound.specs.Instrumented.{Instrumented, start_world}
use Rattle.lc_sound.specs.Rely.{Guarantee, StepsAreInGuarantees}
use Rattle.lc_sound.proofs.Arrived.{in_front}
use Rattle.lc_sound.proofs.Calling as C
use Rattle.lc_sound.proofs.Simulated.{at_edge, good_run, step_acts}
use Rattle.lc_machine.proofs.EdgeLaw.{in_back}

-- the action at an edge, if there is one, has as many parameters as there are arguments
abbrev Fits : Development → Option On → Type 0
Fits D None = Unit {0}
Fits D (Some x) = (a : Action) × (slice_get D.actions x.action ≡ Some a) × (length x.arguments ≡ length a.parameters)

fits : (D : Development) (o : ℕ) (e : Edge) (x : Option On) → IsOnResolved D o e x → Fits D x
fits D o e None r = tt
fits D o e (Some x) r = r.0

module _ (D : Development) (n c : ℕ) (m m' : State) where
  -- the action of an edge is in the guarantee
  of_edge : (vs : List ℤ) (x : Option On) (what : Event) → Fits D x → IsEdgeAction D n c vs x what m m' → Guarantee D n c m m'
  of_edge vs None (Invoked o ns) f acts = absurd acts
  of_edge vs None (Moved p k) f acts = record { action = skip; numbers = []; among = inl refl; fits = refl; acts = acts }
  of_edge vs None (Returned ns) f acts = record {
    action = leave (first_system D);
    numbers = [];
    among = inr (in_back (leave (first_system D)) D.actions (enter (first_system D) ∷ leave (first_system D) ∷ []) (inr (inl refl)));
    fits = refl;
    acts = acts;
  }
  of_edge vs (Some x) what (a, at, fit) (b, is, acts) = record {
    action = b;
    numbers = map (value m (variable vs) outside) x.arguments;
    among = inr (in_front b D.actions (enter (first_system D) ∷ leave (first_system D) ∷ []) x.action is);
    fits = length-map x.arguments (value m (variable vs) outside) ∙ (fit ∙ ap (λ (y : Action). length y.parameters) (same_Some a b (sym at ∙ is)));
    acts = acts;
  }

module _ (D : Development) (X : IsProven D) (n : ℕ) (w : World) (G : IsGood D n w) (c : ℕ) (v : World) where
  of_step : (what : Event) (marks : List Mark) → Instrumented D w c what marks v → Guarantee D n c w.columns v.columns
  of_step (Invoked o ns) marks step = record {
    action = enter (first_system D);
    numbers = pos o ∷ argument ns 0 ∷ argument ns 1 ∷ argument ns 2 ∷ [];
    among = inr (in_back (enter (first_system D)) D.actions (enter (first_system D) ∷ leave (first_system D) ∷ []) (inl refl));
    fits = refl;
    acts = step_acts D X n w G c v (Invoked o ns) marks step;
  }
  of_step (Moved p k) marks (mid, there, variables, m, (vs, i, running, s', next, new, done, mid-is), isc, ride, v-is) =
      let g = at_edge D X n w G c p vs i k s' (Goes next new) running done in
      let e : Edge = g.edge in
      let there_fits : Fits D (on_at D e.point e.kind) = fits D (G.each_client c (In p vs) running.client).0.operation e (on_at D e.point e.kind) g.resolved in
      let here_fits : Fits D (on_at D p k) = subst (λ (j : EdgeKind). Fits D (on_at D p j)) g.kind_is (subst (λ q. Fits D (on_at D q e.kind)) g.from there_fits) in
      let acts = step_acts D X n w G c v (Moved p k) marks (mid, there, variables, m, (vs, i, running, s', next, new, done, mid-is), isc, ride, v-is) in
      of_edge D n c w.columns v.columns acts.0 (on_at D p k) (Moved p k) here_fits acts.2
  of_step (Returned ns) marks (mid, point, variables, m, isc, (p, vs, i, running, k, s', done, mid-is), ride, just, v-is) =
      let g = at_edge D X n w G c p vs i k s' (Answers ns) running done in
      let e : Edge = g.edge in
      let there_fits : Fits D (on_at D e.point e.kind) = fits D (G.each_client c (In p vs) running.client).0.operation e (on_at D e.point e.kind) g.resolved in
      let here_fits : Fits D (on_at D p k) = subst (λ (j : EdgeKind). Fits D (on_at D p j)) g.kind_is (subst (λ q. Fits D (on_at D q e.kind)) g.from there_fits) in
      let pl = point_is_placed D.object X.resolved.object p running.code.0 running.code.1 in
      let next : k ≡ Next = answers_next D.object (running.code.0).operation pl.operation w.columns vs k s' i ns done in
      let acts = step_acts D X n w G c v (Returned ns) marks (mid, point, variables, m, isc, (p, vs, i, running, k, s', done, mid-is), ride, just, v-is) in
      let same : In p vs ≡ In acts.0 acts.1 = same_Some (In p vs) (In acts.0 acts.1) (sym running.client ∙ acts.2) in
      let is-p : p ≡ acts.0 = cc same in
      let next_fits : Fits D (on_at D p Next) = subst (λ (j : EdgeKind). Fits D (on_at D p j)) next here_fits in
      of_edge D n c w.columns v.columns acts.1 (on_at D acts.0 Next) (Returned ns) (subst (λ q. Fits D (on_at D q Next)) is-p next_fits) acts.3

pub steps_in_guarantees : StepsAreInGuarantees
steps_in_guarantees D X n labels w w' run c what marks step = of_step D X n w (good_run D X n labels (start_world D n) w (C.start_good D X n) run) c w' what marks step
