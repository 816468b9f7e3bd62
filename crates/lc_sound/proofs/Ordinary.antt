-- Each world that an instrumented run reaches is ordinary.
use Rattle.std.proofs.Common.{◌≡◌, ◌==◌, ℕ, ◌+◌, ◌⊎◌, Bool, true, false, true≢false, List, [], ◌∷◌, ℤ, pos, Some, length, refl, sym, ap, ◌∙◌, subst, inl, inr, arith}
use Rattle.std.specs.Ordering.{int_eq}
use Rattle.std.specs.Prelude.{slice_get, slice_set}
use Rattle.std.proofs.lemmas.Bool.{eqb-false}
use Rattle.std.proofs.lemmas.Bool.Decides.{Decides-int_eq}
use Rattle.std.proofs.lemmas.Int.{ints}
use Rattle.std.proofs.lemmas.Option.{same_Some, slice_get_within}
use Rattle.lc_lemmas.proofs.Numbers.{equal_other_way}
use Rattle.lc_term.specs.Meaning.{State}
use Rattle.lc_term.specs.SystemColumns.{pend}
use Rattle.lc_term.specs.Updates.{Write, stored_all, variable}
use Rattle.lc_term.proofs.Stores.{writes_away}
use Rattle.lc_history.proofs.Tables.{slice_get-set, slice_get-set_other}
use Rattle.lc_object.specs.Edges.{Edge}
use Rattle.lc_object.specs.Places.{operation_at}
use Rattle.lc_object.specs.Syntax.{Point}
use Rattle.lc_object.specs.declared.instr.EdgeKind.{EdgeKind}
use Rattle.lc_object.specs.declared.instr.EdgeKind.TheVariants.{Next}
use Rattle.lc_machine.specs.Step.{Event, Invoked, Moved, Returned, IsClient, Does, Goes, Answers, Outcome, numbers}
use Rattle.lc_machine.specs.World.{Client, Idle, In, World, first_variables}
use Rattle.lc_machine.proofs.Bodies.{point_is_placed, answers_next, does_outside}
use Rattle.lc_machine.proofs.EdgeLaw.{by_edge}
use Rattle.lc_rider.specs.PathLaws.{OnlyClients}
use Rattle.lc_rider.specs.Rider.{Mark, RideAll, invocation_writes, return_writes}
use Rattle.lc_outline.specs.Development.{Development, first_system, riders_at}
use Rattle.lc_outline.specs.Resolved.{IsResolved}
use Rattle.lc_sound.specs.EdgePaths.{IsOrdinary, RunsAreOrdinary}
use Rattle.lc_sound.specs.Instrumented.{Label, Instrumented, Runs, start_world}
use Rattle.lc_sound.proofs.Book.{riders_resolved}
use Rattle.lc_sound.proofs.Calling.{idle_in}
use Rattle.lc_sound.proofs.Frames.{Kept, Kept_rides}
use Rattle.lc_sound.proofs.Gone.{edge_here}
use Rattle.lc_sound.proofs.Lifting.{edge_targets, assigned_other}
use Rattle.lc_sound.proofs.Ordered.{system_start}
use Rattle.lc_sound.proofs.Rideable.{at_other}
use Rattle.lc_sound.proofs.RowChanges.{AreAt, invocation_at}
use Rattle.lc_sound.proofs.Simulated.{goes_where_reached}

-- what riders keep
kept_calls : (first : ℕ) (s m : State) → Kept first s m → OnlyClients first s → OnlyClients first m
kept_calls first s m k only i = by (k.pend_is i) (only i)
  where
    by : (m first i ≡ s first i) ⊎ ((s first i ≡ pos 1) × (m first i ≡ pos 2)) → (s first i ≡ pos 0) ⊎ ((c : ℕ) × (i ≡ pos c)) → (m first i ≡ pos 0) ⊎ ((c : ℕ) × (i ≡ pos c))
    by (inl e) (inl z) = inl (e ∙ z)
    by (inr e) (inl z) = absurd (omega (arith, ints, e.0, z))
    by e (inr c) = inr c

-- what is written at one client
written_calls : (first c : ℕ) (m : State) (ws : List Write) → AreAt c ws → OnlyClients first m → OnlyClients first (stored_all m ws)
written_calls first c m ws at only i = by (int_eq (pos c) i) refl
  where
    by : (b : Bool) → int_eq (pos c) i ≡ b → (stored_all m ws (pend first) i ≡ pos 0) ⊎ ((d : ℕ) × (i ≡ pos d))
    by true e = inr (c, sym ((Decides-int_eq (pos c) i).0 e))
    by false e =
        let away = writes_away m ws (pend first) i (at_other c i ws (λ same. true≢false (sym ((Decides-int_eq (pos c) i).1 same) ∙ e)) at) in
        subst (λ z. (z ≡ pos 0) ⊎ ((d : ℕ) × (i ≡ pos d))) (sym away) (only i)

module _ (D : Development) (R : IsResolved D) where
  abbrev first : ℕ
  first = first_system D

  -- if one client is set
  set_own : (w v : World) (c : ℕ) (old x : Client) → IsOrdinary D w → IsClient w c old → v.clients ≡ slice_set w.clients c x →
      ((p : ℕ) (us : List ℤ) → x ≡ In p us → variable us 1 ≡ pos c) → (d p : ℕ) (us : List ℤ) → IsClient v d (In p us) → variable us 1 ≡ pos d
  set_own w v c old x O at is own d p us there = by (d == c) refl
    where
      here : slice_get (slice_set w.clients c x) d ≡ Some (In p us)
      here = ap (λ zs. slice_get zs d) (sym is) ∙ there

      by : (b : Bool) → (d == c) ≡ b → variable us 1 ≡ pos d
      by true e =
          let same : d ≡ c = equal_other_way c d e in
          let set = slice_get-set w.clients c x (slice_get_within w.clients c old at) in
          own p us (same_Some x (In p us) (sym set ∙ (ap (slice_get (slice_set w.clients c x)) (sym same) ∙ here))) ∙ ap pos (sym same)
      by false e = O.own d p us (sym (slice_get-set_other w.clients c d x (eqb-false d c e)) ∙ here)

  module _ (s s' : State) (vs : List ℤ) (p : ℕ) (pt : Point) (k : EdgeKind) (at : slice_get D.object.points p ≡ Some pt) where
    -- an instruction leaves who is in a call, and the client's number
    done_calls : (out : Outcome) → Does D.object s vs pt.instruction k s' out → OnlyClients first s → OnlyClients first s'
    done_calls out done only i =
        let same = does_outside D.object R.object s vs k s' pt.instruction out (pend first) (inr (let a = R.abstracts in omega arith)) done in
        subst (λ z. (z ≡ pos 0) ⊎ ((d : ℕ) × (i ≡ pos d))) (λ j. sym same j i) (only i)

    done_own : (q : ℕ) (new : List ℤ) → Does D.object s vs pt.instruction k s' (Goes q new) → variable new 1 ≡ variable vs 1
    done_own q new done =
        let g = by_edge D.object R.object p pt at s s' vs k (Goes q new) done in
        let e : Edge = g.0 in
        let pl = point_is_placed D.object R.object p pt at in
        let targets = edge_targets D.object p pt.operation pl.operation pt.instruction e pl.instruction (edge_here D.object e p pt g.1.0 g.1.1 at) in
        ap (λ us. variable us 1) (goes_where_reached s vs e q new e.next g.2.2).1 ∙ assigned_other vs e.targets (numbers s vs e.values) (2 + length (pl.operation).arguments) 1 targets (omega arith)

  stepped : (w v : World) (c : ℕ) (what : Event) (ms : List Mark) → IsOrdinary D w → Instrumented D w c what ms v → IsOrdinary D v
  stepped w v c (Invoked o ns) ms O (mid, (x, is, whole, idle, mid-is), none, v-is) =
      let cols : v.columns ≡ stored_all w.columns (invocation_writes first c o ns) = ap (λ (y : World). y.columns) v-is ∙ ap (λ (y : World). stored_all y.columns (invocation_writes first c o ns)) mid-is in
      let start : List ℤ = first_variables (length w.clients) c x ns in
      record {
        own = set_own w v c Idle (In x.entry start) O idle (ap (λ (y : World). y.clients) v-is ∙ ap (λ (y : World). y.clients) mid-is) (λ p us e. let same : start ≡ us = cc e in ap (λ zs. variable zs 1) (sym same));
        only = subst (OnlyClients first) (sym cols) (written_calls first c w.columns (invocation_writes first c o ns) (invocation_at first c o ns) O.only);
      }
  stepped w v c (Moved p k) ms O (mid, there, variables, m, (vs, i, running, s', next, new, done, mid-is), isc, ride, v-is) =
      let pt : Point = running.code.0 in
      let gone = subst (λ j. Does D.object w.columns vs j k s' (Goes next new)) (sym running.code.2) done in
      let ride' = subst (λ a. RideAll D.specification.operations first c (operation_at D.object p) (variable variables) a (riders_at D p k) ms m) (ap (λ (y : World). y.columns) mid-is) ride in
      let kept = Kept_rides D R c (operation_at D.object p) (variable variables) (riders_at D p k) s' m ms (riders_resolved D R w.columns s' vs p pt k (Goes next new) running.code.1 gone) ride' in
      record {
        own = set_own w v c (In p vs) (In next new) O running.client (ap (λ (y : World). y.clients) v-is ∙ ap (λ (y : World). y.clients) mid-is)
            (λ q us e. let same : new ≡ us = cc e in ap (λ zs. variable zs 1) (sym same) ∙ (done_own w.columns s' vs p pt k running.code.1 next new gone ∙ O.own c p vs running.client));
        only = subst (OnlyClients first) (sym (ap (λ (y : World). y.columns) v-is)) (kept_calls first s' m kept (done_calls w.columns s' vs p pt k running.code.1 (Goes next new) gone O.only));
      }
  stepped w v c (Returned ns) ms O (mid, point, variables, m, isc, (p, vs, i, running, k, s', done, mid-is), ride, just, v-is) =
      let pt : Point = running.code.0 in
      let client : In point variables ≡ In p vs = same_Some (In point variables) (In p vs) (sym isc ∙ running.client) in
      let is-p : p ≡ point = sym (cc client) in
      let gone = subst (λ j. Does D.object w.columns vs j k s' (Answers ns)) (sym running.code.2) done in
      let next : k ≡ Next = answers_next D.object pt.operation (point_is_placed D.object R.object p pt running.code.1).operation w.columns vs k s' pt.instruction ns gone in
      let ride' = subst (λ a. RideAll D.specification.operations first c (operation_at D.object point) (variable variables) a (riders_at D point Next) ms m) (ap (λ (y : World). y.columns) mid-is) ride in
      let resolved = subst (λ X. X) (λ j. Rattle.lc_term.specs.Lists.Every (Rattle.lc_outline.specs.Resolved.IsRiderResolved D (operation_at D.object (is-p j))) (riders_at D (is-p j) (next j))) (riders_resolved D R w.columns s' vs p pt k (Answers ns) running.code.1 gone) in
      let kept = Kept_rides D R c (operation_at D.object point) (variable variables) (riders_at D point Next) s' m ms resolved ride' in
      record {
        own = set_own w v c (In p vs) Idle O running.client (ap (λ (y : World). y.clients) v-is ∙ ap (λ (y : World). y.clients) mid-is) (λ q us e. absurd cc);
        only = subst (OnlyClients first) (sym (ap (λ (y : World). y.columns) v-is))
            (written_calls first c m (return_writes first c) (refl, tt) (kept_calls first s' m kept (done_calls w.columns s' vs p pt k running.code.1 (Answers ns) gone O.only)));
      }

  all_steps : (labels : List Label) (w v : World) → IsOrdinary D w → Runs D w labels v → IsOrdinary D v
  all_steps [] w v O run = subst (IsOrdinary D) (sym run) O
  all_steps (l ∷ ls) w v O (mid, step, rest) = all_steps ls mid v (stepped w mid l.client l.what l.marks O step) rest

pub runs_are_ordinary : RunsAreOrdinary
runs_are_ordinary D R n labels w run = all_steps D R labels (start_world D n) w start run
  where
    start : IsOrdinary D (start_world D n)
    start = record {
      own = λ c p vs at. let none : In p vs ≡ Idle = idle_in n c (In p vs) at in absurd cc;
      only = λ i. inl (system_start D (first_system D) i (omega arith));
    }
