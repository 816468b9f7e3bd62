-- Each instrumented step is lawful, and so are runs.
use Rattle.std.proofs.Common.{◌≡◌, ℕ, Bool, true, false, ◌==◌, cond, List, [], ◌∷◌, ◌++◌, ℤ, Some, map, length, refl, ap, sym, subst, ◌∙◌, arith}
use Rattle.std.specs.Prelude.{slice_get, slice_set}
use Rattle.std.proofs.lemmas.Option.{same_Some, slice_get_within}
use Rattle.std.proofs.lemmas.Bool.{eqb-false}
use Rattle.lc_lemmas.proofs.Numbers.{equal_other_way, equal_to_itself}
use Rattle.lc_term.specs.Updates.{stored_all, variable}
use Rattle.lc_term.specs.Meaning.{State}
use Rattle.lc_seq.specs.Sequential.{Call}
use Rattle.lc_history.specs.History.{Called, Replied}
use Rattle.lc_history.proofs.Tables.{slice_get-set, slice_get-set_other}
use Rattle.lc_object.specs.Syntax.{Point, Object}
use Rattle.lc_object.specs.declared.instr.EdgeKind.{EdgeKind}
use Rattle.lc_object.specs.declared.instr.EdgeKind.TheVariants.{Next}
use Rattle.lc_machine.specs.World.{Client, Idle, In, World, first_variables}
use Rattle.lc_machine.specs.Step.{Event, Invoked, Moved, Returned, Does, Goes, Answers, after}
use Rattle.lc_seq.specs.Branches.{op_replies}
use Rattle.lc_object.specs.Places.{operation_at, operation_in}
use Rattle.lc_rider.specs.Rider.{Mark, RideAll, invocation_writes, return_writes}
use Rattle.lc_outline.specs.Development.{Development, first_system, riders_at}
use Rattle.lc_sound.specs.Instrumented.{Label, event_of, Instrumented, Runs, with_columns, history}
use Rattle.lc_outline.specs.Resolved.{IsResolved}
use Rattle.lc_sound.specs.Happening.{Happening, Happens, put, events}
use Rattle.lc_sound.specs.Order.{called_last, marked, happenings}
use Rattle.lc_sound.specs.Lawful.{Phase, Free, Waiting, Takes, calls, IsLawful}
use Rattle.lc_sound.proofs.Kept.{call_in}
use Rattle.lc_seq.proofs.Abstract.{same-abstract}
use Rattle.lc_machine.proofs.Bodies.{point_is_placed, goes_to, answers_count, answers_next, entry_is}
use Rattle.lc_sound.proofs.Rows.{takes_return}
use Rattle.lc_outline.proofs.Matched.{match_at, arity_and_replies_few}
use Rattle.lc_sound.proofs.RowChanges.{rows_away, specification_kept, invocation_at, invocation_behind, invoked_row, free_row}
use Rattle.lc_sound.proofs.Book.{Tells, Stands, AllStand, is_free, put_last, put_free, ops, n, first, step, abs, below, matched, rides_all, same_tells, same_cells, riders_resolved}

stand_set : (object : Object) (clients : List Client) (phases after : ℕ → Phase) (c : ℕ) (x y : Client) → slice_get clients c ≡ Some x → AllStand object clients phases → ((d : ℕ) → (d ≡ c → ⊥) → call_in (after d) ≡ call_in (phases d)) → Stands object (Some y) (call_in (after c)) →
    AllStand object (slice_set clients c y) after
stand_set object clients phases after c x y at stand same here d = go (d == c) refl
  where
    go : (b : Bool) → (d == c) ≡ b → Stands object (slice_get (slice_set clients c y) d) (call_in (after d))
    go true e =
        subst (λ k. Stands object (slice_get (slice_set clients c y) k) (call_in (after k))) (sym (equal_other_way c d e))
        (subst (λ z. Stands object z (call_in (after c))) (sym (slice_get-set clients c y (slice_get_within clients c x at))) here)
    go false e =
        subst (λ z. Stands object z (call_in (after d))) (sym (slice_get-set_other clients c d y (eqb-false d c e)))
        (subst (λ z. Stands object (slice_get clients d) z) (sym (same d (eqb-false d c e))) (stand d))

put_other : (phases : ℕ → Phase) (c : ℕ) (q : Phase) (d : ℕ) → (d ≡ c → ⊥) → call_in (put phases c q d) ≡ call_in (phases d)
put_other phases c q d ne = go (d == c) refl
  where
    go : (b : Bool) → (d == c) ≡ b → call_in (cond b q (phases d)) ≡ call_in (phases d)
    go true e = absurd (ne (equal_other_way c d e))
    go false e = refl

put_self : (phases : ℕ → Phase) (c : ℕ) (q : Phase) → put phases c q c ≡ q
put_self phases c q = ap (λ b. cond b q (phases c)) (equal_to_itself c)

module _ (D : Development) (R : IsResolved D) where
  -- what a whole step leads to
  pub record GoesOn (last : ℕ → Call) (phases : ℕ → Phase) (w : World) (c : ℕ) (what : Event) (ms : List Mark) (v : World) : Type 0 where
    pub after : ℕ → Phase
    pub tells : Tells D R after (called_last last c what) v.columns
    pub stand : AllStand D.object v.clients after
    pub lawful : (hs : List Happening) → IsLawful (step D R) (abs D R v.columns) after hs
        → IsLawful (step D R) (abs D R w.columns) phases (map (marked last) ms ++ (map Happens (event_of c what) ++ hs))

  begins : (last : ℕ → Call) (phases : ℕ → Phase) (w v : World) (c o : ℕ) (numbers : List ℤ) (ms : List Mark) → Tells D R phases last w.columns → AllStand D.object w.clients phases
      → Instrumented D w c (Invoked o numbers) ms v → GoesOn last phases w c (Invoked o numbers) ms v
  begins last phases w v c o numbers ms tells stand (mid, (x, is-op, whole, idle, mid-is), none, v-is) =
      let call : Call = record { op = o; numbers = numbers } in
      let free : phases c ≡ Free = is_free (phases c) (subst (λ z. Stands D.object z (call_in (phases c))) idle (stand c)) in
      let here : World = after w w.columns c (In x.entry (first_variables (length w.clients) c x numbers)) in
      let t : State = stored_all w.columns (invocation_writes (first_system D) c o numbers) in
      let m = match_at D R o x is-op in
      let is : GoesOn last phases w c (Invoked o numbers) [] (with_columns here t) = record {
        after = put phases c (Waiting call);
        tells = record {
          matches = matched D R phases w.columns t c (Waiting call) tells.matches (invoked_row (ops D R) (first D R) w.columns c o numbers (whole ∙ m.arguments) (arity_and_replies_few D R o).0)
              (λ d ne. rows_away (first D R) w.columns c d (invocation_writes (first_system D) c o numbers) ne (invocation_at (first D R) c o numbers));
          is_last = put_last phases last c call tells.is_last;
        };
        stand = stand_set D.object w.clients phases (put phases c (Waiting call)) c Idle (In x.entry (first_variables (length w.clients) c x numbers)) idle stand (put_other phases c (Waiting call))
            (call, ap call_in (put_self phases c (Waiting call)), entry_is D.object R.object o x is-op);
        lawful = λ hs law. (
          Waiting call,
          abs D R t,
          subst (λ p. Takes p (Happens (Called c call)) (Waiting call)) (sym free) calls,
          same-abstract (n D R) t w.columns (specification_kept (n D R) (first D R) w.columns (invocation_writes (first_system D) c o numbers) (below D R) (invocation_behind (first D R) c o numbers)),
          law,
        );
      } in
      subst (GoesOn last phases w c (Invoked o numbers) ms) (sym v-is)
      (subst (λ (y : World). GoesOn last phases w c (Invoked o numbers) ms (with_columns y (stored_all y.columns (invocation_writes (first_system D) c o numbers)))) (sym mid-is)
      (subst (λ z. GoesOn last phases w c (Invoked o numbers) z (with_columns here t)) (sym none) is))

  moves : (last : ℕ → Call) (phases : ℕ → Phase) (w v : World) (c point : ℕ) (edge : EdgeKind) (ms : List Mark) → Tells D R phases last w.columns → AllStand D.object w.clients phases
      → Instrumented D w c (Moved point edge) ms v → GoesOn last phases w c (Moved point edge) ms v
  moves last phases w v c point edge ms tells stand (mid, reached, variables, t, (vs, i, running, s', next, new, done, mid-is), isc, ride, v-is) =
      let pt : Point = running.code.0 in
      let at = running.code.1 in
      let gone : Does D.object w.columns vs pt.instruction edge s' (Goes next new) = subst (λ j. Does D.object w.columns vs j edge s' (Goes next new)) (sym running.code.2) done in
      let standing : Stands D.object (Some (In point vs)) (call_in (phases c)) = subst (λ z. Stands D.object z (call_in (phases c))) running.client (stand c) in
      let call : Call = standing.0 in
      let named : (k : Call) → call_in (phases c) ≡ Some k → k.op ≡ operation_at D.object point = λ k e. (let same : call ≡ k = cc (e, standing.1) in ap (λ (x : Call). x.op) (sym same) ∙ sym standing.2) in
      let cols : mid.columns ≡ s' = ap (λ (y : World). y.columns) mid-is in
      let ride' = subst (λ a. RideAll D.specification.operations (first_system D) c (operation_at D.object point) (variable variables) a (riders_at D point edge) ms t) cols ride in
      let leads = rides_all D R last phases c (operation_at D.object point) (variable variables) s' (riders_at D point edge) ms t
      (riders_resolved D R w.columns s' vs point pt edge (Goes next new) at gone) (same_tells D R w.columns s' vs point pt edge (Goes next new) at gone phases last tells) named ride' in
      let pl = point_is_placed D.object R.object point pt at in
      let body : operation_at D.object next ≡ call.op = goes_to D.object pt.operation pl.operation w.columns vs edge s' pt.instruction next new pl.instruction gone ∙ (sym (ap operation_in at) ∙ standing.2) in
      let here : World = after w s' c (In next new) in
      let is : GoesOn last phases w c (Moved point edge) ms (with_columns here t) = record {
        after = leads.after;
        tells = leads.tells;
        stand = stand_set D.object w.clients phases leads.after c (In point vs) (In next new) running.client stand (λ d ne. leads.same d) (call, leads.same c ∙ standing.1, body);
        lawful = λ hs law. subst (λ a. IsLawful (step D R) a phases (map (marked last) ms ++ hs)) (same_cells D R w.columns s' vs point pt edge (Goes next new) at gone) (leads.lawful hs law);
      } in
      subst (GoesOn last phases w c (Moved point edge) ms) (sym v-is) (subst (λ (y : World). GoesOn last phases w c (Moved point edge) ms (with_columns y t)) (sym mid-is) is)

  ends : (last : ℕ → Call) (phases : ℕ → Phase) (w v : World) (c : ℕ) (numbers : List ℤ) (ms : List Mark) → Tells D R phases last w.columns → AllStand D.object w.clients phases
      → Instrumented D w c (Returned numbers) ms v → GoesOn last phases w c (Returned numbers) ms v
  ends last phases w v c numbers ms tells stand (mid, point, variables, t, isc, (p, vs, i, running, edge, s', done, mid-is), ride, just, v-is) =
      let pt : Point = running.code.0 in
      let there : In point variables ≡ In p vs = same_Some (In point variables) (In p vs) (sym isc ∙ running.client) in
      let is-p : point ≡ p = cc there in
      let at : slice_get D.object.points point ≡ Some pt = ap (slice_get D.object.points) is-p ∙ running.code.1 in
      let given : Does D.object w.columns vs pt.instruction edge s' (Answers numbers) = subst (λ j. Does D.object w.columns vs j edge s' (Answers numbers)) (sym running.code.2) done in
      let gone : Does D.object w.columns vs pt.instruction Next s' (Answers numbers) =
      subst (λ k. Does D.object w.columns vs pt.instruction k s' (Answers numbers)) (answers_next D.object pt.operation (point_is_placed D.object R.object point pt at).operation w.columns vs edge s' pt.instruction numbers given) given in
      let standing : Stands D.object (Some (In point variables)) (call_in (phases c)) = subst (λ z. Stands D.object z (call_in (phases c))) isc (stand c) in
      let call : Call = standing.0 in
      let named : (k : Call) → call_in (phases c) ≡ Some k → k.op ≡ operation_at D.object point = λ k e. (let same : call ≡ k = cc (e, standing.1) in ap (λ (x : Call). x.op) (sym same) ∙ sym standing.2) in
      let cols : mid.columns ≡ s' = ap (λ (y : World). y.columns) mid-is in
      let ride' = subst (λ a. RideAll D.specification.operations (first_system D) c (operation_at D.object point) (variable variables) a (riders_at D point Next) ms t) cols ride in
      let leads = rides_all D R last phases c (operation_at D.object point) (variable variables) s' (riders_at D point Next) ms t
      (riders_resolved D R w.columns s' vs point pt Next (Answers numbers) at gone) (same_tells D R w.columns s' vs point pt Next (Answers numbers) at gone phases last tells) named ride' in
      let later : ℕ → Phase = leads.after in
      let pl = point_is_placed D.object R.object point pt at in
      let op-is : pt.operation ≡ call.op = sym (ap operation_in at) ∙ standing.2 in
      let whole : length numbers ≡ op_replies (ops D R) call.op =
      answers_count D.object pt.operation pl.operation w.columns vs Next s' pt.instruction numbers pl.instruction gone ∙ ((match_at D R pt.operation pl.operation pl.is).replies ∙ ap (op_replies (ops D R)) op-is) in
      let takes : Takes (later c) (Happens (Replied c numbers)) Free = takes_return (ops D R) (first D R) t c (later c) numbers call (leads.tells.matches c) just (leads.same c ∙ standing.1) whole in
      let end : State = stored_all t (return_writes (first_system D) c) in
      let here : World = after w s' c Idle in
      let is : GoesOn last phases w c (Returned numbers) ms (with_columns here end) = record {
        after = put later c Free;
        tells = record {
          matches = matched D R later t end c Free leads.tells.matches (free_row (ops D R) (first D R) t c) (λ d ne. rows_away (first D R) t c d (return_writes (first_system D) c) ne (refl, tt));
          is_last = put_free later last c leads.tells.is_last;
        };
        stand = stand_set D.object w.clients phases (put later c Free) c (In point variables) Idle isc stand (λ d ne. put_other later c Free d ne ∙ leads.same d) (ap call_in (put_self later c Free));
        lawful = λ hs law. subst (λ a. IsLawful (step D R) a phases (map (marked last) ms ++ (Happens (Replied c numbers) ∷ hs))) (same_cells D R w.columns s' vs point pt Next (Answers numbers) at gone)
            (leads.lawful (Happens (Replied c numbers) ∷ hs)
            (Free, abs D R end, takes, same-abstract (n D R) end t (specification_kept (n D R) (first D R) t (return_writes (first_system D) c) (below D R) (omega arith, tt)), law));
      } in
      subst (GoesOn last phases w c (Returned numbers) ms) (sym v-is) (subst (λ (y : World). GoesOn last phases w c (Returned numbers) ms (with_columns y end)) (sym mid-is) is)

  one : (last : ℕ → Call) (phases : ℕ → Phase) (w v : World) (c : ℕ) (what : Event) (ms : List Mark) → Tells D R phases last w.columns → AllStand D.object w.clients phases
      → Instrumented D w c what ms v → GoesOn last phases w c what ms v
  one last phases w v c (Invoked o numbers) ms tells stand step = begins last phases w v c o numbers ms tells stand step
  one last phases w v c (Moved point edge) ms tells stand step = moves last phases w v c point edge ms tells stand step
  one last phases w v c (Returned numbers) ms tells stand step = ends last phases w v c numbers ms tells stand step

  pub lawful : (ls : List Label) (last : ℕ → Call) (phases : ℕ → Phase) (w v : World) → Tells D R phases last w.columns → AllStand D.object w.clients phases
      → Runs D w ls v → IsLawful (step D R) (abs D R w.columns) phases (happenings last ls)
  lawful [] last phases w v tells stand run = tt
  lawful (l ∷ ls) last phases w v tells stand (mid, step, rest) =
      let g = one last phases w mid l.client l.what l.marks tells stand step in
      g.lawful (happenings (called_last last l.client l.what) ls) (lawful ls (called_last last l.client l.what) g.after mid v g.tells g.stand rest)

-- the events among what happens are the history
events_after : (last : ℕ → Call) (ms : List Mark) (hs : List Happening) → events (map (marked last) ms ++ hs) ≡ events hs
events_after last [] hs = refl
events_after last (m ∷ ms) hs = events_after last ms hs

events_put : (c : ℕ) (what : Event) (hs : List Happening) → events (map Happens (event_of c what) ++ hs) ≡ event_of c what ++ events hs
events_put c (Invoked o numbers) hs = refl
events_put c (Moved point edge) hs = refl
events_put c (Returned numbers) hs = refl

pub events_are : (ls : List Label) (last : ℕ → Call) → events (happenings last ls) ≡ history ls
events_are [] last = refl
events_are (l ∷ ls) last =
    let later : ℕ → Call = called_last last l.client l.what in
    events_after last l.marks (map Happens (event_of l.client l.what) ++ happenings later ls)
    ∙ (events_put l.client l.what (happenings later ls) ∙ ap (λ h. event_of l.client l.what ++ h) (events_are ls later))
