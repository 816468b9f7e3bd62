-- The instrumented steps that go by an edge are those of its paths.
use Rattle.std.proofs.Common.{◌≡◌, ◌↔◌, ℕ, ◌+◌, ◌≤◌, ◌⊎◌, true, List, [], ◌∷◌, ℤ, pos, Option, Some, None, map, length, take, refl, sym, ap, ◌∙◌, subst, inl, inr, arith}
use Rattle.std.specs.Prelude.{slice_get}
use Rattle.std.specs.List.{list_all}
use Rattle.std.proofs.lemmas.Option.{same_Some, slice_get_within}
use Rattle.lc_base.specs.Limits.{reply_limit}
use Rattle.lc_lemmas.proofs.Booleans.{left_true, right_true}
use Rattle.lc_term.specs.Lists.{Every, IsIn}
use Rattle.lc_term.specs.Meaning.{State, Env, outside, Holds, AllHold, EachHolds}
use Rattle.lc_term.specs.Said.{told}
use Rattle.lc_term.specs.State.{with_cell}
use Rattle.lc_term.specs.Syntax.{Term, Variable, Number, Formula, formulas}
use Rattle.lc_term.specs.SystemColumns.{pend, rep_columns, noted, note_columns}
use Rattle.lc_term.specs.Updates.{Update, stored_all, values_of, variable, assigned, row}
use Rattle.lc_term.proofs.Stores.{Every-map}
use Rattle.lc_term.proofs.Symbolic.{columns_by, values_by, columns_by-put, each_told, each_told_back}
use Rattle.lc_seq.specs.Branches.{op_branches}
use Rattle.lc_seq.specs.Sequential.{given_in}
use Rattle.lc_seq.specs.Specification.{Branch, Operation, update_is_resolved}
use Rattle.lc_seq.proofs.Choosing.{resolved_behind}
use Rattle.lc_history.proofs.Tables.{slice_get-set}
use Rattle.lc_object.specs.Edges.{Edge, edges}
use Rattle.lc_object.specs.Places.{operation_at}
use Rattle.lc_object.specs.Syntax.{Instr, Point}
use Rattle.lc_object.specs.declared.instr.EdgeKind.{EdgeKind}
use Rattle.lc_object.specs.declared.instr.EdgeKind.TheVariants.{Next}
use Rattle.lc_machine.specs.EdgeSteps.{updated, reached}
use Rattle.lc_machine.specs.Step.{Event, Invoked, Moved, Returned, IsClient, IsRunning, Does, Steps, Goes, Answers, after, numbers}
use Rattle.lc_machine.specs.World.{Idle, In, World}
use Rattle.lc_machine.proofs.Bodies.{point_is_placed, answers_next, does_outside}
use Rattle.lc_machine.proofs.EdgeLaw.{from_edge}
use Rattle.lc_rider.specs.Paths.{Path, path_start, edge_variables}
use Rattle.lc_rider.specs.PathLaws.{AreMet, OnlyClients, LeavesCalls, DeedLeavesCalls}
use Rattle.lc_rider.specs.Rider.{Mark, Deed, Assign, Marks, Rider, RideAll, IsJustified, return_writes}
use Rattle.lc_rider.proofs.PathLaw.{paths_exclude, go_along}
use Rattle.lc_rider.proofs.PathTaken.{paths_are_taken}
use Rattle.lc_outline.specs.Development.{Development, first_system, on_at, riders_at}
use Rattle.lc_outline.specs.Resolved.{IsResolved, IsRiderResolved, IsDeedResolved}
use Rattle.lc_outline.proofs.Matched.{op_branches_ground, all_resolved, match_at, arity_and_replies_few}
use Rattle.lc_cond.specs.Conditions.{hold_terms, justified, at_end, reply_goals}
use Rattle.lc_sound.specs.EdgePaths.{edge_paths, IsGone, IsOrdinary, EdgePathsExclude, StepsArePaths}
use Rattle.lc_sound.specs.Instrumented.{Instrumented, with_columns}
use Rattle.lc_sound.proofs.Going.{justified_is}
use Rattle.lc_sound.proofs.Gone.{edge_here}
use Rattle.lc_sound.proofs.Leaving.{IsReturn, return_edge, code_values}
use Rattle.lc_sound.proofs.Lifting.{AreBehind, edge_columns_are, edge_variables_are, edge_targets, assigned_other}
use Rattle.lc_sound.proofs.Once.{does_once}
use Rattle.lc_sound.proofs.Simulated.{goes_where_reached, answers_when_reached, riders-are}

pub edge_paths_exclude : EdgePathsExclude
edge_paths_exclude D e s vs =
    paths_exclude D.specification.operations (first_system D) 0 (operation_at D.object e.point) (edge_variables (length vs) e) (riders_at D e.point e.kind) (path_start e) s (variable vs)

-- ---- a justified reply meets its goal

terms_held : (m : State) (e : Env) (cs : List ℕ) (ts : List Term) → take (length (values_of m e ts)) (row m cs (e 1)) ≡ values_of m e ts → AllHold m e outside (formulas (hold_terms cs ts))
terms_held m e [] ts h = tt
terms_held m e (c ∷ cs) [] h = tt
terms_held m e (c ∷ cs) (t ∷ ts) h = (cc h, terms_held m e cs ts (cc h))

is_justified : (first : ℕ) (m : State) (e : Env) (c : ℕ) (ts : List Term) → e 1 ≡ pos c → IsJustified first m c (values_of m e ts) → Holds m e outside (justified first ts)
is_justified first m e c ts one j =
    by (subst (λ i. ((m (pend first) i ≡ pos 2) × (take (length (values_of m e ts)) (row m (rep_columns first) i) ≡ values_of m e ts))
    ⊎ ((m (pend first) i ≡ pos 1) × (m (noted first) i ≡ pos 1) × (take (length (values_of m e ts)) (row m (note_columns first) i) ≡ values_of m e ts))) (sym one) j)
  where
    by : ((m (pend first) (e 1) ≡ pos 2) × (take (length (values_of m e ts)) (row m (rep_columns first) (e 1)) ≡ values_of m e ts))
        ⊎ ((m (pend first) (e 1) ≡ pos 1) × (m (noted first) (e 1) ≡ pos 1) × (take (length (values_of m e ts)) (row m (note_columns first) (e 1)) ≡ values_of m e ts)) → Holds m e outside (justified first ts)
    by (inl a) = λ none. none.0 (a.0, terms_held m e (rep_columns first) ts a.1)
    by (inr b) = λ none. none.1.0 (b.0, (b.1, terms_held m e (note_columns first) ts b.2))

-- ---- branches and riders leave who is in a call

updates_leave : (n vars first : ℕ) (us : List Update) → n ≤ first → list_all (update_is_resolved n vars) us ≡ true → LeavesCalls first us
updates_leave n vars first [] le h = tt
updates_leave n vars first (u ∷ us) le h =
    let here = left_true (update_is_resolved n vars u) (list_all (update_is_resolved n vars) us) h in
    let lt = Rattle.std.proofs.Common.ltb-true u.column n (left_true (Rattle.std.proofs.Common.nat_lt u.column n) _ here) in
    ((λ e. omega arith), updates_leave n vars first us le (right_true (update_is_resolved n vars u) _ h))

branches_leave : (n vars first : ℕ) (bs : List Branch) → n ≤ first → list_all (resolved_behind n vars) bs ≡ true → Every (λ (b : Branch). LeavesCalls first b.updates) bs
branches_leave n vars first [] le h = tt
branches_leave n vars first (b ∷ bs) le h =
    let here = left_true (resolved_behind n vars b) (list_all (resolved_behind n vars) bs) h in
    (updates_leave n (vars + length (given_in b.label)) first b.updates le (left_true _ _ (right_true _ _ here)), branches_leave n vars first bs le (right_true (resolved_behind n vars b) _ h))

deed_leaves : (D : Development) (o : ℕ) (d : Deed) → IsDeedResolved D o d → DeedLeavesCalls (first_system D) d
deed_leaves D o (Assign u) h = ((λ e. let lt = h.1 in omega arith), tt)
deed_leaves D o (Marks k by) h = tt

-- ---- an edge that is gone

module _ (D : Development) (R : IsResolved D) (w : World) (c : ℕ) (vs : List ℤ) (e : Edge) (among : IsIn e (edges D.object)) (at : IsClient w c (In e.point vs))
    (facts : EachHolds w.columns (variable vs) e.facts) (O : IsOrdinary D w) (pt : Point) (pt-is : slice_get D.object.points e.point ≡ Some pt) where
  abbrev s : State
  s = w.columns

  abbrev env : Env
  env = variable vs

  abbrev first : ℕ
  first = first_system D

  abbrev ops : List Operation
  ops = D.specification.operations

  abbrev o : ℕ
  o = operation_at D.object e.point

  abbrev τ : List Term
  τ = edge_variables (length vs) e

  abbrev new : List ℤ
  new = assigned vs e.targets (numbers s vs e.values)

  abbrev cols : State
  cols = updated s vs s e.updates

  abbrev riders : List Rider
  riders = riders_at D e.point e.kind

  abbrev Ride : List Mark → State → Type 0
  Ride marks m = RideAll ops first c o (variable new) cols riders marks m

  -- what the instruction does
  done : Does D.object s vs pt.instruction e.kind cols (reached s vs e e.next)
  done = from_edge D.object R.object e.point pt pt-is s cols vs e.kind (reached s vs e e.next) (e, (among, refl, refl), (facts, refl, refl))

  targets : AreBehind (2 + length (point_is_placed D.object R.object e.point pt pt-is).operation.arguments) e.targets
  targets =
      let pl = point_is_placed D.object R.object e.point pt pt-is in
      edge_targets D.object e.point pt.operation pl.operation pt.instruction e pl.instruction (edge_here D.object e e.point pt among refl pt-is)

  new-own : variable new 1 ≡ pos c
  new-own = assigned_other vs e.targets (numbers s vs e.values) (2 + length (point_is_placed D.object R.object e.point pt pt-is).operation.arguments) 1 targets (omega arith) ∙ O.own c e.point vs at

  vars-are : values_by s env τ ≡ new
  vars-are = edge_variables_are s vs (length vs) e refl

  cols-are : columns_by s env (path_start e).columns ≡ cols
  cols-are = edge_columns_are s vs e

  mine : variable (values_by s env τ) 1 ≡ pos c
  mine = (λ i. variable (vars-are i) 1) ∙ new-own

  -- ---- riders and paths

  -- a path that the riders go along
  record Rode (m : State) : Type 0 where
    path : Path
    listed : IsIn path (edge_paths D (length vs) e)
    known : EachHolds s env path.facts
    marks : AreMet s env path.duties
    columns : columns_by s env path.columns ≡ m

  rode : (marks : List Mark) (m : State) → Ride marks m → Rode m
  rode marks m ride =
      let there : RideAll ops first c o (variable (values_by s env τ)) (columns_by s env (path_start e).columns) riders marks m = subst (λ X. X) (λ i. RideAll ops first c o (variable (sym vars-are i)) (sym cols-are i) riders marks m) ride in
      let t = go_along ops first 0 c o τ riders (path_start e) s env marks m (op_branches_ground D R) mine tt tt there in
      record { path = t.0; listed = t.1; known = t.2; marks = t.3; columns = t.4 }

  kept : OnlyClients first (columns_by s env (path_start e).columns)
  kept i =
      let same : columns_by s env (path_start e).columns (pend first) i ≡ s (pend first) i =
      (λ j. cols-are j (pend first) i) ∙ (λ j. does_outside D.object R.object s vs e.kind cols pt.instruction (reached s vs e e.next) (pend first) (inr (let a = R.abstracts in omega arith)) done j i) in
      subst (λ z. (z ≡ pos 0) ⊎ ((d : ℕ) × (i ≡ pos d))) (sym same) (O.only i)

  own-stores : Every (λ (r : Rider). DeedLeavesCalls first r.deed) riders
  own-stores =
      Every-map (IsRiderResolved D o) (λ (r : Rider). DeedLeavesCalls first r.deed) riders (λ r h. deed_leaves D o r.deed h.1)
      (riders-are D o e (on_at D e.point e.kind) (R.ons e among))

  ridden : (p : Path) → IsIn p (edge_paths D (length vs) e) → EachHolds s env p.facts → AreMet s env p.duties → (marks : List Mark) × Ride marks (columns_by s env p.columns)
  ridden p is hold met =
      let t = paths_are_taken ops first 0 c o τ riders (path_start e) s env p (op_branches_ground D R)
      (λ a. branches_leave (length D.specification.columns) (2 + Rattle.lc_seq.specs.Branches.arity ops a) first (op_branches ops a) (omega arith) (all_resolved D R a))
      own-stores mine kept is hold met in
      (t.0, subst (λ X. X) (λ i. RideAll ops first c o (variable (vars-are i)) (cols-are i) riders t.0 (columns_by s env p.columns)) t.1)

  -- ---- the bare step

  -- it goes to a point
  record WentTo (p : ℕ) (k : EdgeKind) (mid : World) : Type 0 where
    next : ℕ
    point : p ≡ e.point
    kind : k ≡ e.kind
    leads : e.next ≡ Some next
    world : mid ≡ after w cols c (In next new)

  went_to : (p : ℕ) (k : EdgeKind) (mid : World) → Steps D.object w c (Moved p k) mid → WentTo p k mid
  went_to p k mid (us, i, running, s', next, there, does, mid-is) =
      let client : In p us ≡ In e.point vs = same_Some (In p us) (In e.point vs) (sym running.client ∙ at) in
      let point : p ≡ e.point = cc client in
      let same : us ≡ vs = cc client in
      let pts : running.code.0 ≡ pt = same_Some running.code.0 pt (sym running.code.1 ∙ (ap (slice_get D.object.points) point ∙ pt-is)) in
      let i-is : i ≡ pt.instruction = sym running.code.2 ∙ ap (λ (x : Point). x.instruction) pts in
      let did = does_once D.object s vs pt.instruction k e.kind s' cols (Goes next there) (reached s vs e e.next) (subst (λ X. X) (λ j. Does D.object s (same j) (i-is j) k s' (Goes next there)) does) done in
      let by = goes_where_reached s vs e next there e.next did.2 in
      record {
        next = next;
        point = point;
        kind = did.0;
        leads = by.0;
        world = mid-is ∙ (λ j. after w (did.1 j) c (In next (by.1 j)));
      }

  -- it returns
  record Answered (numbers-are : List ℤ) (mid : World) : Type 0 where
    kind : e.kind ≡ Next
    leads : e.next ≡ None
    numbers-is : numbers-are ≡ numbers s vs e.replies
    world : mid ≡ after w cols c Idle

  answered : (ns : List ℤ) (mid : World) → Steps D.object w c (Returned ns) mid → Answered ns mid
  answered ns mid (p, us, i, running, k, s', does, mid-is) =
      let client : In p us ≡ In e.point vs = same_Some (In p us) (In e.point vs) (sym running.client ∙ at) in
      let point : p ≡ e.point = cc client in
      let same : us ≡ vs = cc client in
      let pts : running.code.0 ≡ pt = same_Some running.code.0 pt (sym running.code.1 ∙ (ap (slice_get D.object.points) point ∙ pt-is)) in
      let i-is : i ≡ pt.instruction = sym running.code.2 ∙ ap (λ (x : Point). x.instruction) pts in
      let does' : Does D.object s vs pt.instruction k s' (Answers ns) = subst (λ X. X) (λ j. Does D.object s (same j) (i-is j) k s' (Answers ns)) does in
      let did = does_once D.object s vs pt.instruction k e.kind s' cols (Answers ns) (reached s vs e e.next) does' done in
      let by = answers_when_reached s vs e ns e.next did.2 in
      let op = (point_is_placed D.object R.object e.point pt pt-is).operation in
      record {
        kind = sym did.0 ∙ answers_next D.object pt.operation op s vs k s' pt.instruction ns does';
        leads = by.0;
        numbers-is = by.1;
        world = mid-is ∙ (λ j. after w (did.1 j) c Idle);
      }

  -- ---- a step that goes on

  abbrev Paths : State → Type 0
  Paths m = (p : Path) × IsIn p (edge_paths D (length vs) e) × IsGone D s vs e p m

  no_replies : (q : ℕ) (p : Path) → e.next ≡ Some q → EachHolds s env (map (told p.columns τ) (reply_goals first e))
  no_replies q p is = subst (λ (x : Option ℕ). EachHolds s env (map (told p.columns τ) (elim x as (λ y. List Formula) [ Some l ↦ [] | None ↦ justified first e.replies ∷ [] ]))) (sym is) tt

  no_store : (q : ℕ) (p : Path) → e.next ≡ Some q → columns_by s env (at_end first e.next p.columns) ≡ columns_by s env p.columns
  no_store q p is = ap (λ x. columns_by s env (at_end first x p.columns)) is

  moved : (p : ℕ) (k : EdgeKind) (mid : World) (m : State) → Steps D.object w c (Moved p k) mid → ((marks : List Mark) × Instrumented D w c (Moved p k) marks (with_columns mid m)) ↔ Paths m
  moved p k mid m step = (to, from)
    where
      x : WentTo p k mid
      x = went_to p k mid step

      client : (q : ℕ) (y : World) → y ≡ after w cols c (In q new) → IsClient y c (In q new)
      client q y is = ap (λ (z : World). slice_get z.clients c) is ∙ slice_get-set w.clients c (In q new) (slice_get_within w.clients c (In e.point vs) at)

      to : (marks : List Mark) × Instrumented D w c (Moved p k) marks (with_columns mid m) → Paths m
      to (marks, (there, q, variables, m', step', isc, ride, is)) =
          let y = went_to p k there step' in
          let same : In q variables ≡ In y.next new = same_Some (In q variables) (In y.next new) (sym isc ∙ client y.next there y.world) in
          let vars : variables ≡ new = cc same in
          let columns : there.columns ≡ cols = ap (λ (z : World). z.columns) y.world in
          let r = rode marks m' (subst (λ X. X) (λ i. RideAll ops first c (operation_at D.object (y.point i)) (variable (vars i)) (columns i) (riders_at D (y.point i) (y.kind i)) marks m') ride) in
          (r.path, r.listed, record { facts = r.known; marks = r.marks; replies = no_replies x.next r.path x.leads; columns = no_store x.next r.path x.leads ∙ (r.columns ∙ sym (ap (λ (z : World). z.columns) is)) })

      from : Paths m → (marks : List Mark) × Instrumented D w c (Moved p k) marks (with_columns mid m)
      from (q, is, gone) =
          let r = ridden q is gone.facts gone.marks in
          let m-is : columns_by s env q.columns ≡ m = sym (no_store x.next q x.leads) ∙ gone.columns in
          let columns : cols ≡ mid.columns = sym (ap (λ (z : World). z.columns) x.world) in (
            r.0,
            (
              mid,
              x.next,
              new,
              m,
              step,
              client x.next mid x.world,
              subst (λ X. X) (λ i. RideAll ops first c (operation_at D.object (sym x.point i)) (variable new) (columns i) (riders_at D (sym x.point i) (sym x.kind i)) r.0 (m-is i)) r.1,
              refl,
            ),
          )

  -- ---- a return

  return_is : e.next ≡ None → IsReturn (point_is_placed D.object R.object e.point pt pt-is).operation e
  return_is is =
      let pl = point_is_placed D.object R.object e.point pt pt-is in
      return_edge D.object e.point pt.operation pl.operation pt.instruction e pl.instruction (edge_here D.object e e.point pt among refl pt-is) is

  still : e.next ≡ None → vs ≡ new
  still is = ap (λ rs. assigned vs rs (numbers s vs e.values)) (sym (return_is is).targets)

  short : e.next ≡ None → length e.replies ≤ reply_limit
  short is =
      let pl = point_is_placed D.object R.object e.point pt pt-is in
      let a = (match_at D R pt.operation pl.operation pl.is).replies in
      let b = (arity_and_replies_few D R pt.operation).1 in
      let q = (return_is is).count in
      omega arith

  replied : e.next ≡ None → (m : State) → values_of m (variable new) e.replies ≡ numbers s vs e.replies
  replied is m = ap (λ xs. values_of m (variable xs) e.replies) (sym (still is)) ∙ code_values m s env _ e.replies (return_is is).code

  -- the replies are as asked for exactly if the return is justified
  stand : (p : Path) (m : State) → columns_by s env p.columns ≡ m → e.next ≡ None → IsJustified first m c (numbers s vs e.replies) → EachHolds s env (map (told p.columns τ) (reply_goals first e))
  stand p m cs is j =
      subst (λ (x : Option ℕ). EachHolds s env (map (told p.columns τ) (elim x as (λ y. List Formula) [ Some l ↦ [] | None ↦ justified first e.replies ∷ [] ]))) (sym is)
      (each_told_back s env p.columns τ m (variable new) cs (ap variable vars-are) (justified first e.replies ∷ [])
      (is_justified first m (variable new) c e.replies new-own (subst (IsJustified first m c) (sym (replied is m)) j), tt))

  stood : (p : Path) (m : State) → columns_by s env p.columns ≡ m → e.next ≡ None → EachHolds s env (map (told p.columns τ) (reply_goals first e)) → IsJustified first m c (numbers s vs e.replies)
  stood p m cs is h =
      let asked = subst (λ (x : Option ℕ). EachHolds s env (map (told p.columns τ) (elim x as (λ y. List Formula) [ Some l ↦ [] | None ↦ justified first e.replies ∷ [] ]))) is h in
      let goal = each_told s env p.columns τ m (variable new) cs (ap variable vars-are) (justified first e.replies ∷ []) asked in
      subst (IsJustified first m c) (replied is m) (justified_is first m (variable new) c e.replies new-own (short is) goal.0)

  last_store : (p : Path) → e.next ≡ None → columns_by s env (at_end first e.next p.columns) ≡ stored_all (columns_by s env p.columns) (return_writes first c)
  last_store p is =
      ap (λ x. columns_by s env (at_end first x p.columns)) is
      ∙ (columns_by-put s env p.columns (record { column = pend first; index = Variable 1; value = Number (pos 0) })
      ∙ (λ i. with_cell (columns_by s env p.columns) (pend first) (O.own c e.point vs at i) (pos 0)))

  ended : (ns : List ℤ) (mid : World) (m : State) → Steps D.object w c (Returned ns) mid → ((marks : List Mark) × Instrumented D w c (Returned ns) marks (with_columns mid m)) ↔ Paths m
  ended ns mid m step = (to, from)
    where
      x : Answered ns mid
      x = answered ns mid step

      to : (marks : List Mark) × Instrumented D w c (Returned ns) marks (with_columns mid m) → Paths m
      to (marks, (there, q, variables, m', isc, step', ride, just, is)) =
          let y = answered ns there step' in
          let same : In q variables ≡ In e.point vs = same_Some (In q variables) (In e.point vs) (sym isc ∙ at) in
          let point : q ≡ e.point = cc same in
          let vars : variables ≡ vs = cc same in
          let new-vars : variables ≡ new = vars ∙ still x.leads in
          let columns : there.columns ≡ cols = ap (λ (z : World). z.columns) y.world in
          let r = rode marks m' (subst (λ X. X) (λ i. RideAll ops first c (operation_at D.object (point i)) (variable (new-vars i)) (columns i) (riders_at D (point i) (sym x.kind i)) marks m') ride) in (
            r.path,
            r.listed,
            record {
              facts = r.known;
              marks = r.marks;
              replies = stand r.path m' r.columns x.leads (subst (IsJustified first m' c) x.numbers-is just);
              columns = last_store r.path x.leads ∙ (ap (λ z. stored_all z (return_writes first c)) r.columns ∙ sym (ap (λ (z : World). z.columns) is));
            },
          )

      from : Paths m → (marks : List Mark) × Instrumented D w c (Returned ns) marks (with_columns mid m)
      from (q, is, gone) =
          let r = ridden q is gone.facts gone.marks in
          let end : State = columns_by s env q.columns in
          let m-is : stored_all end (return_writes first c) ≡ m = sym (last_store q x.leads) ∙ gone.columns in
          let columns : cols ≡ mid.columns = sym (ap (λ (z : World). z.columns) x.world) in (
            r.0,
            (
              mid,
              e.point,
              vs,
              end,
              at,
              step,
              subst (λ X. X) (λ i. RideAll ops first c o (variable (sym (still x.leads) i)) (columns i) (riders_at D e.point (x.kind i)) r.0 end) r.1,
              subst (IsJustified first end c) (sym x.numbers-is) (stood q end refl x.leads gone.replies),
              ap (with_columns mid) (sym m-is),
            ),
          )

pub steps_are_paths : StepsArePaths
steps_are_paths D R w mid c vs e what O g m = by what g.step
  where
    -- the point of the edge
    found : (p : ℕ) (us : List ℤ) (i : Instr) → IsRunning D.object w c p us i → (pt : Point) × (slice_get D.object.points e.point ≡ Some pt)
    found p us i running =
        let client : In p us ≡ In e.point vs = same_Some (In p us) (In e.point vs) (sym running.client ∙ g.client) in
        let point : p ≡ e.point = cc client in
        (running.code.0, ap (slice_get D.object.points) (sym point) ∙ running.code.1)

    by : (what : Event) → Steps D.object w c what mid → ((marks : List Mark) × Instrumented D w c what marks (with_columns mid m)) ↔ ((p : Path) × IsIn p (edge_paths D (length vs) e) × IsGone D w.columns vs e p m)
    by (Invoked op ns) (_, _, _, idle, _) = let none : Idle ≡ In e.point vs = same_Some Idle (In e.point vs) (sym idle ∙ g.client) in absurd cc
    by (Moved p k) (us, i, running, s', q, new, done, is) = let pt = found p us i running in moved D R w c vs e g.edge g.client g.facts O pt.0 pt.1 p k mid m (us, i, running, s', q, new, done, is)
    by (Returned ns) (p, us, i, running, k, s', done, is) = let pt = found p us i running in ended D R w c vs e g.edge g.client g.facts O pt.0 pt.1 ns mid m (p, us, i, running, k, s', done, is)
