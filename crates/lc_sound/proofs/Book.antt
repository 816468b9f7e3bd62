-- What happens in an instrumented run is lawful.
use Rattle.std.proofs.Common.{◌≡◌, ℕ, ◌+◌, ◌≤◌, Bool, true, false, ◌==◌, cond, List, [], ◌∷◌, ◌++◌, ℤ, pos, Option, Some, None, map, length, take, refl, ap, sym, subst, ◌∙◌, inl, inr, append_assoc, arith}
use Rattle.std.specs.Prelude.{slice_get}
use Rattle.std.proofs.lemmas.Int.{ints}
use Rattle.std.proofs.lemmas.List.{map-append}
use Rattle.std.proofs.lemmas.Bool.{eqb-false}
use Rattle.lc_lemmas.proofs.Numbers.{equal_other_way}
use Rattle.lc_term.specs.Updates.{Write, stored_all, write_of, row}
use Rattle.lc_term.specs.Meaning.{State, Env}
use Rattle.lc_seq.specs.Sequential.{Call, Choice, Sequential, given_in}
use Rattle.lc_seq.specs.Specification.{Operation, chosen}
use Rattle.lc_seq.specs.TextStep.{run, call_env, text_step}
use Rattle.lc_history.specs.History.{Entry}
use Rattle.lc_object.specs.Syntax.{Point, Object}
use Rattle.lc_object.specs.Edges.{Edge}
use Rattle.lc_object.specs.declared.instr.EdgeKind.{EdgeKind}
use Rattle.lc_machine.specs.World.{Client, Idle, In}
use Rattle.lc_machine.specs.Step.{Does, Outcome, after}
use Rattle.lc_machine.proofs.EdgeLaw.{by_edge}
use Rattle.lc_term.specs.Lists.{Every}
use Rattle.lc_seq.specs.Branches.{op_branches, arity, op_replies}
use Rattle.lc_object.specs.Places.{operation_at}
use Rattle.lc_term.specs.SystemColumns.{pend, op_column, arg_columns}
use Rattle.lc_rider.specs.Rider.{Mark, Own, Other, Note, Deed, Assign, Marks, Rider, arguments_in, choice_at, IsSettled, IsNoted, IsDone, IsDoneWhere, RideAll, mark_writes, note_writes}
use Rattle.lc_outline.specs.Development.{Development, On, first_system, on_at, riders_in, riders_at}
use Rattle.lc_outline.specs.Resolved.{IsResolved, IsRiderResolved, IsDeedResolved, IsOnResolved}
use Rattle.lc_sound.specs.Happening.{Happening, Marked, put}
use Rattle.lc_sound.specs.Order.{marked}
use Rattle.lc_sound.specs.Lawful.{Phase, Free, Waiting, Noted, Done, Takes, Leaves, IsLawful}
use Rattle.lc_sound.proofs.Kept.{call_in}
use Rattle.lc_term.proofs.Stores.{stored-append, writes_other}
use Rattle.lc_seq.proofs.Abstract.{abstract_of, run-abstract, IsRun, run_is, stored-abstract, same-abstract}
use Rattle.lc_machine.proofs.Bodies.{does_outside}
use Rattle.lc_sound.proofs.Rows.{row_of, row_same, IsOfCall, Matches, in_call, takes_mark, takes_note}
use Rattle.lc_outline.proofs.Matched.{branches_resolved, replies_resolved, arity_and_replies_few, text_step_run}
use Rattle.lc_sound.proofs.RowChanges.{rows_away, rows_kept, specification_kept, mark_at, note_at, mark_behind, note_behind, marked_row, noted_row}

same_put : (phases : ℕ → Phase) (c : ℕ) (q : Phase) → call_in q ≡ call_in (phases c) → (d : ℕ) → call_in (put phases c q d) ≡ call_in (phases d)
same_put phases c q is d = go (d == c) refl
  where
    go : (b : Bool) → (d == c) ≡ b → call_in (cond b q (phases d)) ≡ call_in (phases d)
    go true e = is ∙ ap (λ k. call_in (phases k)) (sym (equal_other_way c d e))
    go false e = refl

still_last : (phases after : ℕ → Phase) (last : ℕ → Call) → ((c : ℕ) → call_in (after c) ≡ call_in (phases c))
    → ((c : ℕ) (call : Call) → call_in (phases c) ≡ Some call → last c ≡ call)
    → (c : ℕ) (call : Call) → call_in (after c) ≡ Some call → last c ≡ call
still_last phases after last same is c call e = is c call (sym (same c) ∙ e)

pub put_last : (phases : ℕ → Phase) (last : ℕ → Call) (c : ℕ) (call : Call) → ((d : ℕ) (k : Call) → call_in (phases d) ≡ Some k → last d ≡ k)
    → (d : ℕ) (k : Call) → call_in (put phases c (Waiting call) d) ≡ Some k → put last c call d ≡ k
put_last phases last c call is d = go (d == c)
  where
    go : (b : Bool) → (k : Call) → call_in (cond b (Waiting call) (phases d)) ≡ Some k → cond b call (last d) ≡ k
    go true k e = cc
    go false k e = is d k e

pub put_free : (phases : ℕ → Phase) (last : ℕ → Call) (c : ℕ) → ((d : ℕ) (k : Call) → call_in (phases d) ≡ Some k → last d ≡ k)
    → (d : ℕ) (k : Call) → call_in (put phases c Free d) ≡ Some k → last d ≡ k
put_free phases last c is d = go (d == c)
  where
    go : (b : Bool) → (k : Call) → call_in (cond b Free (phases d)) ≡ Some k → last d ≡ k
    go true k e = absurd cc
    go false k e = is d k e

pub is_free : (p : Phase) → call_in p ≡ None → p ≡ Free
is_free Free e = refl
is_free (Waiting call) e = absurd cc
is_free (Noted call reply) e = absurd cc
is_free (Done call reply) e = absurd cc

-- a client is in no call exactly if its phase is free, and else at a point of its call's operation
abbrev pub Stands : Object → Option Client → Option Call → Type 0
Stands object None now = now ≡ None
Stands object (Some Idle) now = now ≡ None
Stands object (Some (In p vs)) now = (call : Call) × (now ≡ Some call) × (operation_at object p ≡ call.op)

abbrev pub AllStand : Object → List Client → (ℕ → Phase) → Type 0
AllStand object clients phases = (d : ℕ) → Stands object (slice_get clients d) (call_in (phases d))

module _ (D : Development) (R : IsResolved D) where
  abbrev pub ops : List Operation
  ops = D.specification.operations

  abbrev pub n : ℕ
  n = length D.specification.columns

  abbrev pub first : ℕ
  first = first_system D

  abbrev pub step : Sequential State
  step = text_step ops

  abbrev pub abs : State → State
  abs s = abstract_of n s

  pub below : n ≤ first
  below = omega arith

  -- the phases say what the rows hold, and each call is the one that its client made last
  pub record Tells (phases : ℕ → Phase) (last : ℕ → Call) (s : State) : Type 0 where
    pub matches : (c : ℕ) → Matches ops (phases c) (row_of first s c)
    pub is_last : (c : ℕ) (call : Call) → call_in (phases c) ≡ Some call → last c ≡ call

  -- what marks lead to
  pub record Leads (last : ℕ → Call) (phases : ℕ → Phase) (s : State) (ms : List Mark) (t : State) : Type 0 where
    pub after : ℕ → Phase
    pub tells : Tells after last t
    pub same : (c : ℕ) → call_in (after c) ≡ call_in (phases c)
    pub lawful : (hs : List Happening) → IsLawful step (abs t) after hs → IsLawful step (abs s) phases (map (marked last) ms ++ hs)

  -- a row is matched if it was changed for one client, and the others kept theirs
  pub matched : (phases : ℕ → Phase) (s t : State) (c : ℕ) (q : Phase) → ((d : ℕ) → Matches ops (phases d) (row_of first s d)) → Matches ops q (row_of first t c) → ((d : ℕ) → (d ≡ c → ⊥) → row_of first t d ≡ row_of first s d)
      → (d : ℕ) → Matches ops (put phases c q d) (row_of first t d)
  matched phases s t c q all here away d = go (d == c) refl
    where
      go : (b : Bool) → (d == c) ≡ b → Matches ops (cond b q (phases d)) (row_of first t d)
      go true e = subst (λ x. Matches ops q (row_of first t x)) (sym (equal_other_way c d e)) here
      go false e = subst (Matches ops (phases d)) (sym (away d (eqb-false d c e))) (all d)

  module _ (last : ℕ → Call) where
    abbrev Names : (ℕ → Phase) → State → ℕ → ℕ → Type 0
    Names phases s c o = (call : Call) → call_in (phases c) ≡ Some call → s (op_column first) (pos c) ≡ pos call.op → call.op ≡ o

    abbrev IsNamed : (ℕ → Phase) → ℕ → ℕ → Type 0
    IsNamed phases c o = (call : Call) → call_in (phases c) ≡ Some call → call.op ≡ o

    nothing : (phases : ℕ → Phase) (s t : State) (ms : List Mark) → Tells phases last s → ms ≡ [] → ((c : ℕ) → row_of first t c ≡ row_of first s c) → abs t ≡ abs s → Leads last phases s ms t
    nothing phases s t ms tells none rows cells = record {
      after = phases;
      tells = record { matches = λ c. subst (Matches ops (phases c)) (sym (rows c)) (tells.matches c); is_last = tells.is_last };
      same = λ c. refl;
      lawful = λ hs law. subst (λ m. IsLawful step (abs s) phases (map (marked last) m ++ hs)) (sym none) (subst (λ a. IsLawful step a phases hs) cells law);
    }

    stays : (phases : ℕ → Phase) (s t : State) (ms : List Mark) → Tells phases last s → ms ≡ [] → t ≡ s → Leads last phases s ms t
    stays phases s t ms tells none is = nothing phases s t ms tells none (λ c. ap (λ x. row_of first x c) is) (ap abs is)

    -- the call of a client with pend 1: it is the last, and of the operation o
    record Found (phases : ℕ → Phase) (s : State) (c o : ℕ) : Type 0 where
      pub here : call_in (phases c) ≡ Some (last c)
      pub of_call : IsOfCall ops (last c) (row_of first s c)
      pub op : (last c).op ≡ o
      pub numbers : (last c).numbers ≡ arguments_in ops first s c o

    found : (phases : ℕ → Phase) (s : State) (c o : ℕ) → Tells phases last s → Names phases s c o → s (pend first) (pos c) ≡ pos 1 → Found phases s c o
    found phases s c o tells named one =
        let f = in_call ops (phases c) (row_of first s c) (tells.matches c) one in
        let same : last c ≡ f.0 = tells.is_last c f.0 f.1 in
        let of_call : IsOfCall ops (last c) (row_of first s c) = subst (λ k. IsOfCall ops k (row_of first s c)) (sym same) f.2 in
        let here : call_in (phases c) ≡ Some (last c) = f.1 ∙ ap Some (sym same) in
        let op : (last c).op ≡ o = named (last c) here of_call.op in
        record { here = here; of_call = of_call; op = op; numbers = sym of_call.arguments ∙ ap (λ k. take (arity ops k) (row s (arg_columns first) (pos c))) op }

    one_mark : (phases : ℕ → Phase) (s t : State) (c : ℕ) (note : Bool) (choice : Choice) (reply : List ℤ) (q : Phase) → Tells phases last s
        → call_in q ≡ call_in (phases c) → Matches ops q (row_of first t c) → ((d : ℕ) → (d ≡ c → ⊥) → row_of first t d ≡ row_of first s d)
        → Takes (phases c) (Marked note (record { client = c; call = last c; choice = choice; reply = reply })) q
        → Leaves step (abs s) (Marked note (record { client = c; call = last c; choice = choice; reply = reply })) (abs t)
        → Leads last phases s (record { client = c; note = note; choice = choice; reply = reply } ∷ []) t
    one_mark phases s t c note choice reply q tells same-call matches away takes leaves = record {
      after = put phases c q;
      tells = record {
        matches = matched phases s t c q tells.matches matches away;
        is_last = still_last phases (put phases c q) last (same_put phases c q same-call) tells.is_last;
      };
      same = same_put phases c q same-call;
      lawful = λ hs law. (q, abs t, takes, leaves, law);
    }

    -- what the branch that is taken stores and replies, and that it is a step of the specification
    record IsTaken (s : State) (c o : ℕ) (choice : Choice) (ws : List Write) (vs : List ℤ) : Type 0 where
      pub runs : IsRun n (op_replies ops (last c).op) ws vs
      pub steps : step (abs s) c (last c) choice ≡ Some (stored_all (abs s) ws, vs)

    taken : (phases : ℕ → Phase) (s : State) (c o : ℕ) (choice : Choice) (ws : List Write) (vs : List ℤ) → Found phases s c o → run s (call_env c (arguments_in ops first s c o ++ given_in choice)) (chosen choice (op_branches ops o)) ≡ Some (ws, vs) → IsTaken s c o choice ws vs
    taken phases s c o choice ws vs f is = record {
      runs = subst (λ k. IsRun n (op_replies ops k) ws vs) (sym f.op)
          (run_is n (2 + arity ops o + length (given_in choice)) (op_replies ops o) s (call_env c (arguments_in ops first s c o ++ given_in choice)) (chosen choice (op_branches ops o)) ws vs (branches_resolved D R o choice) (replies_resolved D R o choice) is);
      steps = text_step_run ops (abs s) c (last c) choice o (arguments_in ops first s c o) ws vs f.op f.numbers f.of_call.whole
          (run-abstract n (2 + arity ops o + length (given_in choice)) s (call_env c (arguments_in ops first s c o ++ given_in choice)) (chosen choice (op_branches ops o)) (branches_resolved D R o choice) ∙ is);
    }

    mark : (phases : ℕ → Phase) (s t : State) (c o : ℕ) (choice : Choice) (ms : List Mark) → Tells phases last s → Names phases s c o → IsSettled ops first s c o choice ms t → Leads last phases s ms t
    mark phases s t c o choice ms tells named (ws, reply, one, is, ms-are, t-is) =
        let f = found phases s c o tells named one in
        let k = taken phases s c o choice ws reply f is in
        let a : State = stored_all s ws in
        let u : State = stored_all a (mark_writes first c reply) in
        let e : Entry = record { client = c; call = last c; choice = choice; reply = reply } in
        let cells : abs u ≡ stored_all (abs s) ws =
        same-abstract n u a (specification_kept n first a (mark_writes first c reply) below (mark_behind first c reply)) ∙ stored-abstract n s ws k.runs.columns in
        let leads : Leads last phases s (record { client = c; note = false; choice = choice; reply = reply } ∷ []) u =
        one_mark phases s u c false choice reply (Done (last c) reply) tells (sym f.here)
        (marked_row ops first a c (last c) reply k.runs.count (arity_and_replies_few D R (last c).op).1)
        (λ d ne. rows_away first a c d (mark_writes first c reply) ne (mark_at first c reply) ∙ rows_kept n first s d ws below k.runs.columns)
        (takes_mark ops (phases c) (row_of first s c) e (tells.matches c) one f.here)
        (subst (λ x. step (abs s) c (last c) choice ≡ Some (x, reply)) (sym cells) k.steps) in
        subst (λ x. Leads last phases s ms x) (sym (t-is ∙ stored-append s ws (mark_writes first c reply))) (subst (λ m. Leads last phases s m u) (sym ms-are) leads)

    note : (phases : ℕ → Phase) (s t : State) (c o : ℕ) (choice : Choice) (ms : List Mark) → Tells phases last s → Names phases s c o → IsNoted ops first s c o choice ms t → Leads last phases s ms t
    note phases s t c o choice ms tells named (reply, one, is, ms-are, t-is) =
        let f = found phases s c o tells named one in
        let k = taken phases s c o choice [] reply f is in
        let u : State = stored_all s (note_writes first c reply) in
        let e : Entry = record { client = c; call = last c; choice = choice; reply = reply } in
        let cells : abs u ≡ abs s = same-abstract n u s (specification_kept n first s (note_writes first c reply) below (note_behind first c reply)) in
        let leads : Leads last phases s (record { client = c; note = true; choice = choice; reply = reply } ∷ []) u =
        one_mark phases s u c true choice reply (Noted (last c) reply) tells (sym f.here)
        (noted_row ops first s c (last c) reply one f.of_call k.runs.count (arity_and_replies_few D R (last c).op).1)
        (λ d ne. rows_away first s c d (note_writes first c reply) ne (note_at first c reply))
        (takes_note ops (phases c) (row_of first s c) e (tells.matches c) one f.here)
        (cells, k.steps) in
        subst (λ x. Leads last phases s ms x) (sym t-is) (subst (λ m. Leads last phases s m u) (sym ms-are) leads)

    does : (phases : ℕ → Phase) (self o : ℕ) (e : Env) (s : State) (d : Deed) (ms : List Mark) (t : State) → IsDeedResolved D o d → Tells phases last s → IsNamed phases self o
        → IsDone ops first self o e s d ms t → Leads last phases s ms t
    does phases self o e s (Assign u) ms t res tells named (none, is) =
        let ws : List Write = write_of s e u ∷ [] in
        nothing phases s t ms tells none
        (λ c. ap (λ x. row_of first x c) is ∙ row_same first (stored_all s ws) s c (λ k le. λ i. writes_other s ws k ((λ x. let lt = res.1 in omega arith), tt) i (pos c)))
        (ap abs is ∙ same-abstract n (stored_all s ws) s (λ c lt. writes_other s ws c ((λ x. let le = res.0 in omega arith), tt)))
    does phases self o e s (Marks Own by) ms t res tells named d = mark phases s t self o (choice_at s e by) ms tells (λ call is op. named call is) d
    does phases self o e s (Marks (Other x p) by) ms t res tells named (c, is, op, d) = mark phases s t c p (choice_at s e by) ms tells (λ call is' op'. omega (arith, ints, op, op')) d
    does phases self o e s (Marks Note by) ms t res tells named d = note phases s t self o (choice_at s e by) ms tells (λ call is op. named call is) d

    does_where : (phases : ℕ → Phase) (self o : ℕ) (e : Env) (s : State) (f : Option Rattle.lc_term.specs.Syntax.Formula) (d : Deed) (ms : List Mark) (t : State) → IsDeedResolved D o d → Tells phases last s → IsNamed phases self o
        → IsDoneWhere ops first f self o e s d ms t → Leads last phases s ms t
    does_where phases self o e s None d ms t res tells named ride = does phases self o e s d ms t res tells named ride
    does_where phases self o e s (Some f) d ms t res tells named (inl ride) = does phases self o e s d ms t res tells named ride.1
    does_where phases self o e s (Some f) d ms t res tells named (inr ride) = stays phases s t ms tells ride.1 ride.2

    both : (phases : ℕ → Phase) (s mid t : State) (now later ms : List Mark) → (one : Leads last phases s now mid) → Leads last one.after mid later t → ms ≡ now ++ later → Leads last phases s ms t
    both phases s mid t now later ms one two is = record {
      after = two.after;
      tells = two.tells;
      same = λ c. two.same c ∙ one.same c;
      lawful = λ hs law. subst (λ m. IsLawful step (abs s) phases (m ++ hs)) (sym (ap (map (marked last)) is ∙ map-append (marked last) now later))
          (subst (IsLawful step (abs s) phases) (sym (append_assoc (map (marked last) now) (map (marked last) later) hs))
          (one.lawful (map (marked last) later ++ hs) (two.lawful hs law)));
    }

    pub rides_all : (phases : ℕ → Phase) (self o : ℕ) (e : Env) (s : State) (rs : List Rider) (ms : List Mark) (t : State) → Every (IsRiderResolved D o) rs → Tells phases last s → IsNamed phases self o
        → RideAll ops first self o e s rs ms t → Leads last phases s ms t
    rides_all phases self o e s [] ms t res tells named ride = stays phases s t ms tells ride.0 ride.1
    rides_all phases self o e s (r ∷ rs) ms t res tells named (mid, now, later, ride, rest, is) =
        let one = does_where phases self o e s r.condition r.deed now mid res.0.1 tells named ride in
        both phases s mid t now later ms one (rides_all one.after self o e mid rs later t res.1 one.tells (λ call e. named call (sym (one.same self) ∙ e)) rest) is

  -- an instruction changes neither the specification's columns nor the system columns
  module _ (s s' : State) (vs : List ℤ) (p : ℕ) (point : Point) (k : EdgeKind) (out : Outcome) (at : slice_get D.object.points p ≡ Some point) (done : Does D.object s vs point.instruction k s' out) where
    pub same_rows : (c : ℕ) → row_of first s' c ≡ row_of first s c
    same_rows c = row_same first s' s c (λ j le. λ i. does_outside D.object R.object s vs k s' point.instruction out j (inr (let a = R.abstracts in omega arith)) done i (pos c))

    pub same_cells : abs s' ≡ abs s
    same_cells = same-abstract n s' s (λ c lt. does_outside D.object R.object s vs k s' point.instruction out c (inl (let a = R.abstracts in omega arith)) done)

    on_resolved : (o : ℕ) (e : Edge) (x : Option On) → IsOnResolved D o e x → Every (IsRiderResolved D o) (riders_in x)
    on_resolved o e None h = tt
    on_resolved o e (Some x) h = h.1

    pub riders_resolved : Every (IsRiderResolved D (operation_at D.object p)) (riders_at D p k)
    riders_resolved =
        let g = by_edge D.object R.object p point at s s' vs k out done in
        let r = on_resolved (operation_at D.object (g.0).point) g.0 (on_at D (g.0).point (g.0).kind) (R.ons g.0 g.1.0) in
        subst (λ j. Every (IsRiderResolved D (operation_at D.object p)) (riders_at D p j)) g.1.2
        (subst (λ q. Every (IsRiderResolved D (operation_at D.object q)) (riders_at D q (g.0).kind)) g.1.1 r)

    pub same_tells : (phases : ℕ → Phase) (last : ℕ → Call) → Tells phases last s → Tells phases last s'
    same_tells phases last tells = record { matches = λ c. subst (Matches ops (phases c)) (sym (same_rows c)) (tells.matches c); is_last = tells.is_last }
