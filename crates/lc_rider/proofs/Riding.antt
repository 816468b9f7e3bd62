-- Riders and paths: what the riders do goes along a path, and if what each path owes is met, the riders can be done.
use Rattle.std.proofs.Common.{◌≡◌, ℕ, zero, suc, if◌then◌else◌, Bool, true, false, List, [], ◌∷◌, ◌++◌, ℤ, pos, Option, Some, None, map, take, refl, sym, ap, ap₂, ◌∙◌, subst, inl, inr}
use Rattle.std.specs.List.{list_all}
use Rattle.std.proofs.lemmas.List.{map-append, take-map}
use Rattle.std.proofs.lemmas.Option.{same_Some}
use mathlib.Core.Path.{fun_ext}
use Rattle.lc_lemmas.proofs.Booleans.{left_true, right_true}
use Rattle.lc_term.specs.Updates.{Update, Write, stored_all, write_of, writes_of, values_of, variable, row, cell_writes}
use Rattle.lc_term.specs.Syntax.{formulas, Term, Number, Variable, Formula, Not}
use Rattle.lc_term.specs.Meaning.{NoneHolds, State, Env, outside, value, Holds, EachHolds}
use Rattle.lc_term.specs.Replacement.{replacing, replace_term}
use Rattle.lc_term.specs.Truth.{is_ground, truth}
use Rattle.lc_term.proofs.Truth.{Decides-truth}
use Rattle.lc_seq.specs.Sequential.{Chosen, Choice, given_in, choose_map}
use Rattle.lc_seq.specs.Specification.{Branch, Operation, chosen}
use Rattle.lc_seq.specs.TextStep.{run, call_env}
use Rattle.lc_seq.proofs.Choosing.{chosen-map, given-map, chosen-every, resolved_behind}
use Rattle.lc_term.specs.Lists.{Every, concat_map, numbered, concat_places}
use Rattle.lc_seq.specs.Branches.{op_branches, arity}
use Rattle.lc_term.specs.Said.{told, said, term_at, at_client}
use Rattle.lc_term.specs.SystemColumns.{op_column, pend, arg_columns, rep_columns, noted, note_columns}
use Rattle.lc_rider.specs.Rider.{Mark, Marking, Own, Other, Note, Deed, Assign, Marks, Rider, arguments_in, IsDone, IsDoneWhere, RideAll, mark_writes, note_writes}
use Rattle.lc_rider.specs.Paths.{Path, Duty, observing_duty, is_empty, with_fact, branch_variables, mark_updates, marked_client, owing, mark_duties, branch_paths, deed_paths, deed_paths_where, rider_paths, paths}
use Rattle.lc_rider.specs.PathLaws.{AreGround}
use Rattle.lc_term.proofs.Stores.{Every-append, Every_left, Every_right}
use Rattle.lc_term.proofs.Symbolic.{columns_by, values_by, columns_by-put, columns_by-after, write-said, value-said, Holds-told, each-append, values_of_reads, writes_at_client}

pub Every-concat : {A B : Type 0} (P : B → Type 0) (f : A → List B) (xs : List A) → Every P (concat_map f xs) → Every (λ x. Every P (f x)) xs
Every-concat P f [] p = tt
Every-concat P f (x ∷ xs) p = (Every_left P (f x) (concat_map f xs) p, Every-concat P f xs (Every_right P (f x) (concat_map f xs) p))

-- and each element has its place
pub Every-counted : {A B : Type 0} (P : B → Type 0) (f : ℕ → A → List B) (j : ℕ) (xs : List A) → Every P (concat_places f j xs) → Every (λ x. (k : ℕ) × Every P (f k x)) xs
Every-counted P f j [] p = tt
Every-counted P f j (x ∷ xs) p = ((j, Every_left P (f j x) (concat_places f (suc j) xs) p), Every-counted P f (suc j) xs (Every_right P (f j x) (concat_places f (suc j) xs) p))

pub Every-numbered : {A B : Type 0} (P : B → Type 0) (f : ℕ → A → B) (j : ℕ) (xs : List A) → Every P (numbered f j xs) → Every (λ x. (k : ℕ) × P (f k x)) xs
Every-numbered P f j [] p = tt
Every-numbered P f j (x ∷ xs) p = ((j, p.0), Every-numbered P f (suc j) xs p.1)

pub ground_from : (n vars : ℕ) (bs : List Branch) → list_all (resolved_behind n vars) bs ≡ true → AreGround bs
ground_from n vars [] h = tt
ground_from n vars (b ∷ bs) h = (left_true _ _ (left_true _ _ (left_true (resolved_behind n vars b) (list_all (resolved_behind n vars) bs) h)), ground_from n vars bs (right_true (resolved_behind n vars b) _ h))

-- the variables of a call, as numbers in order
call_variables : (x : ℕ) (ns : List ℤ) → call_env x ns ≡ variable (pos 0 ∷ pos x ∷ ns)
call_variables x ns = fun_ext (λ k. at k)
  where
    at : (k : ℕ) → call_env x ns k ≡ variable (pos 0 ∷ pos x ∷ ns) k
    at zero = refl
    at (suc zero) = refl
    at (suc (suc k)) = refl

module _ (ops : List Operation) (first : ℕ) (grounds : (p : ℕ) → AreGround (op_branches ops p)) (s : State) (e : Env) (τ : List Term) where
  -- the variables of the riders, the columns of a path, and its facts
  abbrev pub v : Env
  v = variable (values_by s e τ)

  abbrev pub st : Path → State
  st p = columns_by s e p.columns

  abbrev pub Facts : Path → Type 0
  Facts p = EachHolds s e p.facts

  -- these duties are met; a path is lawful
  abbrev pub AreMet : List Duty → Type 0
  AreMet ds = Every (λ (d : Duty). Holds s e outside d.goal) ds

  abbrev pub Lawful : Path → Type 0
  Lawful p = Facts p × AreMet p.duties

  pub one_more : (fs : List Formula) (f : Formula) → EachHolds s e fs → Holds s e outside f → EachHolds s e (fs ++ f ∷ [])
  one_more fs f h g = each-append s e fs (f ∷ []) h (g, tt)

  -- the variables of a branch at a call of the client that the term c says
  abbrev pub marked_variables : ℕ → Path → Term → List Term → List Term
  marked_variables p q c ts = branch_variables q.columns first (arity ops p) c ts

  abbrev pub be : ℕ → Path → Term → List Term → Env
  be p q c ts = variable (values_by s e (marked_variables p q c ts))

  pub branch_env_is : (p x : ℕ) (q : Path) (c : Term) (ts : List Term) → value s e outside c ≡ pos x → be p q c ts ≡ call_env x (arguments_in ops first (st q) x p ++ values_by s e ts)
  branch_env_is p x q c ts h =
      let args : values_by s e (take (arity ops p) (Rattle.lc_term.specs.Said.reads q.columns (arg_columns first) c)) ≡ arguments_in ops first (st q) x p =
      sym (take-map (value s e outside) (arity ops p) (Rattle.lc_term.specs.Said.reads q.columns (arg_columns first) c))
      ∙ (ap (take (arity ops p)) (values_of_reads s e q.columns (arg_columns first) c) ∙ ap (λ i. take (arity ops p) (row (st q) (arg_columns first) i)) h) in
      (λ i. variable (pos 0 ∷ h i ∷ map-append (value s e outside) (take (arity ops p) (Rattle.lc_term.specs.Said.reads q.columns (arg_columns first) c)) ts i))
      ∙ ((λ i. variable (pos 0 ∷ pos x ∷ args i ++ values_by s e ts)) ∙ sym (call_variables x (arguments_in ops first (st q) x p ++ values_by s e ts)))

  -- the terms of a choice, and that their numbers are those that are chosen
  abbrev pub terms : Chosen Term → Path → List Term
  terms by q = map (replace_term (replacing q.columns (term_at τ))) (given_in by)

  abbrev pub choice : Chosen Term → Path → Choice
  choice by q = choose_map (value (st q) v outside) by

  terms_said : (ts : List Term) (q : Path) → values_by s e (map (replace_term (replacing q.columns (term_at τ))) ts) ≡ map (value (st q) v outside) ts
  terms_said [] q = refl
  terms_said (t ∷ ts) q = ap₂ (λ x xs. x ∷ xs) (value-said s e q.columns τ t) (terms_said ts q)

  pub terms_are : (by : Chosen Term) (q : Path) → values_by s e (terms by q) ≡ given_in (choice by q)
  terms_are by q = terms_said (given_in by) q ∙ sym (given-map (value (st q) v outside) by)

  -- the variables of a branch at a marked call, and the branches that its choice leaves
  abbrev pub marked_env : ℕ → ℕ → Chosen Term → Path → Env
  marked_env p x by q = call_env x (arguments_in ops first (st q) x p ++ given_in (choice by q))

  abbrev pub branches : ℕ → Chosen Term → List Branch
  branches p by = chosen by (op_branches ops p)

  pub branches_ground : (p : ℕ) (by : Chosen Term) → AreGround (branches p by)
  branches_ground p by = chosen-every (λ (b : Branch). is_ground b.guard ≡ true) by (op_branches ops p) (grounds p)

  pub marked_env_is : (p x : ℕ) (by : Chosen Term) (q : Path) (c : Term) → value s e outside c ≡ pos x → be p q c (terms by q) ≡ marked_env p x by q
  marked_env_is p x by q c h = branch_env_is p x q c (terms by q) h ∙ (λ i. call_env x (arguments_in ops first (st q) x p ++ terms_are by q i))

  -- the choice leaves the same branches by its terms and by their numbers
  pub run_chosen : (p x : ℕ) (by : Chosen Term) (q : Path) (r : Option (List Write × List ℤ)) →
      run (st q) (marked_env p x by q) (chosen (choice by q) (op_branches ops p)) ≡ r → run (st q) (marked_env p x by q) (branches p by) ≡ r
  run_chosen p x by q r is = ap (run (st q) (marked_env p x by q)) (sym (chosen-map (value (st q) v outside) by (op_branches ops p))) ∙ is

  -- ---- what is stored

  pub settled_writes : (m : State) (x : ℕ) (a : Env) (b : Branch) → a 1 ≡ pos x →
      writes_of m a (b.updates ++ (at_client (rep_columns first) b.replies ++ at_client (pend first ∷ []) (Number (pos 2) ∷ []))) ≡ writes_of m a b.updates ++ mark_writes first x (values_of m a b.replies)
  settled_writes m x a b h =
      map-append (write_of m a) b.updates (at_client (rep_columns first) b.replies ++ at_client (pend first ∷ []) (Number (pos 2) ∷ []))
      ∙ ap (λ ws. writes_of m a b.updates ++ ws)
      (map-append (write_of m a) (at_client (rep_columns first) b.replies) (at_client (pend first ∷ []) (Number (pos 2) ∷ []))
      ∙ ((λ i. writes_at_client m a (rep_columns first) b.replies i ++ cell_writes (pend first ∷ []) (a 1) (pos 2 ∷ []))
      ∙ (λ i. cell_writes (rep_columns first) (h i) (values_of m a b.replies) ++ cell_writes (pend first ∷ []) (h i) (pos 2 ∷ []))))

  pub noted_writes : (m : State) (x : ℕ) (a : Env) (b : Branch) → a 1 ≡ pos x → writes_of m a (at_client (noted first ∷ note_columns first) (Number (pos 1) ∷ b.replies)) ≡ note_writes first x (values_of m a b.replies)
  noted_writes m x a b h = writes_at_client m a (noted first ∷ note_columns first) (Number (pos 1) ∷ b.replies) ∙ (λ i. cell_writes (noted first ∷ note_columns first) (h i) (pos 1 ∷ values_of m a b.replies))

  -- ---- a run of a branch goes along its path

  abbrev pub Along : (Path → Type 0) → State → Type 0
  Along P m = (q : Path) × (P q × (Lawful q × (st q ≡ m)))

  -- the branch that was taken
  pub record Taken (P : Path → Type 0) (k : Marking) (m : State) (a : Env) (ws : List Write) (reply : List ℤ) : Type 0 where
    pub path : Path
    pub branch : Branch
    pub given : P path
    pub facts : Lawful path
    pub columns : st path ≡ stored_all m (writes_of m a (mark_updates first k branch))
    pub writes : writes_of m a branch.updates ≡ ws
    pub replies : values_of m a branch.replies ≡ reply

  -- a note's branch stores nothing
  abbrev Quiet : Marking → List Write → Type 0
  Quiet Own ws = Unit {0}
  Quiet (Other t p) ws = Unit {0}
  Quiet Note ws = ws ≡ []

  observed : (j : ℕ) (k : Marking) (fs : List Formula) (b : Branch) (m : State) (a : Env) (ws : List Write) → writes_of m a b.updates ≡ ws → Quiet k ws → AreMet (observing_duty ops first j k fs b)
  observed j Own fs b m a ws is quiet = tt
  observed j (Other t p) fs b m a ws is quiet = tt
  observed j Note fs b m a ws is quiet = (none b.updates (is ∙ quiet), tt)
    where
      none : (us : List Update) → writes_of m a us ≡ [] → Holds s e outside (is_empty us)
      none [] h = tt
      none (u ∷ us) h = absurd (cc h)

  branch_along : (P : Path → Type 0) (j : ℕ) (k : Marking) (υ : List Term) (bs : List Branch) (q : Path) (a : Env) (ws : List Write) (reply : List ℤ) → AreGround bs → Quiet k ws → variable (values_by s e υ) ≡ a → Lawful q →
      run (st q) a bs ≡ Some (ws, reply) → Every P (branch_paths ops first j k υ bs q) → Taken P k (st q) a ws reply
  branch_along P j k υ [] q a ws reply g quiet h f is r = absurd cc
  branch_along P j k υ (b ∷ bs) q a ws reply g quiet h f is r =
      by (truth (st q) a outside b.guard) refl is
      (λ e' is'. branch_along P j k υ bs (with_fact q (Not (told q.columns υ b.guard))) a ws reply g.1 quiet h (
        one_more q.facts (Not (told q.columns υ b.guard)) f.0
            (λ x. Rattle.std.proofs.Common.true≢false (sym (d.1 (subst (λ X. X) tells x)) ∙ e')),
        f.1,
      ) is' r.1)
    where
      tells : Holds s e outside (told q.columns υ b.guard) ≡ Holds (st q) a outside b.guard
      tells = Holds-told s e q.columns υ b.guard ∙ (λ i. Holds (st q) (h i) outside b.guard)

      d : (truth (st q) a outside b.guard ≡ true → Holds (st q) a outside b.guard) × (Holds (st q) a outside b.guard → truth (st q) a outside b.guard ≡ true)
      d = Decides-truth (st q) a outside b.guard g.0

      by : (t : Bool) → truth (st q) a outside b.guard ≡ t → (if t then Some (writes_of (st q) a b.updates, values_of (st q) a b.replies) else run (st q) a bs) ≡ Some (ws, reply) →
          (truth (st q) a outside b.guard ≡ false → run (st q) a bs ≡ Some (ws, reply) → Taken P k (st q) a ws reply) → Taken P k (st q) a ws reply
      by true e' is' later =
          let pair = same_Some (writes_of (st q) a b.updates, values_of (st q) a b.replies) (ws, reply) is' in
          record {
            path = _;
            branch = b;
            given = r.0;
            facts = (
              one_more q.facts (told q.columns υ b.guard) f.0 (subst (λ X. X) (sym tells) (d.0 e')),
              Every-append (λ (x : Duty). Holds s e outside x.goal) q.duties (observing_duty ops first j k (q.facts ++ told q.columns υ b.guard ∷ []) b) f.1
                  (observed j k (q.facts ++ told q.columns υ b.guard ∷ []) b (st q) a ws (ap (λ (x : List Write × List ℤ). x.0) pair) quiet),
            );
            columns = columns_by-after s e q.columns υ (mark_updates first k b) ∙ (λ i. stored_all (st q) (writes_of (st q) (h i) (mark_updates first k b)));
            writes = ap (λ (x : List Write × List ℤ). x.0) pair;
            replies = ap (λ (x : List Write × List ℤ). x.1) pair;
          }
      by false e' is' later = later e' is'

  abbrev pub with_duties : ℕ → Marking → ℕ → Chosen Term → Path → Term → Path
  with_duties j k p by q c = owing ops first j k c (marked_variables p q c (terms by q)) (branches p by) q

  abbrev pub client : Marking → Path → Term
  client k q = replace_term (replacing q.columns (term_at τ)) (marked_client k)

  -- ---- the duties of a mark that was made

  enabled : (υ : List Term) (bs : List Branch) (q : Path) (a : Env) (ws : List Write) (reply : List ℤ) → AreGround bs → variable (values_by s e υ) ≡ a → run (st q) a bs ≡ Some (ws, reply) →
      NoneHolds s e outside (formulas (map (λ (b : Branch). told q.columns υ b.guard) bs)) → ⊥
  enabled υ [] q a ws reply g h is none = absurd (cc is)
  enabled υ (b ∷ bs) q a ws reply g h is none =
      by (truth (st q) a outside b.guard) refl is (λ is'. enabled υ bs q a ws reply g.1 h is' none.1)
    where
      tells : Holds s e outside (told q.columns υ b.guard) ≡ Holds (st q) a outside b.guard
      tells = Holds-told s e q.columns υ b.guard ∙ (λ i. Holds (st q) (h i) outside b.guard)

      by : (t : Bool) → truth (st q) a outside b.guard ≡ t → (if t then Some (writes_of (st q) a b.updates, values_of (st q) a b.replies) else run (st q) a bs) ≡ Some (ws, reply) → (run (st q) a bs ≡ Some (ws, reply) → ⊥) → ⊥
      by true e' is' later = none.0 (subst (λ X. X) (sym tells) ((Decides-truth (st q) a outside b.guard g.0).0 e'))
      by false e' is' later = later is'

  -- what the operation of a mark says of its client
  abbrev IsNamed : Marking → Path → ℕ → Type 0
  IsNamed Own q x = Unit {0}
  IsNamed (Other t o) q x = st q (op_column first) (pos x) ≡ pos o
  IsNamed Note q x = Unit {0}

  mark_met : (j p : ℕ) (k : Marking) (by : Chosen Term) (q : Path) (x : ℕ) (ws : List Write) (reply : List ℤ) → value s e outside (client k q) ≡ pos x → st q (pend first) (pos x) ≡ pos 1 → IsNamed k q x →
      run (st q) (marked_env p x by q) (branches p by) ≡ Some (ws, reply) → AreMet (mark_duties ops first j k q (client k q) (marked_variables p q (client k q) (terms by q)) (branches p by))
  mark_met j p Own by q x ws reply h one named is =
      (subst (λ i. st q (pend first) i ≡ pos 1) (sym h) one, (enabled (marked_variables p q (client Own q) (terms by q)) (branches p by) q (marked_env p x by q) ws reply (branches_ground p by) (marked_env_is p x by q (client Own q) h) is, tt))
  mark_met j p (Other t o) by q x ws reply h one named is = (
    subst (λ i. st q (pend first) i ≡ pos 1) (sym h) one,
    (
      subst (λ i. st q (op_column first) i ≡ pos o) (sym h) named,
      (enabled (marked_variables p q (client (Other t o) q) (terms by q)) (branches p by) q (marked_env p x by q) ws reply (branches_ground p by) (marked_env_is p x by q (client (Other t o) q) h) is, tt),
    ),
  )
  mark_met j p Note by q x ws reply h one named is =
      (subst (λ i. st q (pend first) i ≡ pos 1) (sym h) one, (enabled (marked_variables p q (client Note q) (terms by q)) (branches p by) q (marked_env p x by q) ws reply (branches_ground p by) (marked_env_is p x by q (client Note q) h) is, tt))

  with_met : (j p : ℕ) (k : Marking) (by : Chosen Term) (q : Path) → Lawful q → AreMet (mark_duties ops first j k q (client k q) (marked_variables p q (client k q) (terms by q)) (branches p by)) → Lawful (with_duties j k p by q (client k q))
  with_met j p k by q f owed = (f.0, Every-append (λ (x : Duty). Holds s e outside x.goal) q.duties (mark_duties ops first j k q (client k q) (marked_variables p q (client k q) (terms by q)) (branches p by)) f.1 owed)

  settle_along : (P : Path → Type 0) (j p : ℕ) (k : Marking) (by : Chosen Term) (q : Path) (x : ℕ) (ws : List Write) (reply : List ℤ) (m : State) →
      ((b : Branch) → mark_updates first k b ≡ b.updates ++ (at_client (rep_columns first) b.replies ++ at_client (pend first ∷ []) (Number (pos 2) ∷ []))) →
      value s e outside (client k q) ≡ pos x → run (st q) (marked_env p x by q) (branches p by) ≡ Some (ws, reply) → m ≡ stored_all (st q) (ws ++ mark_writes first x reply) →
      Quiet k ws → st q (pend first) (pos x) ≡ pos 1 → IsNamed k q x → Lawful q → Every P (branch_paths ops first j k (marked_variables p q (client k q) (terms by q)) (branches p by) (with_duties j k p by q (client k q))) → Along P m
  settle_along P j p k by q x ws reply m upd h is m-is quiet one named f r =
      let a : Env = marked_env p x by q in
      let t = branch_along P j k (marked_variables p q (client k q) (terms by q)) (branches p by) (with_duties j k p by q (client k q)) a ws reply
      (branches_ground p by) quiet (marked_env_is p x by q (client k q) h) (with_met j p k by q f (mark_met j p k by q x ws reply h one named is)) is r in (
        t.path,
        (
          t.given,
          (
            t.facts,
            t.columns ∙ (ap (λ us. stored_all (st q) (writes_of (st q) a us)) (upd t.branch)
                ∙ (ap (stored_all (st q)) (settled_writes (st q) x a t.branch refl) ∙ ((λ i. stored_all (st q) (t.writes i ++ mark_writes first x (t.replies i))) ∙ sym m-is))),
          ),
        ),
      )

  note_along : (P : Path → Type 0) (j p : ℕ) (by : Chosen Term) (q : Path) (x : ℕ) (reply : List ℤ) (m : State) →
      value s e outside (client Note q) ≡ pos x → run (st q) (marked_env p x by q) (branches p by) ≡ Some ([], reply) → m ≡ stored_all (st q) (note_writes first x reply) →
      st q (pend first) (pos x) ≡ pos 1 → Lawful q → Every P (branch_paths ops first j Note (marked_variables p q (client Note q) (terms by q)) (branches p by) (with_duties j Note p by q (client Note q))) → Along P m
  note_along P j p by q x reply m h is m-is one f r =
      let a : Env = marked_env p x by q in
      let t = branch_along P j Note (marked_variables p q (client Note q) (terms by q)) (branches p by) (with_duties j Note p by q (client Note q)) a [] reply
      (branches_ground p by) refl (marked_env_is p x by q (client Note q) h) (with_met j p Note by q f (mark_met j p Note by q x [] reply h one tt is)) is r in (
        t.path,
        (
          t.given,
          (
            t.facts,
            t.columns ∙ (ap (stored_all (st q)) (noted_writes (st q) x a t.branch refl) ∙ ((λ i. stored_all (st q) (note_writes first x (t.replies i))) ∙ sym m-is)),
          ),
        ),
      )

  module _ (self o : ℕ) (mine : v 1 ≡ pos self) where
    pub deed_along : (P : Path → Type 0) (j : ℕ) (d : Deed) (q : Path) (ms : List Mark) (m : State) → Lawful q → IsDone ops first self o v (st q) d ms m → Every P (deed_paths ops first j o τ d q) → Along P m
    deed_along P j (Assign u) q ms m f t r =
        (_, (r.0, (f, columns_by-put s e q.columns (said q.columns τ u) ∙ (ap (λ w. stored_all (st q) (w ∷ [])) (write-said s e q.columns τ u) ∙ sym t.1))))
    deed_along P j (Marks Own by) q ms m f (ws, reply, one, is, ms-is, m-is) r =
        settle_along P j o Own by q self ws reply m (λ b. refl) (value-said s e q.columns τ (Variable 1) ∙ mine) (run_chosen o self by q _ is) m-is tt one tt f r
    deed_along P j (Marks (Other t x) by) q ms m f (c, c-is, op-is, (ws, reply, one, is, ms-is, m-is)) r =
        settle_along P j x (Other t x) by q c ws reply m (λ b. refl) (value-said s e q.columns τ t ∙ c-is) (run_chosen x c by q _ is) m-is tt one op-is f r
    deed_along P j (Marks Note by) q ms m f (reply, one, is, ms-is, m-is) r =
        note_along P j o by q self reply m (value-said s e q.columns τ (Variable 1) ∙ mine) (run_chosen o self by q _ is) m-is one f r

    way_along : (P : Path → Type 0) (j : ℕ) (c : Option Formula) (d : Deed) (q : Path) (ms : List Mark) (m : State) → Lawful q → IsDoneWhere ops first c self o v (st q) d ms m → Every P (deed_paths_where ops first c j o τ d q) → Along P m
    way_along P j None d q ms m f t r = deed_along P j d q ms m f t r
    way_along P j (Some g) d q ms m f (inl t) r =
        deed_along P j d (with_fact q (told q.columns τ g)) ms m (one_more q.facts (told q.columns τ g) f.0 (subst (λ X. X) (sym (Holds-told s e q.columns τ g)) t.0), f.1) t.1
        (Every_left P (deed_paths ops first j o τ d (with_fact q (told q.columns τ g))) _ r)
    way_along P j (Some g) d q ms m f (inr t) r = (
      _,
      (
        (Every_right P (deed_paths ops first j o τ d (with_fact q (told q.columns τ g))) _ r).0,
        ((one_more q.facts (Not (told q.columns τ g)) f.0 (λ x. t.0 (subst (λ X. X) (Holds-told s e q.columns τ g) x)), f.1), sym t.2),
      ),
    )

    pub along : (P : Path → Type 0) (j : ℕ) (rs : List Rider) (q : Path) (ms : List Mark) (m : State) → Lawful q → RideAll ops first self o v (st q) rs ms m → Every P (paths ops first j o τ rs q) → Along P m
    along P j [] q ms m f t r = (q, (r.0, (f, sym t.1)))
    along P j (x ∷ rs) q ms m f (mid, now, later, t, rest, is) r =
        let go = way_along (λ y. Every P (paths ops first (suc j) o τ rs y)) j x.condition x.deed q now mid f t (Every-concat P (paths ops first (suc j) o τ rs) (rider_paths ops first j o τ x q) r) in
        along P (suc j) rs go.0 later m go.1.1.0 (subst (λ k. RideAll ops first self o v k rs later m) (sym go.1.1.1) rest) go.1.0
