-- If the facts of a path hold and its duties are met, the riders can be done, and leave its columns.
use Rattle.std.proofs.Common.{◌≡◌, ℕ, suc, ◌⊎◌, Bool, true, false, true≢false, List, [], ◌∷◌, ◌++◌, ℤ, pos, Option, Some, None, refl, sym, ap, ◌∙◌, subst, inl, inr, arith}
use Rattle.std.specs.Ordering.{int_eq}
use Rattle.std.proofs.lemmas.Bool.Decides.{Decides-int_eq}
use Rattle.std.proofs.lemmas.Int.{ints}
use Rattle.lc_term.specs.Updates.{variable, Update, Write, stored_all, write_of, writes_of, values_of, cell_writes}
use Rattle.lc_term.specs.Syntax.{Term, Variable, Number, Formula, Not}
use Rattle.lc_term.specs.Meaning.{State, Env, outside, value, Holds}
use Rattle.lc_term.specs.Truth.{truth}
use Rattle.lc_term.specs.Lists.{Every, IsIn, concat_map}
use Rattle.lc_term.specs.Said.{told, said, at_client}
use Rattle.lc_term.specs.SystemColumns.{pend, op_column, rep_columns, noted, note_columns}
use Rattle.lc_term.proofs.Truth.{Decides-truth}
use Rattle.lc_term.proofs.Stores.{Every-append, Every-map, Every_left, Every_right, if_true, if_false, stored-append, writes_other, writes_away, cell_indexes}
use Rattle.lc_term.proofs.Symbolic.{values_by, columns_by-put, columns_by-after, write-said, value-said, Holds-told, each_left, each_right}
use Rattle.lc_seq.specs.Branches.{op_branches}
use Rattle.lc_seq.specs.Sequential.{Chosen, Choice}
use Rattle.lc_seq.specs.Specification.{Branch, Operation}
use Rattle.lc_seq.specs.TextStep.{run}
use Rattle.lc_rider.specs.Rider.{Mark, Marking, Own, Other, Note, Deed, Assign, Marks, Rider, IsSettled, IsNoted, IsDone, IsDoneWhere, RideAll, mark_writes, note_writes}
use Rattle.lc_rider.specs.Paths.{Path, Duty, observing_duty, is_empty, with_fact, mark_updates, marked_op, mark_duties, branch_paths, deed_paths, deed_paths_where, rider_paths, paths}
use Rattle.lc_rider.specs.PathLaws.{AreGround, OnlyClients, LeavesCalls, DeedLeavesCalls, PathsAreTaken}
use Rattle.lc_seq.proofs.Choosing.{chosen-map, chosen-every}
use Rattle.lc_rider.proofs.Riding.{v, st, Facts, Lawful, terms, marked_variables, choice, branches, branches_ground, marked_env, marked_env_is, client, with_duties, settled_writes, noted_writes}

-- ---- lists

pub IsIn-append : {A : Type 0} (x : A) (xs ys : List A) → IsIn x (xs ++ ys) → IsIn x xs ⊎ IsIn x ys
IsIn-append x [] ys h = inr h
IsIn-append x (z ∷ xs) ys (inl e) = inl (inl e)
IsIn-append x (z ∷ xs) ys (inr h) = elim (IsIn-append x xs ys h) [ inl a ↦ inl (inr a) | inr b ↦ inr b ]

IsIn-concat : {A B : Type 0} (f : A → List B) (y : B) (xs : List A) → IsIn y (concat_map f xs) → (x : A) × (IsIn x xs × IsIn y (f x))
IsIn-concat f y [] h = absurd h
IsIn-concat f y (x ∷ xs) h = elim (IsIn-append y (f x) (concat_map f xs) h) [
  | inl a ↦ (x, (inl refl, a))
  | inr b ↦ let r = IsIn-concat f y xs b in (r.0, (inr r.1.0, r.1.1))
]

Every-in : {A : Type 0} (P : A → Type 0) (xs : List A) (x : A) → Every P xs → IsIn x xs → P x
Every-in P [] x p h = absurd h
Every-in P (y ∷ xs) x p (inl e) = subst P (sym e) p.0
Every-in P (y ∷ xs) x p (inr h) = Every-in P xs x p.1 h

-- ---- only clients are in calls

-- these writes are at one client; these leave who is in a call
abbrev AreAt : ℕ → List Write → Type 0
AreAt c ws = Every (λ (w : Write). w.index ≡ pos c) ws

abbrev Leave : ℕ → List Write → Type 0
Leave column ws = Every (λ (w : Write). w.column ≡ column → ⊥) ws

at_other : (x : ℕ) (i : ℤ) (ws : List Write) → (pos x ≡ i → ⊥) → AreAt x ws → Every (λ (w : Write). w.index ≡ i → ⊥) ws
at_other x i [] ne h = tt
at_other x i (w ∷ ws) ne h = ((λ e. ne (sym h.0 ∙ e)), at_other x i ws ne h.1)

only_after : (first x : ℕ) (m : State) (ws sys : List Write) → OnlyClients first m → Leave (pend first) ws → AreAt x sys → OnlyClients first (stored_all m (ws ++ sys))
only_after first x m ws sys only leave at i = by (int_eq (pos x) i) refl
  where
    by : (b : Bool) → int_eq (pos x) i ≡ b → (stored_all m (ws ++ sys) (pend first) i ≡ pos 0) ⊎ ((c : ℕ) × (i ≡ pos c))
    by true e = inr (x, sym ((Decides-int_eq (pos x) i).0 e))
    by false e =
        let ne : pos x ≡ i → ⊥ = λ same. true≢false (sym ((Decides-int_eq (pos x) i).1 same) ∙ e) in
        let kept : stored_all m (ws ++ sys) (pend first) i ≡ m (pend first) i =
        (λ k. stored-append m ws sys k (pend first) i) ∙ (writes_away (stored_all m ws) sys (pend first) i (at_other x i sys ne at) ∙ (λ k. writes_other m ws (pend first) leave k i)) in
        subst (λ z. (z ≡ pos 0) ⊎ ((c : ℕ) × (i ≡ pos c))) (sym kept) (only i)

writes_leave : (first : ℕ) (m : State) (a : Env) (us : List Update) → LeavesCalls first us → Leave (pend first) (writes_of m a us)
writes_leave first m a [] h = tt
writes_leave first m a (u ∷ us) h = (h.0, writes_leave first m a us h.1)

mark_at : (first x : ℕ) (reply : List ℤ) → AreAt x (mark_writes first x reply)
mark_at first x reply =
    Every-append (λ (w : Write). w.index ≡ pos x) (cell_writes (rep_columns first) (pos x) reply) (cell_writes (pend first ∷ []) (pos x) (pos 2 ∷ []))
    (cell_indexes (λ i. i ≡ pos x) (rep_columns first) (pos x) reply refl) (cell_indexes (λ i. i ≡ pos x) (pend first ∷ []) (pos x) (pos 2 ∷ []) refl)

note_at : (first x : ℕ) (reply : List ℤ) → AreAt x (note_writes first x reply)
note_at first x reply = cell_indexes (λ i. i ≡ pos x) (noted first ∷ note_columns first) (pos x) (pos 1 ∷ reply) refl

-- ---- a path that is lawful

module _ (ops : List Operation) (first : ℕ) (grounds : (p : ℕ) → AreGround (op_branches ops p)) (s : State) (e : Env) (τ : List Term) where
  abbrev S : Path → State
  S p = st ops first grounds s e τ p

  abbrev F : Path → Type 0
  F p = Facts ops first grounds s e τ p

  abbrev L : Path → Type 0
  L p = Lawful ops first grounds s e τ p

  abbrev Met : Duty → Type 0
  Met d = Holds s e outside d.goal

  abbrev V : Env
  V = v ops first grounds s e τ

  -- the variables of a branch, for a choice
  abbrev U : ℕ → Chosen Term → Path → Term → List Term
  U p by q c = marked_variables ops first grounds s e τ p q c (terms ops first grounds s e τ by q)

  -- the numbers of a choice, and the branches that it leaves
  abbrev H : Chosen Term → Path → Choice
  H by q = choice ops first grounds s e τ by q

  abbrev Bs : ℕ → Chosen Term → List Branch
  Bs p by = branches ops first grounds s e τ p by

  abbrev E : ℕ → ℕ → Chosen Term → Path → Env
  E p x by q = marked_env ops first grounds s e τ p x by q

  abbrev C : Marking → Path → Term
  C k q = client ops first grounds s e τ k q

  abbrev W : ℕ → Marking → ℕ → Chosen Term → Path → Term → Path
  W j k p by q c = with_duties ops first grounds s e τ j k p by q c

  -- what is lawful on these is lawful on p
  abbrev Behind : Path → List Path → Type 0
  Behind p qs = Every (λ (q : Path). L q → L p) qs

  less_facts : (p : Path) (f : Formula) → L (with_fact p f) → L p
  less_facts p f h = (each_left s e p.facts (f ∷ []) h.0, h.1)

  branches_behind : (j : ℕ) (k : Marking) (υ : List Term) (bs : List Branch) (p : Path) → Behind p (branch_paths ops first j k υ bs p)
  branches_behind j k υ [] p = tt
  branches_behind j k υ (b ∷ bs) p =
      let g = told p.columns υ b.guard in (
        (λ h. (each_left s e p.facts (g ∷ []) h.0, Every_left Met p.duties (observing_duty ops first j k (p.facts ++ g ∷ []) b) h.1)),
        Every-map (λ (x : Path). L x → L (with_fact p (Not g))) (λ (x : Path). L x → L p) (branch_paths ops first j k υ bs (with_fact p (Not g)))
            (λ x f a. less_facts p (Not g) (f a)) (branches_behind j k υ bs (with_fact p (Not g))),
      )

  owing_behind : (j : ℕ) (k : Marking) (o : ℕ) (by : Chosen Term) (q : Path) (c : Term) → L (W j k o by q c) → L q
  owing_behind j k o by q c h = (h.0, Every_left Met q.duties (mark_duties ops first j k q c (U o by q c) (Bs o by)) h.1)

  mark_behind : (j o : ℕ) (k : Marking) (by : Chosen Term) (q : Path) → Behind q (branch_paths ops first j k (U (marked_op o k) by q (C k q)) (Bs (marked_op o k) by) (W j k (marked_op o k) by q (C k q)))
  mark_behind j o k by q =
      let υ = U (marked_op o k) by q (C k q) in
      let bs = Bs (marked_op o k) by in
      let w = W j k (marked_op o k) by q (C k q) in
      Every-map (λ (x : Path). L x → L w) (λ (x : Path). L x → L q) (branch_paths ops first j k υ bs w)
      (λ x f a. owing_behind j k (marked_op o k) by q (C k q) (f a)) (branches_behind j k υ bs w)

  deed_behind : (j o : ℕ) (d : Deed) (q : Path) → Behind q (deed_paths ops first j o τ d q)
  deed_behind j o (Assign u) q = ((λ h. h), tt)
  deed_behind j o (Marks k by) q = mark_behind j o k by q

  way_behind : (c : Option Formula) (j o : ℕ) (d : Deed) (q : Path) → Behind q (deed_paths_where ops first c j o τ d q)
  way_behind None j o d q = deed_behind j o d q
  way_behind (Some f) j o d q =
      let g = told q.columns τ f in
      Every-append (λ (x : Path). L x → L q) (deed_paths ops first j o τ d (with_fact q g)) (with_fact q (Not g) ∷ [])
      (Every-map (λ (x : Path). L x → L (with_fact q g)) (λ (x : Path). L x → L q) (deed_paths ops first j o τ d (with_fact q g)) (λ x h a. less_facts q g (h a)) (deed_behind j o d (with_fact q g)))
      ((λ h. less_facts q (Not g) h), tt)

  concat_behind : (f : Path → List Path) (p : Path) (ps : List Path) → ((x : Path) → Behind x (f x)) → Behind p ps → Behind p (concat_map f ps)
  concat_behind f p [] behind h = tt
  concat_behind f p (q ∷ qs) behind h =
      Every-append (λ (x : Path). L x → L p) (f q) (concat_map f qs) (Every-map (λ (x : Path). L x → L q) (λ (x : Path). L x → L p) (f q) (λ x g a. h.0 (g a)) (behind q)) (concat_behind f p qs behind h.1)

  paths_behind : (j o : ℕ) (rs : List Rider) (q : Path) → Behind q (paths ops first j o τ rs q)
  paths_behind j o [] q = ((λ h. h), tt)
  paths_behind j o (r ∷ rs) q =
      concat_behind (paths ops first (suc j) o τ rs) q (rider_paths ops first j o τ r q) (λ x. paths_behind (suc j) o rs x) (way_behind r.condition j o r.deed q)

  -- ---- the branch of a path

  abbrev IsObserving : Marking → Branch → Type 0
  IsObserving Own b = Unit {0}
  IsObserving (Other t o) b = Unit {0}
  IsObserving Note b = b.updates ≡ []

  no_updates : (us : List Update) → Holds s e outside (is_empty us) → us ≡ []
  no_updates [] h = refl
  no_updates (u ∷ us) h = absurd (h tt)

  observes : (j : ℕ) (k : Marking) (fs : List Formula) (b : Branch) → Every Met (observing_duty ops first j k fs b) → IsObserving k b
  observes j Own fs b h = tt
  observes j (Other t o) fs b h = tt
  observes j Note fs b h = no_updates b.updates h.0

  record IsTaken (k : Marking) (m : State) (a : Env) (bs : List Branch) (y : Path) : Type 0 where
    branch : Branch
    among : IsIn branch bs
    runs : run m a bs ≡ Some (writes_of m a branch.updates, values_of m a branch.replies)
    columns : S y ≡ stored_all m (writes_of m a (mark_updates first k branch))
    observing : IsObserving k branch

  taking : (j : ℕ) (k : Marking) (υ : List Term) (bs : List Branch) (q y : Path) (a : Env) → AreGround bs → variable (values_by s e υ) ≡ a → L y → IsIn y (branch_paths ops first j k υ bs q) → IsTaken k (S q) a bs y
  taking j k υ [] q y a g h lawful among = absurd among
  taking j k υ (b ∷ bs) q y a g h lawful among =
      by among (λ later. taking j k υ bs (with_fact q (Not (told q.columns υ b.guard))) y a g.1 h lawful later)
    where
      guard : Formula
      guard = told q.columns υ b.guard

      tells : Holds s e outside guard ≡ Holds (S q) a outside b.guard
      tells = Holds-told s e q.columns υ b.guard ∙ (λ i. Holds (S q) (h i) outside b.guard)

      d : (truth (S q) a outside b.guard ≡ true → Holds (S q) a outside b.guard) × (Holds (S q) a outside b.guard → truth (S q) a outside b.guard ≡ true)
      d = Decides-truth (S q) a outside b.guard g.0

      here : Path
      here = record {
        columns = Rattle.lc_term.specs.Said.after q.columns υ (mark_updates first k b);
        facts = q.facts ++ guard ∷ [];
        duties = q.duties ++ observing_duty ops first j k (q.facts ++ guard ∷ []) b;
      }

      is_true : Holds s e outside guard → truth (S q) a outside b.guard ≡ true
      is_true x = d.1 (subst (λ X. X) tells x)

      is_false : (t : Bool) → truth (S q) a outside b.guard ≡ t → (Holds s e outside guard → ⊥) → truth (S q) a outside b.guard ≡ false
      is_false true z never = absurd (never (subst (λ X. X) (sym tells) (d.0 z)))
      is_false false z never = z

      by : (y ≡ here) ⊎ IsIn y (branch_paths ops first j k υ bs (with_fact q (Not guard))) →
          (IsIn y (branch_paths ops first j k υ bs (with_fact q (Not guard))) → IsTaken k (S q) a bs y) → IsTaken k (S q) a (b ∷ bs) y
      by (inl is) go =
          let l : L here = subst L is lawful in
          record {
            branch = b;
            among = inl refl;
            runs = if_true (truth (S q) a outside b.guard) _ (run (S q) a bs) (is_true (each_right s e q.facts (guard ∷ []) l.0).0);
            columns = ap S is ∙ (columns_by-after s e q.columns υ (mark_updates first k b) ∙ (λ i. stored_all (S q) (writes_of (S q) (h i) (mark_updates first k b))));
            observing = observes j k (q.facts ++ guard ∷ []) b (Every_right Met q.duties _ l.1);
          }
      by (inr later) go =
          let x = go later in
          let behind : L (with_fact q (Not guard)) = Every-in (λ (z : Path). L z → L (with_fact q (Not guard))) (branch_paths ops first j k υ bs (with_fact q (Not guard))) y (branches_behind j k υ bs (with_fact q (Not guard))) later lawful in
          record {
            branch = x.branch;
            among = inr x.among;
            runs = if_false (truth (S q) a outside b.guard) _ (run (S q) a bs) (is_false (truth (S q) a outside b.guard) refl (each_right s e q.facts (Not guard ∷ []) behind.0).0) ∙ x.runs;
            columns = x.columns;
            observing = x.observing;
          }

  -- ---- a mark on a path

  -- a rider can be done so that it leaves this path's columns, and only clients are in calls after it
  record Ridden (y : Path) (Is : List Mark → State → Type 0) : Type 0 where
    marks : List Mark
    is : Is marks (S y)
    only : OnlyClients first (S y)

  module _ (leave : (p : ℕ) → Every (λ (b : Branch). LeavesCalls first b.updates) (op_branches ops p)) where
    settle : (j p x : ℕ) (k : Marking) (by : Chosen Term) (q y : Path) →
        ((b : Branch) → mark_updates first k b ≡ b.updates ++ (at_client (rep_columns first) b.replies ++ at_client (pend first ∷ []) (Number (pos 2) ∷ []))) →
        value s e outside (C k q) ≡ pos x → L y → OnlyClients first (S q) → S q (pend first) (value s e outside (C k q)) ≡ pos 1 →
        IsIn y (branch_paths ops first j k (U p by q (C k q)) (Bs p by) (W j k p by q (C k q))) → Ridden y (λ ms m. IsSettled ops first (S q) x p (H by q) ms m)
    settle j p x k by q y upd is lawful only one among =
        let a : Env = E p x by q in
        let back = ap (run (S q) a) (chosen-map (value (S q) V outside) by (op_branches ops p)) in
        let t = taking j k (U p by q (C k q)) (Bs p by) (W j k p by q (C k q)) y a (branches_ground ops first grounds s e τ p by) (marked_env_is ops first grounds s e τ p x by q (C k q) is) lawful among in
        let ws : List Write = writes_of (S q) a (t.branch).updates in
        let reply : List ℤ = values_of (S q) a (t.branch).replies in
        let here : S y ≡ stored_all (S q) (ws ++ mark_writes first x reply) =
        t.columns ∙ (ap (λ us. stored_all (S q) (writes_of (S q) a us)) (upd t.branch) ∙ ap (stored_all (S q)) (settled_writes ops first grounds s e τ (S q) x a t.branch refl)) in
        record {
          marks = record { client = x; note = false; choice = H by q; reply = reply } ∷ [];
          is = (ws, reply, subst (λ i. S q (pend first) i ≡ pos 1) is one, back ∙ t.runs, refl, here);
          only = subst (OnlyClients first) (sym here)
              (only_after first x (S q) ws (mark_writes first x reply) only (writes_leave first (S q) a (t.branch).updates (Every-in (λ (b : Branch). LeavesCalls first b.updates) (Bs p by) t.branch (chosen-every (λ (b : Branch). LeavesCalls first b.updates) by (op_branches ops p) (leave p)) t.among)) (mark_at first x reply));
        }

    note : (j p x : ℕ) (by : Chosen Term) (q y : Path) → value s e outside (C Note q) ≡ pos x → L y → OnlyClients first (S q) → S q (pend first) (value s e outside (C Note q)) ≡ pos 1 →
        IsIn y (branch_paths ops first j Note (U p by q (C Note q)) (Bs p by) (W j Note p by q (C Note q))) → Ridden y (λ ms m. IsNoted ops first (S q) x p (H by q) ms m)
    note j p x by q y is lawful only one among =
        let a : Env = E p x by q in
        let back = ap (run (S q) a) (chosen-map (value (S q) V outside) by (op_branches ops p)) in
        let t = taking j Note (U p by q (C Note q)) (Bs p by) (W j Note p by q (C Note q)) y a (branches_ground ops first grounds s e τ p by) (marked_env_is ops first grounds s e τ p x by q (C Note q) is) lawful among in
        let reply : List ℤ = values_of (S q) a (t.branch).replies in
        let here : S y ≡ stored_all (S q) (note_writes first x reply) = t.columns ∙ ap (stored_all (S q)) (noted_writes ops first grounds s e τ (S q) x a t.branch refl) in
        record {
          marks = record { client = x; note = true; choice = H by q; reply = reply } ∷ [];
          is = (reply, subst (λ i. S q (pend first) i ≡ pos 1) is one, back ∙ (t.runs ∙ ap (λ us. Some (writes_of (S q) a us, reply)) t.observing), refl, here);
          only = subst (OnlyClients first) (sym here) (only_after first x (S q) [] (note_writes first x reply) only tt (note_at first x reply));
        }

    -- the duties of a mark, if a path after it is lawful
    owed : (j o : ℕ) (k : Marking) (by : Chosen Term) (q y : Path) → L y → IsIn y (branch_paths ops first j k (U (marked_op o k) by q (C k q)) (Bs (marked_op o k) by) (W j k (marked_op o k) by q (C k q))) →
        Every Met (mark_duties ops first j k q (C k q) (U (marked_op o k) by q (C k q)) (Bs (marked_op o k) by))
    owed j o k by q y lawful among =
        let w = W j k (marked_op o k) by q (C k q) in
        let υ = U (marked_op o k) by q (C k q) in
        let bs = Bs (marked_op o k) by in
        let l : L w = Every-in (λ (z : Path). L z → L w) (branch_paths ops first j k υ bs w) y (branches_behind j k υ bs w) among lawful in
        Every_right Met q.duties (mark_duties ops first j k q (C k q) υ bs) l.1

    module _ (self o : ℕ) (mine : V 1 ≡ pos self) where
      other : (j p : ℕ) (t : Term) (by : Chosen Term) (q y : Path) → L y → OnlyClients first (S q) →
          IsIn y (branch_paths ops first j (Other t p) (U p by q (C (Other t p) q)) (Bs p by) (W j (Other t p) p by q (C (Other t p) q))) →
          Ridden y (λ ms m. IsDone ops first self o V (S q) (Marks (Other t p) by) ms m)
      other j p t by q y lawful only among = go (only (value s e outside (C (Other t p) q)))
        where
          duties : Every Met (mark_duties ops first j (Other t p) q (C (Other t p) q) (U p by q (C (Other t p) q)) (Bs p by))
          duties = owed j o (Other t p) by q y lawful among

          told-value : value s e outside (C (Other t p) q) ≡ value (S q) V outside t
          told-value = value-said s e q.columns τ t

          go : (S q (pend first) (value s e outside (C (Other t p) q)) ≡ pos 0) ⊎ ((x : ℕ) × (value s e outside (C (Other t p) q) ≡ pos x)) →
              Ridden y (λ ms m. IsDone ops first self o V (S q) (Marks (Other t p) by) ms m)
          go (inl z) = let one : S q (pend first) (value s e outside (C (Other t p) q)) ≡ pos 1 = duties.0 in absurd (omega (arith, ints, z, one))
          go (inr (x, is)) =
              let r = settle j p x (Other t p) by q y (λ b. refl) is lawful only duties.0 among in
              record {
                marks = r.marks;
                is = (x, sym told-value ∙ is, subst (λ i. S q (op_column first) i ≡ pos p) is duties.1.0, r.is);
                only = r.only;
              }

      ride_deed : (j : ℕ) (d : Deed) (q y : Path) → DeedLeavesCalls first d → L y → OnlyClients first (S q) → IsIn y (deed_paths ops first j o τ d q) → Ridden y (λ ms m. IsDone ops first self o V (S q) d ms m)
      ride_deed j (Assign u) q y h lawful only (inl is) =
          let here : S y ≡ stored_all (S q) (write_of (S q) V u ∷ []) = ap S is ∙ (columns_by-put s e q.columns (said q.columns τ u) ∙ ap (λ w. stored_all (S q) (w ∷ [])) (write-said s e q.columns τ u)) in
          record {
            marks = [];
            is = (refl, here);
            only = λ i. subst (λ z. (z ≡ pos 0) ⊎ ((c : ℕ) × (i ≡ pos c))) (sym ((λ k. here k (pend first) i) ∙ (λ k. writes_other (S q) (write_of (S q) V u ∷ []) (pend first) (h.0, tt) k i))) (only i);
          }
      ride_deed j (Assign u) q y h lawful only (inr none) = absurd none
      ride_deed j (Marks Own by) q y h lawful only among =
          settle j o self Own by q y (λ b. refl) (value-said s e q.columns τ (Variable 1) ∙ mine) lawful only (owed j o Own by q y lawful among).0 among
      ride_deed j (Marks (Other t p) by) q y h lawful only among = other j p t by q y lawful only among
      ride_deed j (Marks Note by) q y h lawful only among =
          note j o self by q y (value-said s e q.columns τ (Variable 1) ∙ mine) lawful only (owed j o Note by q y lawful among).0 among

      ride_way : (j : ℕ) (c : Option Formula) (d : Deed) (q y : Path) → DeedLeavesCalls first d → L y → OnlyClients first (S q) → IsIn y (deed_paths_where ops first c j o τ d q) →
          Ridden y (λ ms m. IsDoneWhere ops first c self o V (S q) d ms m)
      ride_way j None d q y h lawful only among = ride_deed j d q y h lawful only among
      ride_way j (Some f) d q y h lawful only among = by (IsIn-append y (deed_paths ops first j o τ d (with_fact q g)) (with_fact q (Not g) ∷ []) among)
        where
          g : Formula
          g = told q.columns τ f

          by : IsIn y (deed_paths ops first j o τ d (with_fact q g)) ⊎ IsIn y (with_fact q (Not g) ∷ []) → Ridden y (λ ms m. IsDoneWhere ops first (Some f) self o V (S q) d ms m)
          by (inl acting) =
              let r = ride_deed j d (with_fact q g) y h lawful only acting in
              let l : L (with_fact q g) = Every-in (λ (z : Path). L z → L (with_fact q g)) (deed_paths ops first j o τ d (with_fact q g)) y (deed_behind j o d (with_fact q g)) acting lawful in
              record { marks = r.marks; is = inl (subst (λ X. X) (Holds-told s e q.columns τ f) (each_right s e q.facts (g ∷ []) l.0).0, r.is); only = r.only }
          by (inr (inl is)) =
              let l : L (with_fact q (Not g)) = subst L is lawful in
              record {
                marks = [];
                is = inr ((λ x. (each_right s e q.facts (Not g ∷ []) l.0).0 (subst (λ X. X) (sym (Holds-told s e q.columns τ f)) x)), refl, ap S is);
                only = subst (λ z. OnlyClients first (S z)) (sym is) only;
              }
          by (inr (inr none)) = absurd none

      ride : (j : ℕ) (rs : List Rider) (q y : Path) → Every (λ (r : Rider). DeedLeavesCalls first r.deed) rs → L y → OnlyClients first (S q) → IsIn y (paths ops first j o τ rs q) →
          (ms : List Mark) × RideAll ops first self o V (S q) rs ms (S y)
      ride j [] q y h lawful only (inl is) = ([], (refl, ap S is))
      ride j [] q y h lawful only (inr none) = absurd none
      ride j (r ∷ rs) q y h lawful only among =
          let at = IsIn-concat (paths ops first (suc j) o τ rs) y (rider_paths ops first j o τ r q) among in
          let l : L at.0 = Every-in (λ (z : Path). L z → L at.0) (paths ops first (suc j) o τ rs at.0) y (paths_behind (suc j) o rs at.0) at.1.1 lawful in
          let one = ride_way j r.condition r.deed q at.0 h.0 l only at.1.0 in
          let rest = ride (suc j) rs at.0 y h.1 lawful one.only at.1.1 in
          (one.marks ++ rest.0, (S at.0, one.marks, rest.0, one.is, rest.1, refl))

pub paths_are_taken : PathsAreTaken
paths_are_taken ops first n self o τ rs q s e p grounds leave own mine only among facts met =
    ride ops first grounds s e τ leave self o mine n rs q p own (facts, met) only among
