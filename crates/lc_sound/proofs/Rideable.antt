-- If what each path owes is met, the riders can be done.
use Rattle.std.proofs.Common.{◌≡◌, ℕ, suc, ◌+◌, ◌<◌, ◌≤◌, ◌⊎◌, Bool, true, false, true≢false, List, [], ◌∷◌, ◌++◌, ℤ, pos, Option, Some, None, map, length, refl, sym, ap, ◌∙◌, subst, inl, inr, arith}
use Rattle.std.specs.Ordering.{int_eq}
use Rattle.std.proofs.lemmas.Bool.Decides.{Decides-int_eq}
use Rattle.std.proofs.lemmas.Int.{ints}
use Rattle.lc_term.specs.Updates.{variable, Update, Write, stored_all, write_of, writes_of, values_of}
use Rattle.lc_term.specs.Syntax.{Term, Variable, Formula, Not, formulas}
use Rattle.lc_term.specs.Meaning.{State, Env, outside, value, Holds, NoneHolds, EachHolds}
use Rattle.lc_term.specs.Truth.{truth}
use Rattle.lc_term.proofs.Truth.{Decides-truth}
use Rattle.lc_seq.specs.Sequential.{Chosen, Choice, given_in}
use Rattle.lc_seq.specs.Specification.{Branch, Operation}
use Rattle.lc_seq.proofs.Choosing.{chosen-map}
use Rattle.lc_seq.specs.TextStep.{run}
use Rattle.lc_term.specs.Lists.{Every}
use Rattle.lc_seq.specs.Branches.{op_branches, arity, op_replies}
use Rattle.lc_term.specs.Said.{told, said, at_client}
use Rattle.lc_term.specs.SystemColumns.{pend, op_column, rep_columns}
use Rattle.lc_rider.specs.Rider.{Mark, Marking, Own, Other, Note, Deed, Assign, Marks, Rider, IsDone, IsDoneWhere, RideAll, mark_writes, note_writes}
use Rattle.lc_outline.specs.Development.{Development, first_system}
use Rattle.lc_rider.specs.Paths.{Path, Duty, with_fact, mark_updates, marked_op, observing_duty, named_duty, mark_duties, branch_paths, deed_paths, deed_paths_where, rider_paths, paths, is_empty}
use Rattle.lc_term.specs.Syntax.{Number}
use Rattle.lc_outline.specs.Resolved.{IsNonempty, IsResolved, IsRiderResolved, IsDeedResolved, IsConditionResolved}
use Rattle.lc_term.proofs.Stores.{Every_left, Every_right, if_true, if_false, stored-append, writes_other, writes_away}
use Rattle.lc_seq.proofs.Abstract.{run_is}
use Rattle.lc_outline.proofs.Matched.{op_branches_ground, branches_resolved, replies_resolved}
use Rattle.lc_sound.proofs.RowChanges.{AreAt, AreFirst, mark_at, note_at, not_first}
use Rattle.lc_term.proofs.Symbolic.{values_by, columns_by-put, columns_by-after, write-said, value-said, Holds-told}
use Rattle.lc_rider.proofs.Riding.{Every-concat, v, st, Facts, terms, marked_variables, choice, branches, branches_ground, marked_env, marked_env_is, one_more, client, with_duties, settled_writes, noted_writes}
use Rattle.lc_rider.specs.PathLaws.{AreGround}

-- only clients below n are in calls
abbrev pub Only : ℕ → ℕ → State → Type 0
Only column n m = (i : ℤ) → (m column i ≡ pos 0) ⊎ ((c : ℕ) × (c < n) × (i ≡ pos c))

pub at_other : (x : ℕ) (i : ℤ) (ws : List Write) → (pos x ≡ i → ⊥) → AreAt x ws → Every (λ (w : Write). w.index ≡ i → ⊥) ws
at_other x i [] ne h = tt
at_other x i (w ∷ ws) ne h = ((λ e. ne (sym h.0 ∙ e)), at_other x i ws ne h.1)

pub only_after : (column n few x : ℕ) (m : State) (ws sys : List Write) → few ≤ column → Only column n m → m column (pos x) ≡ pos 1 → AreFirst few ws → AreAt x sys → Only column n (stored_all m (ws ++ sys))
only_after column n few x m ws sys le only one fi at i = by (int_eq (pos x) i) refl
  where
    by : (b : Bool) → int_eq (pos x) i ≡ b → (stored_all m (ws ++ sys) column i ≡ pos 0) ⊎ ((c : ℕ) × (c < n) × (i ≡ pos c))
    by true e =
        let same : pos x ≡ i = (Decides-int_eq (pos x) i).0 e in
        elim (only (pos x)) [ inl z ↦ absurd (omega (arith, ints, z, one)) | inr c ↦ inr (c.0, c.1, sym same ∙ c.2) ]
    by false e =
        let ne : pos x ≡ i → ⊥ = λ same. true≢false (sym ((Decides-int_eq (pos x) i).1 same) ∙ e) in
        let kept : stored_all m (ws ++ sys) column i ≡ m column i =
        (λ k. stored-append m ws sys k column i) ∙ (writes_away (stored_all m ws) sys column i (at_other x i sys ne at) ∙ (λ k. writes_other m ws column (not_first few column ws le fi) k i)) in
        subst (λ z. (z ≡ pos 0) ⊎ ((c : ℕ) × (c < n) × (i ≡ pos c))) (sym kept) (only i)

module _ (D : Development) (R : IsResolved D) (s : State) (e : Env) (τ : List Term) (n : ℕ) where
  abbrev S : Path → State
  S p = st D.specification.operations (first_system D) (op_branches_ground D R) s e τ p

  abbrev F : Path → Type 0
  F p = Facts D.specification.operations (first_system D) (op_branches_ground D R) s e τ p

  abbrev ops' : List Operation
  ops' = D.specification.operations

  abbrev first' : ℕ
  first' = first_system D

  -- the variables of a branch, for a choice
  abbrev U : ℕ → Chosen Term → Path → Term → List Term
  U p by q c = marked_variables D.specification.operations (first_system D) (op_branches_ground D R) s e τ p q c (terms D.specification.operations (first_system D) (op_branches_ground D R) s e τ by q)

  -- the numbers of a choice, and the branches that it leaves
  abbrev H : Chosen Term → Path → Choice
  H by q = choice D.specification.operations (first_system D) (op_branches_ground D R) s e τ by q

  abbrev Bs : ℕ → Chosen Term → List Branch
  Bs p by = branches D.specification.operations (first_system D) (op_branches_ground D R) s e τ p by

  abbrev E : ℕ → ℕ → Chosen Term → Path → Env
  E p x by q = marked_env D.specification.operations (first_system D) (op_branches_ground D R) s e τ p x by q

  abbrev W : ℕ → Marking → ℕ → Chosen Term → Path → Term → Path
  W j k p by q c = with_duties D.specification.operations (first_system D) (op_branches_ground D R) s e τ j k p by q c

  abbrev pub Met : Duty → Type 0
  Met d = EachHolds s e d.facts → Holds s e outside d.goal

  abbrev pub AllMet : Path → Type 0
  AllMet q = Every Met q.duties

  -- ---- the duties so far are among those of the paths that go on

  some_branch : (P : Path → Type 0) (j : ℕ) (k : Marking) (υ : List Term) (bs : List Branch) (q : Path) → IsNonempty bs → Every P (branch_paths ops' first' j k υ bs q) → (x : Path) × (P x × (AllMet x → AllMet q))
  some_branch P j k υ [] q h r = absurd h
  some_branch P j k υ (b ∷ bs) q h r = (_, (r.0, Every_left Met q.duties _))

  some_deed : (P : Path → Type 0) (j o : ℕ) (d : Deed) (q : Path) → IsDeedResolved D o d → Every P (deed_paths ops' first' j o τ d q) → (x : Path) × (P x × (AllMet x → AllMet q))
  some_deed P j o (Assign u) q h r = (_, (r.0, λ x. x))
  some_deed P j o (Marks k by) q h r =
      let y = some_branch P j k (U (marked_op o k) by q (client D.specification.operations (first_system D) (op_branches_ground D R) s e τ k q)) (Bs (marked_op o k) by) (W j k (marked_op o k) by q (client D.specification.operations (first_system D) (op_branches_ground D R) s e τ k q)) h r in
      (y.0, (y.1.0, λ x. Every_left Met q.duties _ (y.1.1 x)))

  some_way : (P : Path → Type 0) (j o : ℕ) (c : Option Formula) (d : Deed) (q : Path) → IsDeedResolved D o d → Every P (deed_paths_where ops' first' c j o τ d q) → (x : Path) × (P x × (AllMet x → AllMet q))
  some_way P j o None d q h r = some_deed P j o d q h r
  some_way P j o (Some g) d q h r = (_, ((Every_right P (deed_paths ops' first' j o τ d (with_fact q (told q.columns τ g))) _ r).0, λ x. x))

  pub kept : (j o : ℕ) (rs : List Rider) (q : Path) → Every (IsRiderResolved D o) rs → Every AllMet (paths ops' first' j o τ rs q) → AllMet q
  kept j o [] q h r = r.0
  kept j o (x ∷ rs) q h r =
      let y = some_way (λ z. Every AllMet (paths ops' first' (suc j) o τ rs z)) j o x.condition x.deed q h.0.1 (Every-concat AllMet (paths ops' first' (suc j) o τ rs) (rider_paths ops' first' j o τ x q) r) in
      y.1.1 (kept (suc j) o rs y.0 h.1 y.1.0)

  -- ---- a branch is enabled

  abbrev IsObserving : Marking → Branch → Type 0
  IsObserving Own b = Unit {0}
  IsObserving (Other t o) b = Unit {0}
  IsObserving Note b = b.updates ≡ []

  no_updates : (us : List Update) → Holds s e outside (is_empty us) → us ≡ []
  no_updates [] h = refl
  no_updates (u ∷ us) h = absurd (h tt)

  observes : (j : ℕ) (k : Marking) (fs : List Formula) (b : Branch) → EachHolds s e fs → Every Met (observing_duty ops' first' j k fs b) → IsObserving k b
  observes j Own fs b f h = tt
  observes j (Other t o) fs b f h = tt
  observes j Note fs b f h = no_updates b.updates (h.0 f)

  pub record Taking (P : Path → Type 0) (j : ℕ) (k : Marking) (m : State) (a : Env) (bs : List Branch) : Type 0 where
    pub path : Path
    pub branch : Branch
    pub given : P path
    pub facts : F path
    pub runs : run m a bs ≡ Some (writes_of m a branch.updates, values_of m a branch.replies)
    pub columns : S path ≡ stored_all m (writes_of m a (mark_updates first' k branch))
    pub observing : AllMet path → IsObserving k branch

  choose : (P : Path → Type 0) (j : ℕ) (k : Marking) (υ : List Term) (bs : List Branch) (q : Path) (a : Env) → AreGround bs → variable (values_by s e υ) ≡ a → F q →
      (NoneHolds s e outside (formulas (map (λ (b : Branch). told q.columns υ b.guard) bs)) → ⊥) → Every P (branch_paths ops' first' j k υ bs q) → Taking P j k (S q) a bs
  choose P j k υ [] q a g h f some r = absurd (some tt)
  choose P j k υ (b ∷ bs) q a g h f some r =
      by (truth (S q) a outside b.guard) refl
      (λ e'. choose P j k υ bs (with_fact q (Not (told q.columns υ b.guard))) a g.1 h
      (one_more D.specification.operations (first_system D) (op_branches_ground D R) s e τ q.facts (Not (told q.columns υ b.guard)) f (fails e')) (λ no. some (fails e', no)) r.1)
    where
      tells : Holds s e outside (told q.columns υ b.guard) ≡ Holds (S q) a outside b.guard
      tells = Holds-told s e q.columns υ b.guard ∙ (λ i. Holds (S q) (h i) outside b.guard)

      d : (truth (S q) a outside b.guard ≡ true → Holds (S q) a outside b.guard) × (Holds (S q) a outside b.guard → truth (S q) a outside b.guard ≡ true)
      d = Decides-truth (S q) a outside b.guard g.0

      fails : truth (S q) a outside b.guard ≡ false → Holds s e outside (told q.columns υ b.guard) → ⊥
      fails e' x = true≢false (sym (d.1 (subst (λ X. X) tells x)) ∙ e')

      by : (t : Bool) → truth (S q) a outside b.guard ≡ t →
          (truth (S q) a outside b.guard ≡ false → Taking P j k (S q) a bs) → Taking P j k (S q) a (b ∷ bs)
      by true e' later =
          let fact = one_more D.specification.operations (first_system D) (op_branches_ground D R) s e τ q.facts (told q.columns υ b.guard) f (subst (λ X. X) (sym tells) (d.0 e')) in
          record {
            path = _;
            branch = b;
            given = r.0;
            facts = fact;
            runs = if_true (truth (S q) a outside b.guard) _ (run (S q) a bs) e';
            columns = columns_by-after s e q.columns υ (mark_updates first' k b) ∙ (λ i. stored_all (S q) (writes_of (S q) (h i) (mark_updates first' k b)));
            observing = λ met. observes j k (q.facts ++ told q.columns υ b.guard ∷ []) b fact (Every_right Met q.duties _ met);
          }
      by false e' later =
          let x = later e' in
          record {
            path = x.path;
            branch = x.branch;
            given = x.given;
            facts = x.facts;
            runs = if_false (truth (S q) a outside b.guard) _ (run (S q) a bs) e' ∙ x.runs;
            columns = x.columns;
            observing = x.observing;
          }

  -- ---- a mark that is owed what it needs can be made

  abbrev few : ℕ
  few = length D.specification.columns

  pub record Ridden (P : Path → Type 0) (Is : List Mark → State → Type 0) : Type 0 where
    pub path : Path
    pub given : P path
    pub facts : F path
    pub marks : List Mark
    pub is : Is marks (S path)
    pub only : Only first' n (S path)

  -- what the first duties of a mark say
  pub record Owed (j p : ℕ) (k : Marking) (by : Chosen Term) (q : Path) (c : Term) : Type 0 where
    pub pending : S q first' (value s e outside c) ≡ pos 1
    pub named : EachHolds s e (map (λ (d : Duty). d.goal) (named_duty ops' first' j k q c))
    pub enabled : NoneHolds s e outside (formulas (map (λ (b : Branch). told q.columns (U p by q c) b.guard) (Bs p by))) → ⊥

  named_goals : (j : ℕ) (k : Marking) (q : Path) (c : Term) → F q → Every Met (named_duty ops' first' j k q c) → EachHolds s e (map (λ (d : Duty). d.goal) (named_duty ops' first' j k q c))
  named_goals j Own q c f h = tt
  named_goals j (Other t o) q c f h = (h.0 f, tt)
  named_goals j Note q c f h = tt

  owed : (P : Path → Type 0) (met : (x : Path) → P x → AllMet x) (j p : ℕ) (k : Marking) (by : Chosen Term) (q : Path) (c : Term) → IsNonempty (Bs p by) → F q →
      Every P (branch_paths ops' first' j k (U p by q c) (Bs p by) (W j k p by q c)) → Owed j p k by q c
  owed P met j p k by q c h f r =
      let y = some_branch P j k (U p by q c) (Bs p by) (W j k p by q c) h r in
      let m = Every_right Met q.duties (mark_duties ops' first' j k q c (U p by q c) (Bs p by)) (y.1.1 (met y.0 y.1.0)) in
      record {
        pending = m.0 f;
        named = named_goals j k q c f (Every_left Met (named_duty ops' first' j k q c) _ m.1);
        enabled = (Every_right Met (named_duty ops' first' j k q c) _ m.1).0 f;
      }

  taking : (P : Path → Type 0) (met : (x : Path) → P x → AllMet x) (j p x : ℕ) (k : Marking) (by : Chosen Term) (q : Path) (c : Term) → value s e outside c ≡ pos x → F q → Owed j p k by q c →
      Every P (branch_paths ops' first' j k (U p by q c) (Bs p by) (W j k p by q c)) → Taking P j k (S q) (E p x by q) (Bs p by)
  taking P met j p x k by q c is f o r =
      choose P j k (U p by q c) (Bs p by) (W j k p by q c) (E p x by q)
      (branches_ground D.specification.operations (first_system D) (op_branches_ground D R) s e τ p by) (marked_env_is D.specification.operations (first_system D) (op_branches_ground D R) s e τ p x by q c is) f o.enabled r

  settle : (P : Path → Type 0) (met : (x : Path) → P x → AllMet x) (j p x : ℕ) (k : Marking) (by : Chosen Term) (q : Path) (c : Term) →
      ((b : Branch) → mark_updates first' k b ≡ b.updates ++ (at_client (rep_columns first') b.replies ++ at_client (pend first' ∷ []) (Number (pos 2) ∷ []))) →
      value s e outside c ≡ pos x → IsNonempty (Bs p by) → F q → Only first' n (S q) →
      Every P (branch_paths ops' first' j k (U p by q c) (Bs p by) (W j k p by q c)) → Ridden P (λ ms m. Rattle.lc_rider.specs.Rider.IsSettled ops' first' (S q) x p (H by q) ms m)
  settle P met j p x k by q c upd is h f only r =
      let o = owed P met j p k by q c h f r in
      let y = taking P met j p x k by q c is f o r in
      let a : Env = E p x by q in
      let back = ap (run (S q) a) (chosen-map (value (S q) (v D.specification.operations (first_system D) (op_branches_ground D R) s e τ) outside) by (op_branches ops' p)) in
      let ws : List Write = writes_of (S q) a (y.branch).updates in
      let reply : List ℤ = values_of (S q) a (y.branch).replies in
      let one : S q first' (pos x) ≡ pos 1 = subst (λ i. S q first' i ≡ pos 1) is o.pending in
      let here : S y.path ≡ stored_all (S q) (ws ++ mark_writes first' x reply) =
      y.columns ∙ (ap (λ us. stored_all (S q) (writes_of (S q) a us)) (upd y.branch) ∙ ap (stored_all (S q)) (settled_writes D.specification.operations (first_system D) (op_branches_ground D R) s e τ (S q) x a y.branch refl)) in
      let fine = run_is few (2 + arity ops' p + length (given_in by)) (op_replies ops' p) (S q) a (Bs p by) ws reply (branches_resolved D R p by) (replies_resolved D R p by) y.runs in
      record {
        path = y.path;
        given = y.given;
        facts = y.facts;
        marks = record { client = x; note = false; choice = H by q; reply = reply } ∷ [];
        is = (ws, reply, one, back ∙ y.runs, refl, here);
        only = subst (Only first' n) (sym here) (only_after first' n few x (S q) ws (mark_writes first' x reply) (omega arith) only one fine.columns (mark_at first' x reply));
      }

  note : (P : Path → Type 0) (met : (x : Path) → P x → AllMet x) (j p x : ℕ) (by : Chosen Term) (q : Path) (c : Term) →
      value s e outside c ≡ pos x → IsNonempty (Bs p by) → F q → Only first' n (S q) →
      Every P (branch_paths ops' first' j Note (U p by q c) (Bs p by) (W j Note p by q c)) → Ridden P (λ ms m. Rattle.lc_rider.specs.Rider.IsNoted ops' first' (S q) x p (H by q) ms m)
  note P met j p x by q c is h f only r =
      let o = owed P met j p Note by q c h f r in
      let y = taking P met j p x Note by q c is f o r in
      let a : Env = E p x by q in
      let back = ap (run (S q) a) (chosen-map (value (S q) (v D.specification.operations (first_system D) (op_branches_ground D R) s e τ) outside) by (op_branches ops' p)) in
      let reply : List ℤ = values_of (S q) a (y.branch).replies in
      let one : S q first' (pos x) ≡ pos 1 = subst (λ i. S q first' i ≡ pos 1) is o.pending in
      let here : S y.path ≡ stored_all (S q) (note_writes first' x reply) = y.columns ∙ ap (stored_all (S q)) (noted_writes D.specification.operations (first_system D) (op_branches_ground D R) s e τ (S q) x a y.branch refl) in
      record {
        path = y.path;
        given = y.given;
        facts = y.facts;
        marks = record { client = x; note = true; choice = H by q; reply = reply } ∷ [];
        is = (reply, one, back ∙ (y.runs ∙ ap (λ us. Some (writes_of (S q) a us, reply)) (y.observing (met y.path y.given))), refl, here);
        only = subst (Only first' n) (sym here) (only_after first' n few x (S q) [] (note_writes first' x reply) (omega arith) only one tt (note_at first' x reply));
      }

  module _ (self o : ℕ) (mine : v D.specification.operations (first_system D) (op_branches_ground D R) s e τ 1 ≡ pos self) where
    abbrev V : Env
    V = v D.specification.operations (first_system D) (op_branches_ground D R) s e τ

    other : (P : Path → Type 0) (met : (x : Path) → P x → AllMet x) (j p : ℕ) (t : Term) (by : Chosen Term) (q : Path) → IsNonempty (Bs p by) → F q → Only first' n (S q) →
        Every P (branch_paths ops' first' j (Other t p) (U p by q (client D.specification.operations (first_system D) (op_branches_ground D R) s e τ (Other t p) q)) (Bs p by) (W j (Other t p) p by q (client D.specification.operations (first_system D) (op_branches_ground D R) s e τ (Other t p) q))) →
        Ridden P (λ ms m. IsDone ops' first' self o V (S q) (Marks (Other t p) by) ms m)
    other P met j p t by q h f only r = go (only (value s e outside c))
      where
        c : Term
        c = client D.specification.operations (first_system D) (op_branches_ground D R) s e τ (Other t p) q

        w : Owed j p (Other t p) by q c
        w = owed P met j p (Other t p) by q c h f r

        told-value : value s e outside c ≡ value (S q) V outside t
        told-value = value-said s e q.columns τ t

        go : (S q first' (value s e outside c) ≡ pos 0) ⊎ ((x : ℕ) × (x < n) × (value s e outside c ≡ pos x)) → Ridden P (λ ms m. IsDone ops' first' self o V (S q) (Marks (Other t p) by) ms m)
        go (inl z) = absurd (omega (arith, ints, z, w.pending))
        go (inr (x, lt, is)) =
            let y = settle P met j p x (Other t p) by q c (λ b. refl) is h f only r in
            record {
              path = y.path;
              given = y.given;
              facts = y.facts;
              marks = y.marks;
              is = (x, sym told-value ∙ is, subst (λ i. S q (op_column first') i ≡ pos p) is w.named.0, y.is);
              only = y.only;
            }

    ride_deed : (P : Path → Type 0) (met : (x : Path) → P x → AllMet x) (j : ℕ) (d : Deed) (q : Path) → IsDeedResolved D o d → F q → Only first' n (S q) → Every P (deed_paths ops' first' j o τ d q) → Ridden P (λ ms m. IsDone ops' first' self o V (S q) d ms m)
    ride_deed P met j (Assign u) q h f only r =
        let here = columns_by-put s e q.columns (said q.columns τ u) ∙ ap (λ w. stored_all (S q) (w ∷ [])) (write-said s e q.columns τ u) in
        record {
          path = _;
          given = r.0;
          facts = f;
          marks = [];
          is = (refl, here);
          only = λ i. subst (λ z. (z ≡ pos 0) ⊎ ((c : ℕ) × (c < n) × (i ≡ pos c))) (sym ((λ k. here k first' i) ∙ (λ k. writes_other (S q) (write_of (S q) V u ∷ []) first' ((λ x. let lt = h.1 in omega arith), tt) k i))) (only i);
        }
    ride_deed P met j (Marks Own by) q h f only r = settle P met j o self Own by q (client D.specification.operations (first_system D) (op_branches_ground D R) s e τ Own q) (λ b. refl) (value-said s e q.columns τ (Variable 1) ∙ mine) h f only r
    ride_deed P met j (Marks (Other t p) by) q h f only r = other P met j p t by q h f only r
    ride_deed P met j (Marks Note by) q h f only r = note P met j o self by q (client D.specification.operations (first_system D) (op_branches_ground D R) s e τ Note q) (value-said s e q.columns τ (Variable 1) ∙ mine) h f only r

    ride_way : (P : Path → Type 0) (met : (x : Path) → P x → AllMet x) (j : ℕ) (c : Option Formula) (d : Deed) (q : Path) → IsConditionResolved c → IsDeedResolved D o d → F q → Only first' n (S q) → Every P (deed_paths_where ops' first' c j o τ d q) →
        Ridden P (λ ms m. IsDoneWhere ops' first' c self o V (S q) d ms m)
    ride_way P met j None d q g h f only r = ride_deed P met j d q h f only r
    ride_way P met j (Some c) d q g h f only r = by (truth (S q) V outside c) refl
      where
        dt : (truth (S q) V outside c ≡ true → Holds (S q) V outside c) × (Holds (S q) V outside c → truth (S q) V outside c ≡ true)
        dt = Decides-truth (S q) V outside c g

        by : (b : Bool) → truth (S q) V outside c ≡ b → Ridden P (λ ms m. IsDoneWhere ops' first' (Some c) self o V (S q) d ms m)
        by true e' =
            let x = ride_deed P met j d (with_fact q (told q.columns τ c)) h (one_more D.specification.operations (first_system D) (op_branches_ground D R) s e τ q.facts (told q.columns τ c) f (subst (λ X. X) (sym (Holds-told s e q.columns τ c)) (dt.0 e'))) only
            (Every_left P (deed_paths ops' first' j o τ d (with_fact q (told q.columns τ c))) _ r) in
            record { path = x.path; given = x.given; facts = x.facts; marks = x.marks; is = inl (dt.0 e', x.is); only = x.only }
        by false e' =
            let no : Holds (S q) V outside c → ⊥ = λ h. true≢false (sym (dt.1 h) ∙ e') in
            record {
              path = with_fact q (Not (told q.columns τ c));
              given = (Every_right P (deed_paths ops' first' j o τ d (with_fact q (told q.columns τ c))) _ r).0;
              facts = one_more D.specification.operations (first_system D) (op_branches_ground D R) s e τ q.facts (Not (told q.columns τ c)) f (λ x. no (subst (λ X. X) (Holds-told s e q.columns τ c) x));
              marks = [];
              is = inr (no, refl, refl);
              only = only;
            }

    pub ride : (j : ℕ) (rs : List Rider) (q : Path) → Every (IsRiderResolved D o) rs → F q → Only first' n (S q) → Every AllMet (paths ops' first' j o τ rs q) → (ms : List Mark) × (m : State) × RideAll ops' first' self o V (S q) rs ms m × Only first' n m
    ride j [] q h f only r = ([], S q, (refl, refl), only)
    ride j (x ∷ rs) q h f only r =
        let one = ride_way (λ y. Every AllMet (paths ops' first' (suc j) o τ rs y)) (λ y. kept (suc j) o rs y h.1) j x.condition x.deed q h.0.0 h.0.1 f only (Every-concat AllMet (paths ops' first' (suc j) o τ rs) (rider_paths ops' first' j o τ x q) r) in
        let next = ride (suc j) rs one.path h.1 one.facts one.only one.given in
        (one.marks ++ next.0, next.1, (S one.path, one.marks, next.0, one.is, next.2, refl), next.3)
