-- What the riders of a step leave alone: the system columns that frames are about.
use Rattle.std.proofs.Common.{◌≡◌, ℕ, ◌+◌, ◌<◌, ◌≤◌, ◌⊎◌, Bool, true, false, true≢false, List, [], ◌∷◌, ◌++◌, ℤ, pos, Option, Some, None, refl, sym, ap, ◌∙◌, subst, inl, inr, arith}
use Rattle.std.specs.Ordering.{int_eq}
use Rattle.std.proofs.lemmas.Bool.Decides.{Decides-int_eq}
use Rattle.lc_term.specs.Updates.{Write, stored_all, write_of, cell_writes}
use Rattle.lc_term.specs.Syntax.{Formula}
use Rattle.lc_term.specs.Meaning.{State, Env, stored}
use Rattle.lc_term.specs.State.{with_cell}
use Rattle.lc_seq.specs.Sequential.{Choice, given_in}
use Rattle.lc_seq.specs.Specification.{chosen}
use Rattle.lc_seq.specs.TextStep.{run, call_env}
use Rattle.lc_term.specs.Lists.{Every}
use Rattle.lc_seq.specs.Branches.{op_branches, arity, op_replies}
use Rattle.lc_term.specs.SystemColumns.{pend, rep_columns, noted, note_columns}
use Rattle.lc_rider.specs.Rider.{Mark, Own, Other, Note, Deed, Assign, Marks, Rider, arguments_in, choice_at, IsSettled, IsDone, IsDoneWhere, RideAll, note_writes}
use Rattle.lc_outline.specs.Development.{Development, first_system}
use Rattle.lc_outline.specs.Resolved.{IsResolved, IsRiderResolved, IsDeedResolved}
use Rattle.lc_term.proofs.Stores.{Every-append, Every-map, stored-append, writes_other, cell_columns, cell_other, cell_same, stored_here, stored_there}
use Rattle.lc_seq.proofs.Abstract.{run_is}
use Rattle.lc_outline.proofs.Matched.{branches_resolved, replies_resolved}

-- from one state to another: operation and arguments stay, `pend` stays or rises from 1 to 2, and there are no further columns
pub record Kept (first : ℕ) (s m : State) : Type 0 where
  pub call : (k : ℕ) → first < k → k < 5 + first → m k ≡ s k
  pub pend_is : (i : ℤ) → (m first i ≡ s first i) ⊎ ((s first i ≡ pos 1) × (m first i ≡ pos 2))
  pub beyond : (k : ℕ) → 12 + first ≤ k → m k ≡ s k

pub Kept_refl : (first : ℕ) (s : State) → Kept first s s
Kept_refl first s = record { call = λ k a b. refl; pend_is = λ i. inl refl; beyond = λ k a. refl }

pub Kept_trans : (first : ℕ) (a b c : State) → Kept first a b → Kept first b c → Kept first a c
Kept_trans first a b c h k = record { call = λ j x y. k.call j x y ∙ h.call j x y; pend_is = λ i. both i (h.pend_is i) (k.pend_is i); beyond = λ j l. k.beyond j l ∙ h.beyond j l }
  where
    both : (i : ℤ) → (b first i ≡ a first i) ⊎ ((a first i ≡ pos 1) × (b first i ≡ pos 2)) → (c first i ≡ b first i) ⊎ ((b first i ≡ pos 1) × (c first i ≡ pos 2)) → (c first i ≡ a first i) ⊎ ((a first i ≡ pos 1) × (c first i ≡ pos 2))
    both i (inl x) (inl y) = inl (y ∙ x)
    both i (inl x) (inr y) = inr (sym x ∙ y.0, y.1)
    both i (inr x) (inl y) = inr (x.0, y ∙ x.1)
    both i (inr x) (inr y) = inr (x.0, y.1)

-- a column that is none of the call's, and is there
abbrev pub Away : ℕ → ℕ → Type 0
Away first k = (k < first) ⊎ ((5 + first ≤ k) × (k < 12 + first))

away_other : (first k : ℕ) (ws : List Write) → first ≤ k → k < 5 + first → Every (λ (w : Write). Away first w.column) ws → Every (λ (w : Write). w.column ≡ k → ⊥) ws
away_other first k [] a b h = tt
away_other first k (w ∷ ws) a b h = ((λ e. elim h.0 [ inl x ↦ omega arith | inr x ↦ (let y = x.0 in omega arith) ]), away_other first k ws a b h.1)

away_beyond : (first k : ℕ) (ws : List Write) → 12 + first ≤ k → Every (λ (w : Write). Away first w.column) ws → Every (λ (w : Write). w.column ≡ k → ⊥) ws
away_beyond first k [] a h = tt
away_beyond first k (w ∷ ws) a h = ((λ e. elim h.0 [ inl x ↦ omega arith | inr x ↦ (let y = x.1 in omega arith) ]), away_beyond first k ws a h.1)

pub Kept_writes : (first : ℕ) (s : State) (ws : List Write) → Every (λ (w : Write). Away first w.column) ws → Kept first s (stored_all s ws)
Kept_writes first s ws h = record {
  call = λ k a b. writes_other s ws k (away_other first k ws (omega arith) b h);
  pend_is = λ i. inl (λ j. writes_other s ws first (away_other first first ws (omega arith) (omega arith) h) j i);
  beyond = λ k a. writes_other s ws k (away_beyond first k ws a h);
}

-- `pend` rises from 1 to 2 at one client
Kept_pend : (first : ℕ) (s : State) (x : ℤ) → s first x ≡ pos 1 → Kept first s (with_cell s first x (pos 2))
Kept_pend first s x one = record {
  call = λ k a b. cell_other s first k x (pos 2) (λ e. omega arith);
  pend_is = λ i. by i (int_eq x i) refl;
  beyond = λ k a. cell_other s first k x (pos 2) (λ e. omega arith);
}
  where
    by : (i : ℤ) (b : Bool) → int_eq x i ≡ b → (with_cell s first x (pos 2) first i ≡ s first i) ⊎ ((s first i ≡ pos 1) × (with_cell s first x (pos 2) first i ≡ pos 2))
    by i true e =
        let same : x ≡ i = (Decides-int_eq x i).0 e in
        inr (ap (s first) (sym same) ∙ one, (λ k. cell_same s first x (pos 2) k i) ∙ subst (λ z. stored (s first) x (pos 2) z ≡ pos 2) same (stored_here (s first) x (pos 2)))
    by i false e = inl ((λ k. cell_same s first x (pos 2) k i) ∙ stored_there (s first) x (pos 2) i (λ same. true≢false (sym ((Decides-int_eq x i).1 same) ∙ e)))

module _ (D : Development) (R : IsResolved D) where
  abbrev first : ℕ
  first = first_system D

  abbrev ops : List Rattle.lc_seq.specs.Specification.Operation
  ops = D.specification.operations

  few : ℕ
  few = Rattle.std.proofs.Common.length D.specification.columns

  -- what a branch stores is in the first columns
  stored_first : (m : State) (c o : ℕ) (choice : Choice) (ws : List Write) (reply : List ℤ) → run m (call_env c (arguments_in ops first m c o ++ given_in choice)) (chosen choice (op_branches ops o)) ≡ Some (ws, reply) → Every (λ (w : Write). Away first w.column) ws
  stored_first m c o choice ws reply is =
      Every-map (λ (w : Write). w.column < Rattle.std.proofs.Common.length D.specification.columns) (λ (w : Write). Away first w.column) ws (λ w lt. inl (omega arith))
      (run_is (Rattle.std.proofs.Common.length D.specification.columns) (2 + arity ops o + Rattle.std.proofs.Common.length (given_in choice)) (op_replies ops o) m (call_env c (arguments_in ops first m c o ++ given_in choice)) (chosen choice (op_branches ops o)) ws reply (branches_resolved D R o choice) (replies_resolved D R o choice) is).columns

  Kept_settled : (m m' : State) (c o : ℕ) (choice : Choice) (ms : List Mark) → IsSettled ops first m c o choice ms m' → Kept first m m'
  Kept_settled m m' c o choice ms (ws, reply, one, is, ms-is, m-is) =
      let reps : List Write = cell_writes (rep_columns first) (pos c) reply in
      let away : Every (λ (w : Write). Away first w.column) (ws ++ reps) =
      Every-append (λ (w : Write). Away first w.column) ws reps (stored_first m c o choice ws reply is)
      (cell_columns (Away first) (rep_columns first) (pos c) reply (inr (omega arith, omega arith), (inr (omega arith, omega arith), (inr (omega arith, omega arith), tt)))) in
      let mid : State = stored_all m (ws ++ reps) in
      let k = Kept_writes first m (ws ++ reps) away in
      let still : mid first (pos c) ≡ pos 1 = (λ i. writes_other m (ws ++ reps) first (away_other first first (ws ++ reps) (omega arith) (omega arith) away) i (pos c)) ∙ one in
      let whole : m' ≡ with_cell mid first (pos c) (pos 2) =
      m-is ∙ (ap (stored_all m) (sym (Rattle.std.proofs.Common.append_assoc ws reps (cell_writes (pend first ∷ []) (pos c) (pos 2 ∷ [])))) ∙ stored-append m (ws ++ reps) (cell_writes (pend first ∷ []) (pos c) (pos 2 ∷ []))) in
      subst (Kept first m) (sym whole) (Kept_trans first m mid (with_cell mid first (pos c) (pos 2)) k (Kept_pend first mid (pos c) still))

  Kept_done : (self o : ℕ) (e : Env) (m m' : State) (d : Deed) (ms : List Mark) → IsDeedResolved D o d → IsDone ops first self o e m d ms m' → Kept first m m'
  Kept_done self o e m m' (Assign u) ms h (none, is) = subst (Kept first m) (sym is) (Kept_writes first m (write_of m e u ∷ []) (inl h.1, tt))
  Kept_done self o e m m' (Marks Own by) ms h d = Kept_settled m m' self o (choice_at m e by) ms d
  Kept_done self o e m m' (Marks (Other t p) by) ms h (c, is, op, d) = Kept_settled m m' c p (choice_at m e by) ms d
  Kept_done self o e m m' (Marks Note by) ms h (reply, one, is, ms-is, m-is) =
      subst (Kept first m) (sym m-is) (Kept_writes first m (note_writes first self reply)
      (cell_columns (Away first) (noted first ∷ note_columns first) (pos self) (pos 1 ∷ reply)
      (inr (omega arith, omega arith), (inr (omega arith, omega arith), (inr (omega arith, omega arith), (inr (omega arith, omega arith), tt))))))

  Kept_where : (self o : ℕ) (e : Env) (m m' : State) (c : Option Formula) (d : Deed) (ms : List Mark) → IsDeedResolved D o d → IsDoneWhere ops first c self o e m d ms m' → Kept first m m'
  Kept_where self o e m m' None d ms h t = Kept_done self o e m m' d ms h t
  Kept_where self o e m m' (Some f) d ms h (inl t) = Kept_done self o e m m' d ms h t.1
  Kept_where self o e m m' (Some f) d ms h (inr t) = subst (Kept first m) (sym t.2) (Kept_refl first m)

  pub Kept_rides : (self o : ℕ) (e : Env) (rs : List Rider) (m m' : State) (ms : List Mark) → Every (IsRiderResolved D o) rs → RideAll ops first self o e m rs ms m' → Kept first m m'
  Kept_rides self o e [] m m' ms h t = subst (Kept first m) (sym t.1) (Kept_refl first m)
  Kept_rides self o e (r ∷ rs) m m' ms h (mid, now, later, ride, rest, is) =
      Kept_trans first m mid m' (Kept_where self o e m mid r.condition r.deed now h.0.1 ride) (Kept_rides self o e rs mid m' later h.1 rest)
