-- An edge that was gone with its riders: what its conditions say of the columns after it.
use Rattle.std.proofs.Common.{◌≡◌, Bool, true, false, true≢false, ℕ, suc, ◌≤◌, ◌⊎◌, List, [], ◌∷◌, ◌++◌, ℤ, pos, Option, Some, None, map, length, take, refl, sym, ap, ap₂, ◌∙◌, subst, inl, inr, arith}
use Rattle.std.specs.Ordering.{int_eq}
use Rattle.std.proofs.lemmas.Bool.Decides.{Decides-int_eq}
use Rattle.lc_term.specs.Updates.{stored_all, values_of, variable, assigned, row}
use Rattle.lc_term.specs.Syntax.{Term, Number, Variable, Formula, formulas}
use Rattle.lc_term.specs.Meaning.{State, Env, outside, value, Holds, AllHold, EachHolds}
use Rattle.lc_term.specs.State.{with_cell}
use Rattle.lc_object.specs.Edges.{Edge, edges}
use Rattle.lc_machine.specs.World.{In, World}
use Rattle.lc_machine.specs.Step.{IsClient, numbers}
use Rattle.lc_machine.specs.EdgeSteps.{updated, IsIn}
use Rattle.lc_term.specs.Lists.{Every}
use Rattle.lc_term.specs.Said.{told}
use Rattle.lc_term.specs.SystemColumns.{pend, rep_columns, noted, note_columns}
use Rattle.lc_rider.specs.Rider.{Mark, RideAll, IsJustified, return_writes}
use Rattle.lc_outline.specs.Development.{invariant_of, Development, first_system, riders_in, asserts_to}
use Rattle.lc_rider.specs.Paths.{Path, path_start}
use Rattle.lc_cond.specs.Conditions.{Head, conditions_from, conditions_of, on_path, alone_on_path, duty_condition, Reply, Invariant, NextKind, hold_terms, justified, at_end, reply_goals, on_conditions}
use Rattle.lc_sound.specs.Claims.{IsProven, IsGood}
use Rattle.lc_sound.specs.Valid.{IsValid}
use Rattle.lc_outline.proofs.Matched.{op_branches_ground}
use Rattle.lc_term.proofs.Stores.{Every_left, Every_right}
use Rattle.lc_term.proofs.Symbolic.{columns_by, values_by, columns_by-put, each_told, each-append}
use Rattle.lc_rider.proofs.Riding.{Along, along}
use Rattle.lc_sound.proofs.Lifting as L

-- goals that share hypotheses
pub valid_from : (s : State) (e : Env) (x : Head) (hs : List Formula) (k : ℕ) (goals : List Formula) → Every IsValid (conditions_from x hs k goals) → EachHolds s e hs → EachHolds s e goals
valid_from s e x hs k [] v h = tt
valid_from s e x hs k (g ∷ gs) v h = (v.0.holds s e h, valid_from s e x hs (suc k) gs v.1 h)

pub valid_goals : (s : State) (e : Env) (x : Head) (hs goals : List Formula) → Every IsValid (conditions_of x hs goals) → EachHolds s e hs → EachHolds s e goals
valid_goals s e x hs goals v h = valid_from s e x hs 0 goals v h

-- ---- a reply that does not fail to be justified is

held_terms : (m : State) (e : Env) (cs : List ℕ) (ts : List Term) → length ts ≤ length cs → AllHold m e outside (formulas (hold_terms cs ts)) → take (length (values_of m e ts)) (row m cs (e 1)) ≡ values_of m e ts
held_terms m e [] [] le h = refl
held_terms m e [] (t ∷ ts) le h = absurd (omega arith)
held_terms m e (c ∷ cs) [] le h = refl
held_terms m e (c ∷ cs) (t ∷ ts) le h = ap₂ (λ x xs. x ∷ xs) h.0 (held_terms m e cs ts (omega arith) h.1)

decided : (m : State) (e : Env) (cs : List ℕ) (ts : List Term) → (AllHold m e outside (formulas (hold_terms cs ts))) ⊎ (AllHold m e outside (formulas (hold_terms cs ts)) → ⊥)
decided m e [] ts = inl tt
decided m e (c ∷ cs) [] = inl tt
decided m e (c ∷ cs) (t ∷ ts) =
    by (int_eq (m c (e 1)) (value m e outside t)) refl (decided m e cs ts)
  where
    by : (b : Bool) → int_eq (m c (e 1)) (value m e outside t) ≡ b → (AllHold m e outside (formulas (hold_terms cs ts))) ⊎ (AllHold m e outside (formulas (hold_terms cs ts)) → ⊥) →
        (AllHold m e outside (formulas (hold_terms (c ∷ cs) (t ∷ ts)))) ⊎ (AllHold m e outside (formulas (hold_terms (c ∷ cs) (t ∷ ts))) → ⊥)
    by true q (inl h) = inl ((Decides-int_eq (m c (e 1)) (value m e outside t)).0 q, h)
    by true q (inr h) = inr (λ x. h x.1)
    by false q r = inr (λ x. true≢false (sym ((Decides-int_eq (m c (e 1)) (value m e outside t)).1 x.0) ∙ q))

same_number : (a b : ℤ) → (a ≡ b) ⊎ (a ≡ b → ⊥)
same_number a b = by (int_eq a b) refl
  where
    by : (x : Bool) → int_eq a b ≡ x → (a ≡ b) ⊎ (a ≡ b → ⊥)
    by true q = inl ((Decides-int_eq a b).0 q)
    by false q = inr (λ h. true≢false (sym ((Decides-int_eq a b).1 h) ∙ q))

both_of : {A B : Type 0} → A ⊎ (A → ⊥) → B ⊎ (B → ⊥) → (A × B) ⊎ (A × B → ⊥)
both_of (inl a) (inl b) = inl (a, b)
both_of (inl a) (inr b) = inr (λ x. b x.1)
both_of (inr a) d = inr (λ x. a x.0)

pub justified_is : (first : ℕ) (m : State) (e : Env) (c : ℕ) (ts : List Term) → e 1 ≡ pos c → length ts ≤ 3 → Holds m e outside (justified first ts) → IsJustified first m c (values_of m e ts)
justified_is first m e c ts one le h =
    subst (λ i. ((m (pend first) i ≡ pos 2) × (take (length (values_of m e ts)) (row m (rep_columns first) i) ≡ values_of m e ts))
    ⊎ ((m (pend first) i ≡ pos 1) × (m (noted first) i ≡ pos 1) × (take (length (values_of m e ts)) (row m (note_columns first) i) ≡ values_of m e ts))) one
    (elim (both_of (same_number (m (pend first) (e 1)) (pos 2)) (decided m e (rep_columns first) ts)) [
      | inl a ↦ inl (a.0, held_terms m e (rep_columns first) ts (omega arith) a.1)
      | inr a ↦
          elim (both_of (same_number (m (pend first) (e 1)) (pos 1)) (both_of (same_number (m (noted first) (e 1)) (pos 1)) (decided m e (note_columns first) ts))) [
            | inl b ↦ inr (b.0, b.1.0, held_terms m e (note_columns first) ts (omega arith) b.1.1)
            | inr b ↦ absurd (h (a, (b, tt)))
          ]
    ])

-- ---- after the riders

module _ (D : Development) (X : IsProven D) (n : ℕ) (w : World) (G : IsGood D n w) (c p : ℕ) (vs : List ℤ) (at : IsClient w c (In p vs))
    (e : Edge) (among : IsIn e (edges D.object)) (from : e.point ≡ p) (facts : EachHolds w.columns (variable vs) e.facts)
    (ms : List Mark) (m : State) (one : variable (assigned vs e.targets (numbers w.columns vs e.values)) 1 ≡ pos c)
    (ride : RideAll D.specification.operations (first_system D) c (L.point D X n w G c p vs at e among from facts).operation (variable (assigned vs e.targets (numbers w.columns vs e.values))) (updated w.columns vs w.columns e.updates)
    (riders_in (L.on D X n w G c p vs at e among from facts)) ms m) where
  abbrev pub s : State
  s = w.columns

  abbrev pub env : Env
  env = variable vs

  abbrev pub new : List ℤ
  new = assigned vs e.targets (numbers w.columns vs e.values)

  abbrev pub τ : List Term
  τ = L.τ D X n w G c p vs at e among from facts

  abbrev pub hyps : List Formula
  hyps = L.hyps D X n w G c p vs at e among from facts

  abbrev pub count : ℕ
  count = Rattle.lc_object.specs.WellFormed.variable_count (L.op D X n w G c p vs at e among from facts)

  abbrev pub Conds : Path → Type 0
  Conds q = L.Conditioned D X n w G c p vs at e among from facts q

  new_is : values_by s env τ ≡ new
  new_is = L.edge_variables_are s vs (Rattle.lc_object.specs.WellFormed.variable_count (L.op D X n w G c p vs at e among from facts)) e (L.good D X n w G c p vs at e among from facts).4

  -- the path that was gone
  pub taken : Along D.specification.operations (first_system D) (op_branches_ground D X.resolved) s env τ Conds m
  taken =
      along D.specification.operations (first_system D) (op_branches_ground D X.resolved) s env τ c (L.point D X n w G c p vs at e among from facts).operation ((λ i. variable (new_is i) 1) ∙ one) Conds 0 (riders_in (L.on D X n w G c p vs at e among from facts)) (path_start e) ms m (tt, tt)
      (subst (λ x. RideAll D.specification.operations (first_system D) c (L.point D X n w G c p vs at e among from facts).operation (variable x) (columns_by s env (path_start e).columns) (riders_in (L.on D X n w G c p vs at e among from facts)) ms m) (sym new_is)
      (subst (λ x. RideAll D.specification.operations (first_system D) c (L.point D X n w G c p vs at e among from facts).operation (variable new) x (riders_in (L.on D X n w G c p vs at e among from facts)) ms m) (sym (L.edge_columns_are s vs e)) ride))
      (L.all_conditions D X n w G c p vs at e among from facts)

  abbrev pub path : Path
  path = taken.0

  -- its number
  abbrev pub number : ℕ
  number = taken.1.0.0

  abbrev pub all : List Formula
  all = hyps ++ path.facts

  pub all_hold : EachHolds s env all
  all_hold = each-append s env hyps path.facts (L.hyps_hold D X n w G c p vs at e among from facts) taken.1.1.0.0

  -- the columns after the whole step
  abbrev pub ended : Option ℕ → State
  ended (Some q) = m
  ended None = stored_all m (return_writes (first_system D) c)

  pub ended_is : (next : Option ℕ) → columns_by s env (at_end (first_system D) next path.columns) ≡ ended next
  ended_is (Some q) = taken.1.1.1
  ended_is None =
      columns_by-put s env path.columns (record { column = pend (first_system D); index = Variable 1; value = Number (pos 0) })
      ∙ (λ i. with_cell (taken.1.1.1 i) (pend (first_system D)) ((L.good D X n w G c p vs at e among from facts).6 i) (pos 0))

  pub behind_duties : Every IsValid (conditions_of (alone_on_path Reply e count number) all (map (told path.columns τ) (reply_goals (first_system D) e))
      ++ (conditions_of (on_path Invariant e count number) all (map (told (at_end (first_system D) e.next path.columns) τ) (invariant_of D))
      ++ (conditions_of (on_path NextKind e count number) all (map (told (at_end (first_system D) e.next path.columns) τ) (asserts_to D e.next))
      ++ on_conditions D e count number all (at_end (first_system D) e.next path.columns) (L.on D X n w G c p vs at e among from facts))))
  behind_duties = Every_right IsValid (map (duty_condition e count number hyps) path.duties) _ taken.1.0.1

  -- the invariant, and the assertions of the point that is reached, or those of idle
  pub invariant_after : EachHolds (ended e.next) (variable new) (invariant_of D)
  invariant_after =
      each_told s env (at_end (first_system D) e.next path.columns) τ (ended e.next) (variable new) (ended_is e.next) (ap variable new_is) (invariant_of D)
      (valid_goals s env (on_path Invariant e count number) all _ (Every_left IsValid (conditions_of (on_path Invariant e count number) all (map (told (at_end (first_system D) e.next path.columns) τ) (invariant_of D))) _
      (Every_right IsValid (conditions_of (alone_on_path Reply e count number) all (map (told path.columns τ) (reply_goals (first_system D) e))) _ behind_duties)) all_hold)

  pub next_after : EachHolds (ended e.next) (variable new) (asserts_to D e.next)
  next_after =
      each_told s env (at_end (first_system D) e.next path.columns) τ (ended e.next) (variable new) (ended_is e.next) (ap variable new_is) (asserts_to D e.next)
      (valid_goals s env (on_path NextKind e count number) all _ (Every_left IsValid (conditions_of (on_path NextKind e count number) all (map (told (at_end (first_system D) e.next path.columns) τ) (asserts_to D e.next))) _
      (Every_right IsValid (conditions_of (on_path Invariant e count number) all (map (told (at_end (first_system D) e.next path.columns) τ) (invariant_of D))) _
      (Every_right IsValid (conditions_of (alone_on_path Reply e count number) all (map (told path.columns τ) (reply_goals (first_system D) e))) _ behind_duties))) all_hold)

  -- a return is justified
  pub replied : EachHolds m (variable new) (reply_goals (first_system D) e)
  replied =
      each_told s env path.columns τ m (variable new) taken.1.1.1 (ap variable new_is) (reply_goals (first_system D) e)
      (valid_goals s env (alone_on_path Reply e count number) all _ (Every_left IsValid (conditions_of (alone_on_path Reply e count number) all (map (told path.columns τ) (reply_goals (first_system D) e))) _ behind_duties) all_hold)

  pub on_valid : Every IsValid (on_conditions D e count number all (at_end (first_system D) e.next path.columns) (L.on D X n w G c p vs at e among from facts))
  on_valid =
      Every_right IsValid (conditions_of (on_path NextKind e count number) all (map (told (at_end (first_system D) e.next path.columns) τ) (asserts_to D e.next))) _
      (Every_right IsValid (conditions_of (on_path Invariant e count number) all (map (told (at_end (first_system D) e.next path.columns) τ) (invariant_of D))) _
      (Every_right IsValid (conditions_of (alone_on_path Reply e count number) all (map (told path.columns τ) (reply_goals (first_system D) e))) _ behind_duties))
