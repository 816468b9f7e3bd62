-- If the conditions are valid, an edge that is taken has its riders' run.
use Rattle.std.proofs.Common.{◌≡◌, ℕ, zero, suc, ◌+◌, ◌<◌, ◌≤◌, ◌&&◌, true, List, [], ◌∷◌, ◌++◌, ℤ, pos, ◌+ℤ◌, ◌≤ℤ◌, Option, map, length, get_or, refl, sym, ap, ◌∙◌, subst, inl, inr, arith, nat_lt}
use Rattle.std.specs.Prelude.{slice_get, slice_set, nat_le}
use Rattle.std.specs.List.{list_all}
use Rattle.std.proofs.lemmas.Bool.Decides.{nat_tests}
use Rattle.std.proofs.lemmas.Int.{ints}
use Rattle.std.proofs.lemmas.Option.{slice_get_within}
use Rattle.lc_lemmas.proofs.Booleans.{left_true, right_true}
use Rattle.lc_term.specs.Updates.{Update, stored_all, writes_of, variable, assigned}
use Rattle.lc_term.specs.Syntax.{Term, Variable, Formula, Base}
use Rattle.lc_term.specs.Meaning.{State, Env, outside, value, EachHolds}
use Rattle.lc_object.specs.Syntax.{Instr, Load, Store, Cas, Set, Faa, If, Return, Point, Operation, Object}
use Rattle.lc_object.specs.Edges.{Edge, edges, edges_at}
use Rattle.lc_object.specs.WellFormed.{is_instruction, are_targets, variable_count}
use Rattle.lc_machine.specs.World.{In, World}
use Rattle.lc_machine.specs.Step.{IsClient, numbers}
use Rattle.lc_machine.specs.EdgeSteps.{updated, IsIn}
use Rattle.lc_term.specs.Lists.{concat_map, concat_places, Every}
use Rattle.lc_term.specs.Said.{variables_from}
use Rattle.lc_rider.specs.Rider.{Mark, RideAll}
use Rattle.lc_outline.specs.Development.{invariant_of, Development, On, first_system, on_at, asserts_at, riders_in, in_body, in_operation}
use Rattle.lc_rider.specs.Paths.{Path, Duty, paths, path_start, edge_columns, edge_variables}
use Rattle.lc_cond.specs.Conditions.{duty_condition, range, body_frame, body_hypotheses, start_conditions, entry_conditions, edge_conditions, edge_conditions_in, path_conditions, conditions}
use Rattle.lc_outline.specs.Resolved.{IsRiderResolved}
use Rattle.lc_sound.specs.Claims.{IsProven, IsClientGood, IsGood}
use Rattle.lc_sound.specs.Valid.{IsValid}
use Rattle.lc_term.proofs.Stores.{Every_left, Every_right, Every-map}
use Rattle.lc_term.proofs.Symbolic.{columns_by, values_by, columns_by-puts, each-append, own_values, values_put}
use Rattle.lc_rider.proofs.Riding.{Every-concat, Every-counted}
use Rattle.lc_sound.proofs.Rideable.{Only, AllMet, Met, ride}

-- ---- what an edge makes of columns and variables, symbolically and by the machine

stored-updated : (s t : State) (vs : List ℤ) (us : List Update) → stored_all t (writes_of s (variable vs) us) ≡ updated s vs t us
stored-updated s t vs [] = refl
stored-updated s t vs (u ∷ us) = stored-updated s (Rattle.lc_term.specs.State.with_cell t u.column (value s (variable vs) outside u.index) (value s (variable vs) outside u.value)) vs us

pub edge_columns_are : (s : State) (vs : List ℤ) (e : Edge) → columns_by s (variable vs) (edge_columns e) ≡ updated s vs s e.updates
edge_columns_are s vs e = columns_by-puts s (variable vs) Base e.updates ∙ stored-updated s s vs e.updates

pub edge_variables_are : (s : State) (vs : List ℤ) (n : ℕ) (e : Edge) → length vs ≡ n → values_by s (variable vs) (edge_variables n e) ≡ assigned vs e.targets (numbers s vs e.values)
edge_variables_are s vs n e len =
    values_put s (variable vs) (variables_from 0 n) e.targets e.values
    ∙ ap (λ xs. assigned xs e.targets (numbers s vs e.values)) (subst (λ k. values_by s (variable vs) (variables_from 0 k) ≡ vs) len (own_values s vs))

-- ---- an edge does not set the number of clients, the client, or an argument

pub AreBehind : ℕ → List ℕ → Type 0
AreBehind k rs = Every (λ r. k ≤ r) rs

set_other : {A : Type 0} (xs : List A) (r k : ℕ) (x d : A) → (r ≡ k → ⊥) → get_or (slice_set xs r x) k d ≡ get_or xs k d
set_other [] r k x d h = refl
set_other (y ∷ ys) zero zero x d h = absurd (h refl)
set_other (y ∷ ys) zero (suc k) x d h = refl
set_other (y ∷ ys) (suc r) zero x d h = refl
set_other (y ∷ ys) (suc r) (suc k) x d h = set_other ys r k x d (λ e. h (omega arith))

pub assigned_other : (vs : List ℤ) (rs : List ℕ) (ns : List ℤ) (j k : ℕ) → AreBehind j rs → k < j → variable (assigned vs rs ns) k ≡ variable vs k
unfolding AreBehind
assigned_other vs [] ns j k h lt = refl
assigned_other vs (r ∷ rs) [] j k h lt = refl
assigned_other vs (r ∷ rs) (x ∷ ns) j k h lt = assigned_other (slice_set vs r x) rs ns j k h.1 lt ∙ set_other vs r k x (pos 0) (λ e. let le = h.0 in omega arith)

behind_from : (first end : ℕ) (rs : List ℕ) → list_all (λ r. nat_le first r && nat_lt r end) rs ≡ true → AreBehind first rs
unfolding AreBehind
behind_from first end [] h = tt
behind_from first end (r ∷ rs) h =
    let here = left_true (nat_le first r && nat_lt r end) (list_all (λ r. nat_le first r && nat_lt r end) rs) h in
    let low = left_true (nat_le first r) (nat_lt r end) here in
    (grind (arith, nat_tests), behind_from first end rs (right_true (nat_le first r && nat_lt r end) _ h))

targets_behind : (o : Operation) (rs : List ℕ) → are_targets o rs ≡ true → AreBehind (2 + length o.arguments) rs
targets_behind o rs h = behind_from (2 + length o.arguments) (variable_count o) rs (right_true _ _ (left_true _ _ h))

pub edge_targets : (object : Object) (p op : ℕ) (o : Operation) (i : Instr) (e : Edge) → is_instruction object op o i ≡ true → IsIn e (edges_at object p i) → AreBehind (2 + length o.arguments) e.targets
unfolding AreBehind
edge_targets object p op o (Load a t rs l) e h (inl is) = subst (λ (x : Edge). AreBehind (2 + length o.arguments) x.targets) (sym is) (targets_behind o rs (right_true _ _ (left_true _ _ h)))
edge_targets object p op o (Load a t rs l) e h (inr none) = absurd none
edge_targets object p op o (Store a t us l) e h (inl is) = subst (λ (x : Edge). AreBehind (2 + length o.arguments) x.targets) (sym is) tt
edge_targets object p op o (Store a t us l) e h (inr none) = absurd none
edge_targets object p op o (Cas a t old new l m) e h (inl is) = subst (λ (x : Edge). AreBehind (2 + length o.arguments) x.targets) (sym is) tt
edge_targets object p op o (Cas a t old new l m) e h (inr (inl is)) = subst (λ (x : Edge). AreBehind (2 + length o.arguments) x.targets) (sym is) tt
edge_targets object p op o (Cas a t old new l m) e h (inr (inr none)) = absurd none
edge_targets object p op o (Set rs us l) e h (inl is) = subst (λ (x : Edge). AreBehind (2 + length o.arguments) x.targets) (sym is) (targets_behind o rs (right_true _ _ (left_true _ _ (left_true _ _ h))))
edge_targets object p op o (Set rs us l) e h (inr none) = absurd none
edge_targets object p op o (Faa a t rs ds l) e h (inl is) = subst (λ (x : Edge). AreBehind (2 + length o.arguments) x.targets) (sym is) (targets_behind o rs (right_true _ _ (left_true _ _ (left_true _ _ h))))
edge_targets object p op o (Faa a t rs ds l) e h (inr none) = absurd none
edge_targets object p op o (If f l m) e h (inl is) = subst (λ (x : Edge). AreBehind (2 + length o.arguments) x.targets) (sym is) tt
edge_targets object p op o (If f l m) e h (inr (inl is)) = subst (λ (x : Edge). AreBehind (2 + length o.arguments) x.targets) (sym is) tt
edge_targets object p op o (If f l m) e h (inr (inr none)) = absurd none
edge_targets object p op o (Return us) e h (inl is) = subst (λ (x : Edge). AreBehind (2 + length o.arguments) x.targets) (sym is) tt
edge_targets object p op o (Return us) e h (inr none) = absurd none

-- ---- the conditions of an edge, out of the list

pub Every-in : {A : Type 0} (P : A → Type 0) (xs : List A) (x : A) → IsIn x xs → Every P xs → P x
Every-in P [] x h all = absurd h
Every-in P (y ∷ ys) x (inl is) all = subst P (sym is) all.0
Every-in P (y ∷ ys) x (inr h) all = Every-in P ys x h all.1

pub of_edge : (D : Development) (e : Edge) → Every IsValid (conditions D) → IsIn e (edges D.object) → Every IsValid (edge_conditions D e)
of_edge D e v h =
    Every-in (λ (x : Edge). Every IsValid (edge_conditions D x)) (edges D.object) e h
    (Every-concat IsValid (edge_conditions D) (edges D.object)
    (Every_left IsValid (concat_map (edge_conditions D) (edges D.object)) _
    (Every_right IsValid (concat_places (entry_conditions D) 0 D.object.operations) _ (Every_right IsValid (start_conditions D) _ v))))

-- ---- a client at a point, and an edge that is gone

module _ (D : Development) (X : IsProven D) (n : ℕ) (w : World) (G : IsGood D n w) (c p : ℕ) (vs : List ℤ) (at : IsClient w c (In p vs))
    (e : Edge) (among : IsIn e (edges D.object)) (from : e.point ≡ p) (facts : EachHolds w.columns (variable vs) e.facts) where
  abbrev pub s : State
  s = w.columns

  abbrev pub env : Env
  env = variable vs

  abbrev pub good : IsClientGood D n s c (In p vs)
  good = G.each_client c (In p vs) at

  abbrev pub point : Point
  point = good.0

  abbrev pub op : Operation
  op = good.1

  abbrev pub on : Option On
  on = on_at D e.point e.kind

  abbrev pub τ : List Term
  τ = edge_variables (variable_count op) e

  abbrev pub hyps : List Formula
  hyps = body_hypotheses D point.operation op e.point ++ e.facts

  pub below : c < n
  below = let h = slice_get_within w.clients c (In p vs) at in let k = G.count in omega arith

  pub hyps_hold : EachHolds s env hyps
  hyps_hold =
      each-append s env (body_hypotheses D point.operation op e.point) e.facts
      (each-append s env (range (Variable 1)) (body_frame (first_system D) point.operation (length op.arguments) ++ ((invariant_of D) ++ asserts_at D e.point)) (ranged.0, (ranged.1, tt))
      (each-append s env (body_frame (first_system D) point.operation (length op.arguments)) ((invariant_of D) ++ asserts_at D e.point) good.7
      (each-append s env (invariant_of D) (asserts_at D e.point) (G.invariant env good.5) (subst (λ q. EachHolds s env (asserts_at D q)) (sym from) good.8)))) facts
    where
      ranged : (pos 0 ≤ℤ env 1) × ((env 1 +ℤ pos 1) ≤ℤ env 0)
      ranged = (subst (λ x. pos 0 ≤ℤ x) (sym good.6) (omega (arith, ints)), subst (λ x. (env 1 +ℤ pos 1) ≤ℤ x) (sym good.5) (subst (λ x. (x +ℤ pos 1) ≤ℤ pos n) (sym good.6) (omega (arith, ints, below))))

  -- the conditions of a path, which has some number
  abbrev pub Conditioned : Path → Type 0
  Conditioned q = (j : ℕ) × Every IsValid (path_conditions D e (variable_count op) on hyps j q)

  pub all_conditions : Every Conditioned (paths D.specification.operations (first_system D) 0 point.operation τ (riders_in on) (path_start e))
  all_conditions =
      Every-counted IsValid (path_conditions D e (variable_count op) on hyps) 0 (paths D.specification.operations (first_system D) 0 point.operation τ (riders_in on) (path_start e))
      (subst (λ x. Every IsValid (in_operation (λ o operation. edge_conditions_in D o operation e) point.operation x)) good.3
      (subst (λ x. Every IsValid (in_body D.object (λ o operation. edge_conditions_in D o operation e) x)) (ap (slice_get D.object.points) from ∙ good.2) (of_edge D e X.valid among)))

  duties_met : (j : ℕ) (ds : List Duty) → Every IsValid (map (duty_condition e (variable_count op) j hyps) ds) → Every (Met D X.resolved s env τ n) ds
  duties_met j [] v = tt
  duties_met j (d ∷ ds) v = ((λ f. v.0.holds s env (each-append s env hyps d.facts hyps_hold f)), duties_met j ds v.1)

  pub met : Every (AllMet D X.resolved s env τ n) (paths D.specification.operations (first_system D) 0 point.operation τ (riders_in on) (path_start e))
  met = Every-map Conditioned (AllMet D X.resolved s env τ n) (paths D.specification.operations (first_system D) 0 point.operation τ (riders_in on) (path_start e))
      (λ q v. duties_met v.0 q.duties (Every_left IsValid (map (duty_condition e (variable_count op) v.0 hyps) q.duties) _ v.1)) all_conditions

  -- the riders can be done, from the columns that the edge leaves and with its variables
  pub rides_on : Every (IsRiderResolved D point.operation) (riders_in on) → Only (first_system D) n (updated s vs s e.updates) → variable (assigned vs e.targets (numbers s vs e.values)) 1 ≡ pos c →
      (ms : List Mark) × (m : State) × RideAll D.specification.operations (first_system D) c point.operation (variable (assigned vs e.targets (numbers s vs e.values))) (updated s vs s e.updates) (riders_in on) ms m × Only (first_system D) n m
  rides_on resolved only one =
      let vars = edge_variables_are s vs (variable_count op) e good.4 in
      let cols = edge_columns_are s vs e in
      let r = ride D X.resolved s env τ n c point.operation ((λ i. variable (vars i) 1) ∙ one) 0 (riders_in on) (path_start e) resolved tt (subst (Only (first_system D) n) (sym cols) only) met in (
        r.0,
        r.1,
        subst (λ x. RideAll D.specification.operations (first_system D) c point.operation (variable x) (updated s vs s e.updates) (riders_in on) r.0 r.1) vars
            (subst (λ x. RideAll D.specification.operations (first_system D) c point.operation (variable (values_by s env τ)) x (riders_in on) r.0 r.1) cols r.2),
        r.3,
      )
