-- The start, and an invocation.
use Rattle.std.proofs.Common.{◌≡◌, ℕ, zero, suc, ◌+◌, ◌<◌, ◌≤◌, ◌⊎◌, ◌&&◌, ◌==◌, Bool, true, false, true≢false, List, [], ◌∷◌, ◌++◌, ℤ, pos, ◌+ℤ◌, ◌*ℤ◌, ◌≤ℤ◌, Some, map, length, replicate, refl, sym, ap, ap₂, ◌∙◌, subst, inl, inr, arith, eqb-true}
use Rattle.std.specs.Prelude.{slice_get, slice_set}
use Rattle.std.specs.Ordering.{int_eq}
use Rattle.std.proofs.lemmas.Bool.{eqb-false}
use Rattle.std.proofs.lemmas.Bool.Decides.{Decides-int_eq}
use Rattle.std.proofs.lemmas.Int.{ints}
use Rattle.std.proofs.lemmas.List.{length-set, length-replicate, map-append}
use Rattle.std.proofs.Math.ListN.{get_or-append}
use Rattle.std.proofs.lemmas.Option.{same_Some, slice_get_within}
use mathlib.Core.Path.{fun_ext}
use Rattle.lc_lemmas.proofs.Booleans.{left_true, right_true}
use Rattle.lc_term.specs.Updates.{stored_all, writes_of, variable}
use Rattle.lc_term.specs.Syntax.{Number, Variable, Base, Formula, Le}
use Rattle.lc_term.specs.Meaning.{State, Env, outside, value, column, affine, EachHolds}
use Rattle.lc_term.specs.State.{initial_state}
use Rattle.lc_term.proofs.Substituted.{Holds-replacing}
use Rattle.lc_history.proofs.Tables.{slice_get-set, slice_get-set_other}
use Rattle.lc_object.specs.Syntax.{Operation, Object}
use Rattle.lc_object.specs.WellFormed.{is_object, is_first, are_operations, has_limits}
use Rattle.lc_machine.specs.World.{Client, Idle, In, World, first_variables}
use Rattle.lc_machine.specs.Step.{IsClient}
use Rattle.lc_machine.proofs.Promised.{first_count}
use Rattle.lc_term.specs.Lists.{concat_places, Every}
use Rattle.lc_object.proofs.ObjectParts.{operations_pass, first_stands}
use Rattle.lc_term.specs.Said.{told, variables_from}
use Rattle.lc_term.specs.SystemColumns.{pend, op_column, arg_columns, noted}
use Rattle.lc_rider.specs.Rider.{argument, invocation_writes}
use Rattle.lc_action.specs.Action.{enter, leave, Acts}
use Rattle.lc_outline.specs.Development.{invariant_of, Development, first_system, start_columns, start_numbers, asserts_at}
use Rattle.lc_tie.specs.Tie.{start_column}
use Rattle.lc_cond.specs.Conditions.{Init, InitIdle, Entry, First, conditions_of, range, idle_frame, body_frame, hold_variables, start_formula, start_conditions, padded, enter_variables, entry_variables, entered, entry_conditions, at_start, at_entry}
use Rattle.lc_sound.specs.Instrumented.{start_world}
use Rattle.lc_sound.specs.Claims.{IsProven, IsClientGood, IsGood, own}
use Rattle.lc_sound.specs.Valid.{IsValid}
use Rattle.lc_term.proofs.Stores.{Every_left, Every_right, writes_away}
use Rattle.lc_term.proofs.Symbolic.{columns_by, values_by, columns_by-after, each_told, each-append}
use Rattle.lc_sound.proofs.Stable.{each_agree}
use Rattle.lc_outline.proofs.Matched.{match_at, arity_and_replies_few}
use Rattle.lc_sound.proofs.RowChanges.{invocation_at}
use Rattle.lc_sound.proofs.Rideable.{Only, at_other}
use Rattle.lc_sound.proofs.Going.{valid_goals}
use Rattle.lc_sound.proofs.Ordered.{system_start}
use Rattle.lc_sound.proofs.Others.{FrameAt, By, other_good, Every-places}
use Rattle.lc_sound.proofs.Gone.{Led, label_point}
use Rattle.lc_machine.proofs.EdgeLaw.{in_back}

-- ---- the start

zero_column : affine (pos 0) (pos 0) ≡ (λ i. pos 0)
zero_column = fun_ext (λ j. nought j)
  where
    nought : (j : ℤ) → (pos 0 *ℤ j) +ℤ pos 0 ≡ pos 0
    nought j = omega (arith, ints)

start_column_is : (s : State) (e : Env) (ns : List (ℤ × ℤ)) (c : ℕ) → column s e outside (start_column ns c) ≡ initial_state ns c
start_column_is s e [] c = zero_column
start_column_is s e (x ∷ ns) zero = refl
start_column_is s e (x ∷ ns) (suc c) = start_column_is s e ns c

start_said : (D : Development) (s : State) (e : Env) (fs : List Formula) → EachHolds s e (map (start_formula D) fs) → EachHolds (start_columns D) e fs
start_said D s e [] h = tt
start_said D s e (f ∷ fs) h =
    (subst (λ X. X) (Holds-replacing s e outside (start_column (start_numbers D)) Variable f ∙ (λ i. Rattle.lc_term.specs.Meaning.Holds (fun_ext (start_column_is s e (start_numbers D)) i) e outside f)) h.0, start_said D s e fs h.1)

pub idle_in : (n r : ℕ) (x : Client) → slice_get (replicate n Idle) r ≡ Some x → x ≡ Idle
idle_in zero r x h = absurd cc
idle_in (suc n) zero x h = sym (same_Some Idle x h)
idle_in (suc n) (suc r) x h = idle_in n r x h

pub start_good : (D : Development) → IsProven D → (n : ℕ) → IsGood D n (start_world D n)
start_good D X n = record {
  count = length-replicate n Idle;
  invariant = λ e z. start_said D s e (invariant_of D) (valid_goals s e (at_start Init 1) (Le (Number (pos 0)) (Variable 0) ∷ []) (map (start_formula D) (invariant_of D)) (Every_left IsValid _ (conditions_of (at_start InitIdle 2) (range (Variable 1)) (map (start_formula D) D.idle)) starts)
      (subst (λ x. pos 0 ≤ℤ x) (sym z) (omega (arith, ints)), tt));
  each_client = λ r x is. subst (IsClientGood D n (start_columns D) r) (sym (idle_in n r x is)) (idles r (let a = slice_get_within (replicate n Idle) r x is in let b = length-replicate n Idle in omega arith));
  only = λ i. inl (system_start D (first_system D) i (omega arith));
}
  where
    s : State
    s = start_columns D

    starts : Every IsValid (start_conditions D)
    starts = Every_left IsValid (start_conditions D) _ X.valid

    idles : (r : ℕ) → r < n → IsClientGood D n (start_columns D) r Idle
    idles r lt = (
      (system_start D (first_system D) (pos r) (omega arith), tt),
      start_said D s (variable (own n r)) D.idle (valid_goals s (variable (own n r)) (at_start InitIdle 2) (range (Variable 1)) (map (start_formula D) D.idle)
          (Every_right IsValid (conditions_of (at_start Init 1) (Le (Number (pos 0)) (Variable 0) ∷ []) (map (start_formula D) (invariant_of D))) _ starts) (omega (arith, ints), (low r lt, tt))),
    )
      where
        low : (r : ℕ) → r < n → (pos r +ℤ pos 1) ≤ℤ pos n
        low r lt = omega (arith, ints)

-- ---- an invocation

entry_at : (object : Object) (n : ℕ) (os : List Operation) (k : ℕ) (o : Operation) → are_operations object n os ≡ true → slice_get os k ≡ Some o → Led object (n + k) o.entry
entry_at object n [] k o h e = absurd cc
entry_at object n (x ∷ os) zero o h e =
    let mine = first_stands object.points n x.entry (right_true (has_limits x) (is_first object.points n x.entry) (left_true (has_limits x && is_first object.points n x.entry) (are_operations object (suc n) os) h)) in
    subst (λ j. Led object j o.entry) (omega arith) (subst (λ (y : Operation). Led object n y.entry) (same_Some x o e) (label_point object n x.entry (slice_get object.points x.entry) refl mine))
entry_at object n (x ∷ os) (suc k) o h e =
    subst (λ j. Led object j o.entry) (omega arith) (entry_at object (suc n) os k o (right_true (has_limits x && is_first object.points n x.entry) (are_operations object (suc n) os) h) e)

pub entry_point : (object : Object) → is_object object ≡ true → (k : ℕ) (o : Operation) → slice_get object.operations k ≡ Some o → Led object k o.entry
entry_point object well k o e = subst (λ j. Led object j o.entry) (omega arith) (entry_at object 0 object.operations k o (operations_pass object well) e)

padded_values : (s : State) (a b : ℤ) (ns rest : List ℤ) → length ns ≤ 3 →
    values_by s (variable (a ∷ b ∷ ns ++ rest)) (padded 3 (variables_from 2 (length ns))) ≡ argument ns 0 ∷ argument ns 1 ∷ argument ns 2 ∷ []
padded_values s a b [] rest le = refl
padded_values s a b (x ∷ []) rest le = refl
padded_values s a b (x ∷ y ∷ []) rest le = refl
padded_values s a b (x ∷ y ∷ z ∷ []) rest le = refl
padded_values s a b (x ∷ y ∷ z ∷ w ∷ ns) rest le = absurd (omega arith)

held_arguments : (first c : ℕ) (m : State) (a : ℤ) (ns rest : List ℤ) → length ns ≤ 3 → m (2 + first) (pos c) ≡ argument ns 0 → m (3 + first) (pos c) ≡ argument ns 1 → m (4 + first) (pos c) ≡ argument ns 2 →
    EachHolds m (variable (a ∷ pos c ∷ ns ++ rest)) (hold_variables (arg_columns first) 2 (length ns))
held_arguments first c m a [] rest le x y z = tt
held_arguments first c m a (p ∷ []) rest le x y z = (x, tt)
held_arguments first c m a (p ∷ q ∷ []) rest le x y z = (x, (y, tt))
held_arguments first c m a (p ∷ q ∷ r ∷ []) rest le x y z = (x, (y, (z, tt)))
held_arguments first c m a (p ∷ q ∷ r ∷ t ∷ ns) rest le x y z = absurd (omega arith)

-- the variables in front
values_before : (s : State) (e : Env) (vs : List ℤ) (j : ℕ) → ((k : ℕ) → k < length vs → e (j + k) ≡ variable vs k) → values_by s e (variables_from j (length vs)) ≡ vs
values_before s e [] j h = refl
values_before s e (v ∷ vs) j h = ap₂ (λ x xs. x ∷ xs) (ap e (omega arith) ∙ h 0 (omega arith)) (values_before s e vs (suc j) (λ k lt. ap e (omega arith) ∙ h (suc k) (omega arith)))

zeros : (s : State) (e : Env) (k : ℕ) → values_by s e (replicate k (Number (pos 0))) ≡ replicate k (pos 0)
zeros s e zero = refl
zeros s e (suc k) = ap (λ xs. pos 0 ∷ xs) (zeros s e k)

module _ (D : Development) (X : IsProven D) (n : ℕ) (w : World) (G : IsGood D n w) (c o : ℕ) (ns : List ℤ) (x : Operation) (is : slice_get D.object.operations o ≡ Some x) (whole : length ns ≡ length x.arguments) (idle : IsClient w c Idle) where
  abbrev s : State
  s = w.columns

  abbrev first : ℕ
  first = first_system D

  abbrev pub vs : List ℤ
  vs = first_variables n c x ns

  abbrev pub M : State
  M = stored_all s (invocation_writes first c o ns)

  below : c < n
  below = let h = slice_get_within w.clients c Idle idle in let k = G.count in omega arith

  was : IsClientGood D n s c Idle
  was = G.each_client c Idle idle

  short : length ns ≤ 3
  short = let m = (match_at D X.resolved o x is).arguments in let f = (arity_and_replies_few D X.resolved o).0 in omega arith

  abbrev zs : List ℤ
  zs = replicate (length x.locals) (pos 0)

  enter_values : values_by s (variable vs) (enter_variables o (length x.arguments)) ≡ pos n ∷ pos c ∷ pos o ∷ argument ns 0 ∷ argument ns 1 ∷ argument ns 2 ∷ []
  enter_values = ap (λ ys. pos n ∷ pos c ∷ pos o ∷ ys) (subst (λ k. values_by s (variable vs) (padded 3 (variables_from 2 k)) ≡ argument ns 0 ∷ argument ns 1 ∷ argument ns 2 ∷ []) whole (padded_values s (pos n) (pos c) ns zs short))

  entered_is : columns_by s (variable vs) (entered first o x) ≡ M
  entered_is = columns_by-after s (variable vs) Base (enter_variables o (length x.arguments)) (enter first).updates ∙ (λ i. stored_all s (writes_of s (variable (enter_values i)) (enter first).updates))

  entry_values : values_by s (variable vs) (entry_variables x) ≡ vs
  entry_values =
      map-append (value s (variable vs) outside) (variables_from 0 (2 + length x.arguments)) (replicate (length x.locals) (Number (pos 0)))
      ∙ ap₂ (λ a b. a ++ b) (subst (λ k. values_by s (variable vs) (variables_from 0 (2 + k)) ≡ pos n ∷ pos c ∷ ns) whole front) (zeros s (variable vs) (length x.locals))
    where
      front : values_by s (variable vs) (variables_from 0 (2 + length ns)) ≡ pos n ∷ pos c ∷ ns
      front =
          let count : length (pos n ∷ pos c ∷ ns) ≡ 2 + length ns = omega arith in
          subst (λ j. values_by s (variable vs) (variables_from 0 j) ≡ pos n ∷ pos c ∷ ns) count
          (values_before s (variable vs) (pos n ∷ pos c ∷ ns) 0 (λ k lt. ap (variable vs) (omega arith) ∙ get_or-append (pos n ∷ pos c ∷ ns) zs (pos 0) k lt))

  abbrev hyps : List Formula
  hyps = range (Variable 1) ++ (idle_frame first ++ ((invariant_of D) ++ D.idle))

  hyps_hold : EachHolds s (variable vs) hyps
  hyps_hold =
      each-append s (variable vs) (range (Variable 1)) (idle_frame first ++ ((invariant_of D) ++ D.idle)) (omega (arith, ints), (top below, tt))
      (was.0.0, each-append s (variable vs) (invariant_of D) D.idle (G.invariant (variable vs) refl) (each_agree s (variable (own n c)) (variable vs) 2 D.idle two X.resolved.idle was.1))
    where
      top : c < n → (pos c +ℤ pos 1) ≤ℤ pos n
      top lt = omega (arith, ints)

      two : (k : ℕ) → k < 2 → variable (own n c) k ≡ variable vs k
      two zero lt = refl
      two (suc zero) lt = refl
      two (suc (suc k)) lt = absurd (omega arith)

  conds : Every IsValid (entry_conditions D o x)
  conds = subst (λ k. Every IsValid (entry_conditions D k x)) (omega arith)
      (Every-places IsValid (entry_conditions D) 0 D.object.operations o x (Every_left IsValid (concat_places (entry_conditions D) 0 D.object.operations) _ (Every_right IsValid (start_conditions D) _ X.valid)) is)

  invariant_after : EachHolds M (variable vs) (invariant_of D)
  invariant_after = each_told s (variable vs) (entered first o x) (entry_variables x) M (variable vs) entered_is (ap variable entry_values) (invariant_of D)
      (valid_goals s (variable vs) (at_entry Entry x) hyps (map (told (entered first o x) (entry_variables x)) (invariant_of D)) (Every_left IsValid (conditions_of (at_entry Entry x) hyps (map (told (entered first o x) (entry_variables x)) (invariant_of D))) _ conds) hyps_hold)

  first_after : EachHolds M (variable vs) (asserts_at D x.entry)
  first_after = each_told s (variable vs) (entered first o x) (entry_variables x) M (variable vs) entered_is (ap variable entry_values) (asserts_at D x.entry)
      (valid_goals s (variable vs) (at_entry First x) hyps (map (told (entered first o x) (entry_variables x)) (asserts_at D x.entry)) (Every_right IsValid (conditions_of (at_entry Entry x) hyps (map (told (entered first o x) (entry_variables x)) (invariant_of D))) _ conds) hyps_hold)

  invariant_new : (e : Env) → e 0 ≡ pos n → EachHolds M e (invariant_of D)
  invariant_new e z = each_agree M (variable vs) e 1 (invariant_of D) only X.resolved.invariant invariant_after
    where
      only : (k : ℕ) → k < 1 → variable vs k ≡ e k
      only zero lt = sym z
      only (suc k) lt = absurd (omega arith)

  own_good : IsClientGood D n M c (In x.entry vs)
  own_good =
      let pt = entry_point D.object X.resolved.object o x is in
      let six = Rattle.lc_term.proofs.Stores.read_back s (pend first ∷ op_column first ∷ arg_columns first ++ noted first ∷ []) (pos c) (pos 1 ∷ pos o ∷ argument ns 0 ∷ argument ns 1 ∷ argument ns 2 ∷ pos 0 ∷ [])
      (Rattle.lc_sound.proofs.RowChanges.six_apart D.specification.operations first s c) (omega arith) in
      let one : M (pend first) (pos c) ≡ pos 1 = cc six in
      let op : M (op_column first) (pos c) ≡ pos o = cc six in
      let x0 : M (2 + first) (pos c) ≡ argument ns 0 = cc six in
      let x1 : M (3 + first) (pos c) ≡ argument ns 1 = cc six in
      let x2 : M (4 + first) (pos c) ≡ argument ns 2 = cc six in
      let args : EachHolds M (variable vs) (hold_variables (arg_columns first) 2 (length x.arguments)) = subst (λ k. EachHolds M (variable vs) (hold_variables (arg_columns first) 2 k)) whole (held_arguments first c M (pos n) ns zs short x0 x1 x2) in
      let frame : EachHolds M (variable vs) (body_frame first o (length x.arguments)) = (subst (λ z. pos 1 ≤ℤ z) (sym one) (omega (arith, ints)), (subst (λ z. z ≤ℤ pos 2) (sym one) (omega (arith, ints)), (op, args))) in (
        pt.0,
        x,
        pt.1,
        ap (slice_get D.object.operations) pt.2 ∙ is,
        first_count n c x ns whole,
        refl,
        refl,
        subst (λ k. EachHolds M (variable vs) (body_frame first k (length x.arguments))) (sym pt.2) frame,
        first_after,
      )

  same_at : (k : ℕ) (i : ℤ) → (pos c ≡ i → ⊥) → M k i ≡ s k i
  same_at k i ne = writes_away s (invocation_writes first c o ns) k i (at_other c i (invocation_writes first c o ns) ne (invocation_at first c o ns))

  frame_of : (r : ℕ) → (r ≡ c → ⊥) → FrameAt first s M (pos r)
  frame_of r ne = record { call = λ k a b. same_at k (pos r) (λ e. ne (omega (arith, ints, e))); pend_is = inl (same_at first (pos r) (λ e. ne (omega (arith, ints, e)))) }

  pub enters : Acts n (enter first) c (pos o ∷ argument ns 0 ∷ argument ns 1 ∷ argument ns 2 ∷ []) s M
  enters = (was.0.0, refl)

  only_new : Only first n M
  only_new = λ i. by i (int_eq (pos c) i) refl
    where
      by : (i : ℤ) (b : Bool) → int_eq (pos c) i ≡ b → (M first i ≡ pos 0) ⊎ ((d : ℕ) × (d < n) × (i ≡ pos d))
      by i true h = inr (c, below, sym ((Decides-int_eq (pos c) i).0 h))
      by i false h = subst (λ z. (z ≡ pos 0) ⊎ ((d : ℕ) × (d < n) × (i ≡ pos d))) (sym (same_at first i (λ e. true≢false (sym ((Decides-int_eq (pos c) i).1 e) ∙ h)))) (G.only i)

  pub good_after : IsGood D n (record { columns = M; clients = slice_set w.clients c (In x.entry vs) })
  good_after = record {
    count = length-set w.clients c (In x.entry vs) ∙ G.count;
    invariant = invariant_new;
    each_client = λ r y h. each r y h (r == c) refl;
    only = only_new;
  }
    where
      each : (r : ℕ) (y : Client) → slice_get (slice_set w.clients c (In x.entry vs)) r ≡ Some y → (b : Bool) → (r == c) ≡ b → IsClientGood D n M r y
      each r y h true e =
          let q : r ≡ c = eqb-true r c e in
          let there = slice_get-set w.clients c (In x.entry vs) (slice_get_within w.clients c Idle idle) in
          let mine : In x.entry vs ≡ y = same_Some (In x.entry vs) y (sym there ∙ (ap (slice_get (slice_set w.clients c (In x.entry vs))) (sym q) ∙ h)) in
          subst (λ z. IsClientGood D n M r z) mine (subst (λ z. IsClientGood D n M z (In x.entry vs)) (sym q) own_good)
      each r y h false e =
          let ne = eqb-false r c e in
          let there : slice_get w.clients r ≡ Some y = sym (slice_get-set_other w.clients c r (In x.entry vs) ne) ∙ h in
          let lt = slice_get_within w.clients r y there in
          other_good D X n s M c r below (let k = G.count in omega arith) ne (frame_of r ne) G.invariant invariant_new
          (By (enter first) (pos o ∷ argument ns 0 ∷ argument ns 1 ∷ argument ns 2 ∷ []) (in_back (enter first) D.actions (enter first ∷ leave first ∷ []) (inl refl)) refl enters) y (G.each_client r y there)
