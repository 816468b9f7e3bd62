-- The step of an edge is an instance of its action.
use Rattle.std.proofs.Common.{◌≡◌, ℕ, zero, suc, ◌+◌, ◌<◌, ◌≤◌, ◌&&◌, if◌then◌else◌, nat_lt, Bool, true, false, List, [], ◌∷◌, ℤ, pos, Some, map, refl, sym, ap, ◌∙◌, subst, arith, ltb-true, ltb-false, eqb-true}
use mathlib.Core.Path.{fun_ext}
use Rattle.lc_lemmas.proofs.Booleans.{left_true, right_true}
use Rattle.lc_term.specs.Updates.{Update, Write, stored_all, writes_of, variable}
use Rattle.lc_term.specs.Syntax.{Term, Variable, Column, Base, Store, Affine, Formula}
use Rattle.lc_term.specs.Meaning.{State, Env, outside, value, column, Holds, EachHolds}
use Rattle.lc_term.proofs.Replacement.{column-raised}
use Rattle.lc_object.specs.Edges.{Edge}
use Rattle.lc_term.specs.Lists.{Every}
use Rattle.lc_term.specs.Said.{after}
use Rattle.lc_term.specs.SystemColumns.{column_count}
use Rattle.lc_action.specs.Action.{Action, Acts, acting_variables}
use Rattle.lc_outline.specs.Development.{Development, first_system}
use Rattle.lc_cond.specs.Conditions.{is_base, same_column, column_condition, column_conditions, action_conditions}
use Rattle.lc_sound.specs.Valid.{IsValid}
use Rattle.lc_term.proofs.Stores.{Every_left, Every_right, writes_other}
use Rattle.lc_term.proofs.Symbolic.{columns_by, values_by, columns_by-after, Holds-told}

-- a column itself stands for itself
base_is : (s : State) (e : Env) (k : ℕ) (x : Column) → is_base k x ≡ true → column s e outside x ≡ s k
base_is s e k (Base c) h = ap s (eqb-true c k h)
base_is s e k (Store c i v) h = absurd cc
base_is s e k (Affine a b) h = absurd cc

-- what the condition of a column says
same_cells : (s : State) (e : Env) (x y : Column) → Holds s e outside (same_column x y) → column s e outside x ≡ column s e outside y
same_cells s e x y h = fun_ext (λ z. ap (λ f. f z) (sym (column-raised s e outside z x)) ∙ (h z ∙ ap (λ f. f z) (column-raised s e outside z y)))

one_column : (s : State) (e : Env) (at : Edge) (v j : ℕ) (k : ℕ) (hs : List Formula) (σ π : ℕ → Column) (b : Bool) → (is_base k (σ k) && is_base k (π k)) ≡ b →
    Every IsValid (if b then [] else column_condition at v j hs k (same_column (σ k) (π k)) ∷ []) → EachHolds s e hs → columns_by s e σ k ≡ columns_by s e π k
one_column s e at v j k hs σ π true is valid h = base_is s e k (σ k) (left_true (is_base k (σ k)) (is_base k (π k)) is) ∙ sym (base_is s e k (π k) (right_true (is_base k (σ k)) (is_base k (π k)) is))
one_column s e at v j k hs σ π false is valid h = same_cells s e (σ k) (π k) (valid.0.holds s e h)

columns_from : (s : State) (e : Env) (at : Edge) (v path j n : ℕ) (hs : List Formula) (σ π : ℕ → Column) → Every IsValid (column_conditions (column_condition at v path hs) j n σ π) → EachHolds s e hs → (d : ℕ) → d < n → columns_by s e σ (j + d) ≡ columns_by s e π (j + d)
columns_from s e at v path j zero hs σ π valid h d lt = absurd (omega arith)
columns_from s e at v path j (suc n) hs σ π valid h zero lt =
    let here : columns_by s e σ j ≡ columns_by s e π j =
    one_column s e at v path j hs σ π (is_base j (σ j) && is_base j (π j)) refl
    (Every_left IsValid (if is_base j (σ j) && is_base j (π j) then [] else column_condition at v path hs j (same_column (σ j) (π j)) ∷ []) (column_conditions (column_condition at v path hs) (suc j) n σ π) valid) h in
    subst (λ x. columns_by s e σ x ≡ columns_by s e π x) (omega arith) here
columns_from s e at v path j (suc n) hs σ π valid h (suc d) lt =
    subst (λ x. columns_by s e σ x ≡ columns_by s e π x) (omega arith)
    (columns_from s e at v path (suc j) n hs σ π (Every_right IsValid (if is_base j (σ j) && is_base j (π j) then [] else column_condition at v path hs j (same_column (σ j) (π j)) ∷ []) (column_conditions (column_condition at v path hs) (suc j) n σ π) valid) h d (omega arith))

inside : (s m : State) (e : Env) (us : List Update) (n k : ℕ) → Every (λ (u : Update). u.column < n) us → n ≤ k → stored_all m (writes_of s e us) k ≡ m k
inside s m e us n k h le = writes_other m (writes_of s e us) k (go us h)
  where
    go : (us : List Update) → Every (λ (u : Update). u.column < n) us → Every (λ (w : Write). w.column ≡ k → ⊥) (writes_of s e us)
    go [] h = tt
    go (u ∷ us) h = ((λ x. let lt = h.0 in omega arith), go us h.1)

-- if its conditions are valid and the columns after the last stay as they are, a step is an instance of the action
pub valid_action_acts : (D : Development) (e : Edge) (count path : ℕ) (s m : State) (vs : List ℤ) (clients c : ℕ) (hs : List Formula) (σ : ℕ → Column) (ts : List Term) (a : Action) → variable vs 0 ≡ pos clients → variable vs 1 ≡ pos c →
    Every (λ (u : Update). u.column < column_count (first_system D)) a.updates → Every IsValid (action_conditions D e count path hs σ ts (Some a)) → EachHolds s (variable vs) hs → columns_by s (variable vs) σ ≡ m →
    ((k : ℕ) → column_count (first_system D) ≤ k → m k ≡ s k) → Acts clients a c (map (value s (variable vs) outside) ts) s m
valid_action_acts D e count path s m vs clients c hs σ ts a zeroth first few v h is beyond = (
  subst (λ X. X) (Holds-told s (variable vs) Base (acting_variables (Variable 1) ts) a.guard ∙ (λ i. Holds s (variable (values i)) outside a.guard)) (v.0.holds s (variable vs) h),
  fun_ext (λ k. by k (nat_lt k (column_count (first_system D))) refl),
)
  where
    values : values_by s (variable vs) (acting_variables (Variable 1) ts) ≡ pos clients ∷ pos c ∷ map (value s (variable vs) outside) ts
    values = λ i. zeroth i ∷ first i ∷ map (value s (variable vs) outside) ts

    π : ℕ → Column
    π = after Base (acting_variables (Variable 1) ts) a.updates

    made : columns_by s (variable vs) π ≡ stored_all s (writes_of s (variable (pos clients ∷ pos c ∷ map (value s (variable vs) outside) ts)) a.updates)
    made = columns_by-after s (variable vs) Base (acting_variables (Variable 1) ts) a.updates ∙ (λ i. stored_all s (writes_of s (variable (values i)) a.updates))

    by : (k : ℕ) (b : Bool) → nat_lt k (column_count (first_system D)) ≡ b → m k ≡ stored_all s (writes_of s (variable (pos clients ∷ pos c ∷ map (value s (variable vs) outside) ts)) a.updates) k
    by k true eq =
        (λ i. sym is i k) ∙ (subst (λ x. columns_by s (variable vs) σ x ≡ columns_by s (variable vs) π x) (omega arith) (columns_from s (variable vs) e count path 0 (column_count (first_system D)) hs σ π v.1 h k (ltb-true k (column_count (first_system D)) eq)) ∙ (λ i. made i k))
    by k false eq =
        beyond k (ltb-false k (column_count (first_system D)) eq)
        ∙ sym (inside s s (variable (pos clients ∷ pos c ∷ map (value s (variable vs) outside) ts)) a.updates (column_count (first_system D)) k few (ltb-false k (column_count (first_system D)) eq))
