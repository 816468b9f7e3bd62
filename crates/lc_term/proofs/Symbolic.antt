-- Column expressions after stores stand for the columns that the stores leave, and terms for variables.
use Rattle.std.proofs.Common.{◌≡◌, ℕ, zero, suc, ◌+◌, ◌==◌, if◌then◌else◌, Bool, true, false, List, [], ◌∷◌, ◌++◌, ℤ, pos, map, length, refl, sym, ap, ap₂, ◌∙◌, subst, arith}
use Rattle.std.specs.Prelude.{slice_set}
use Rattle.std.proofs.Math.ListN.{get_or-map}
use mathlib.Core.Path.{fun_ext}
use Rattle.lc_term.specs.Updates.{Update, stored_all, write_of, writes_of, values_of, variable, assigned, row, cell_writes}
use Rattle.lc_term.specs.Syntax.{Term, Number, Column, Store, Formula}
use Rattle.lc_term.specs.Meaning.{State, Env, outside, value, column, Holds, EachHolds}
use Rattle.lc_term.specs.State.{with_cell}
use Rattle.lc_term.specs.Replacement.{replacing, replace_term}
use Rattle.lc_term.proofs.Replacement.{value-replace}
use Rattle.lc_term.proofs.Substituted.{Holds-replacing}
use Rattle.lc_term.specs.Said.{put, puts, term_at, said, after, told, variables_from, reads, at_client}

-- the columns and the variables that column expressions and terms stand for
abbrev pub columns_by : State → Env → (ℕ → Column) → State
columns_by s e σ = λ c. column s e outside (σ c)

abbrev pub values_by : State → Env → List Term → List ℤ
values_by s e τ = map (value s e outside) τ

module _ (s : State) (e : Env) where
  column-if : (b : Bool) (x y : Column) → column s e outside (if b then x else y) ≡ (if b then column s e outside x else column s e outside y)
  column-if true x y = refl
  column-if false x y = refl

  pub columns_by-put : (σ : ℕ → Column) (u : Update) → columns_by s e (put σ u) ≡ with_cell (columns_by s e σ) u.column (value s e outside u.index) (value s e outside u.value)
  columns_by-put σ u = λ i c. column-if (u.column == c) (Store (σ c) u.index u.value) (σ c) i

  pub columns_by-puts : (σ : ℕ → Column) (us : List Update) → columns_by s e (puts σ us) ≡ stored_all (columns_by s e σ) (writes_of s e us)
  columns_by-puts σ [] = refl
  columns_by-puts σ (u ∷ us) = columns_by-puts (put σ u) us ∙ ap (λ m. stored_all m (writes_of s e us)) (columns_by-put σ u)

  pub variables_by : (τ : List Term) → (λ k. value s e outside (term_at τ k)) ≡ variable (values_by s e τ)
  variables_by τ = fun_ext (λ k. sym (get_or-map (value s e outside) τ k (Number (pos 0))))

  -- an update said of the state before
  pub write-said : (σ : ℕ → Column) (τ : List Term) (u : Update) → write_of s e (said σ τ u) ≡ write_of (columns_by s e σ) (variable (values_by s e τ)) u
  write-said σ τ u =
      let there : (t : Term) → value s e outside (replace_term (replacing σ (term_at τ)) t) ≡ value (columns_by s e σ) (variable (values_by s e τ)) outside t =
      λ t. value-replace s e outside (replacing σ (term_at τ)) t ∙ ap (λ v. value (columns_by s e σ) v outside t) (variables_by τ) in
      λ i. record { column = u.column; index = there u.index i; value = there u.value i }

  pub value-said : (σ : ℕ → Column) (τ : List Term) (t : Term) → value s e outside (replace_term (replacing σ (term_at τ)) t) ≡ value (columns_by s e σ) (variable (values_by s e τ)) outside t
  value-said σ τ t = value-replace s e outside (replacing σ (term_at τ)) t ∙ ap (λ v. value (columns_by s e σ) v outside t) (variables_by τ)

  writes-said : (σ : ℕ → Column) (τ : List Term) (us : List Update) → writes_of s e (map (said σ τ) us) ≡ writes_of (columns_by s e σ) (variable (values_by s e τ)) us
  writes-said σ τ [] = refl
  writes-said σ τ (u ∷ us) = λ i. write-said σ τ u i ∷ writes-said σ τ us i

  pub columns_by-after : (σ : ℕ → Column) (τ : List Term) (us : List Update) → columns_by s e (after σ τ us) ≡ stored_all (columns_by s e σ) (writes_of (columns_by s e σ) (variable (values_by s e τ)) us)
  columns_by-after σ τ us = columns_by-puts σ (map (said σ τ) us) ∙ ap (stored_all (columns_by s e σ)) (writes-said σ τ us)

  -- a formula said of the state before
  pub Holds-told : (σ : ℕ → Column) (τ : List Term) (f : Formula) → Holds s e outside (told σ τ f) ≡ Holds (columns_by s e σ) (variable (values_by s e τ)) outside f
  Holds-told σ τ f = Holds-replacing s e outside σ (term_at τ) f ∙ ap (λ v. Holds (columns_by s e σ) v outside f) (variables_by τ)

  pub each_told : (σ : ℕ → Column) (τ : List Term) (m : State) (v : Env) → columns_by s e σ ≡ m → variable (values_by s e τ) ≡ v → (fs : List Formula) → EachHolds s e (map (told σ τ) fs) → EachHolds m v fs
  each_told σ τ m v p q [] h = tt
  each_told σ τ m v p q (f ∷ fs) h = (subst (λ X. X) (Holds-told σ τ f ∙ (λ i. Holds (p i) (q i) outside f)) h.0, each_told σ τ m v p q fs h.1)

  pub each_told_back : (σ : ℕ → Column) (τ : List Term) (m : State) (v : Env) → columns_by s e σ ≡ m → variable (values_by s e τ) ≡ v → (fs : List Formula) → EachHolds m v fs → EachHolds s e (map (told σ τ) fs)
  each_told_back σ τ m v p q [] h = tt
  each_told_back σ τ m v p q (f ∷ fs) h = (subst (λ X. X) (sym (Holds-told σ τ f ∙ (λ i. Holds (p i) (q i) outside f))) h.0, each_told_back σ τ m v p q fs h.1)

-- ---- lists of formulas

pub each-append : (s : State) (e : Env) (fs gs : List Formula) → EachHolds s e fs → EachHolds s e gs → EachHolds s e (fs ++ gs)
each-append s e [] gs p q = q
each-append s e (f ∷ fs) gs p q = (p.0, each-append s e fs gs p.1 q)

pub each_left : (s : State) (e : Env) (fs gs : List Formula) → EachHolds s e (fs ++ gs) → EachHolds s e fs
each_left s e [] gs h = tt
each_left s e (f ∷ fs) gs h = (h.0, each_left s e fs gs h.1)

pub each_right : (s : State) (e : Env) (fs gs : List Formula) → EachHolds s e (fs ++ gs) → EachHolds s e gs
each_right s e [] gs h = h
each_right s e (f ∷ fs) gs h = each_right s e fs gs h.1

-- ---- variables in order

pub values_from : (s : State) (e : Env) (vs : List ℤ) (j : ℕ) → ((k : ℕ) → e (j + k) ≡ variable vs k) → values_by s e (variables_from j (length vs)) ≡ vs
values_from s e [] j h = refl
values_from s e (v ∷ vs) j h =
    ap₂ (λ x xs. x ∷ xs) (ap e (omega arith) ∙ h 0) (values_from s e vs (suc j) (λ k. ap e (omega arith) ∙ h (suc k)))

pub own_values : (s : State) (vs : List ℤ) → values_by s (variable vs) (variables_from 0 (length vs)) ≡ vs
own_values s vs = values_from s (variable vs) vs 0 (λ k. ap (variable vs) (omega arith))

map-set : {A B : Type 0} (f : A → B) (xs : List A) (k : ℕ) (x : A) → map f (slice_set xs k x) ≡ slice_set (map f xs) k (f x)
map-set f [] k x = refl
map-set f (y ∷ ys) zero x = refl
map-set f (y ∷ ys) (suc k) x = ap (λ zs. f y ∷ zs) (map-set f ys k x)

-- an assignment, said of the state before, is the assignment
pub values_put : (s : State) (e : Env) (τ : List Term) (rs : List ℕ) (ts : List Term) → values_by s e (assigned τ rs ts) ≡ assigned (values_by s e τ) rs (values_by s e ts)
values_put s e τ [] ts = refl
values_put s e τ (r ∷ rs) [] = refl
values_put s e τ (r ∷ rs) (t ∷ ts) = values_put s e (slice_set τ r t) rs ts ∙ ap (λ xs. assigned xs rs (values_by s e ts)) (map-set (value s e outside) τ r t)

-- what a branch stores at its client
pub writes_at_client : (m : State) (v : Env) (cs : List ℕ) (ts : List Term) → writes_of m v (at_client cs ts) ≡ cell_writes cs (v 1) (values_of m v ts)
writes_at_client m v [] ts = refl
writes_at_client m v (c ∷ cs) [] = refl
writes_at_client m v (c ∷ cs) (t ∷ ts) = ap (λ ws. record { column = c; index = v 1; value = value m v outside t } ∷ ws) (writes_at_client m v cs ts)

pub values_of_reads : (s : State) (e : Env) (σ : ℕ → Column) (cs : List ℕ) (t : Term) → values_by s e (reads σ cs t) ≡ row (columns_by s e σ) cs (value s e outside t)
values_of_reads s e σ [] t = refl
values_of_reads s e σ (c ∷ cs) t = ap (λ xs. column s e outside (σ c) (value s e outside t) ∷ xs) (values_of_reads s e σ cs t)
