-- Variables in use stay in use: when there are more of them, and after a replacement that puts in no others.
use Rattle.std.proofs.Common.{ℕ, zero, suc, ◌≤◌, Bool, ◌&&◌, List, [], ◌∷◌, ◌++◌, IsTrue, refl, arith}
use Rattle.std.specs.Prelude.{nat_lt}
use Rattle.std.proofs.lemmas.Bool.{and_parts, and_from}
use Rattle.std.proofs.lemmas.Bool.Decides.{nat_tests}
use Rattle.lc_term.specs.Syntax.{Term, Number, Variable, Bound, Add, Subtract, Multiply, Read, Column, Base, Store, Affine}
use Rattle.lc_term.specs.Syntax.{Formula, Le, Eq, Not, And, Or, Implies, Forall, Exists, Formulas, none, more}
use Rattle.lc_term.specs.Places.{Test, term_passes, column_passes, passes, all_pass}
use Rattle.lc_term.specs.Replacement.{Replacement, replace_term, replace_column, raising, under, replace, replace_all}
use Rattle.lc_term.specs.Substitution.{opened, opening, instantiated}
use Rattle.lc_term.proofs.Weaker.{weaker_formula}
use Rattle.lc_kernel.specs.Below.{below, term_below, column_below, formula_below, all_below}

-- a formula's variables are in use, below n quantifiers
abbrev pub inner_below : ℕ → ℕ → Formula → Bool
inner_below v n f = passes (λ d. below v) n f

abbrev pub parts_below : ℕ → ℕ → Formulas → Bool
parts_below v n fs = all_pass (λ d. below v) n fs

-- what is put in for a variable that passes has variables in use alone, and so has what is put in for columns
pub record Keeps (p : Test) (w : ℕ) (r : Replacement) : Type 0 where
  pub columns : (c : ℕ) → IsTrue (column_below w (r.columns c))
  pub variables : (k : ℕ) → IsTrue (p.variables k) → IsTrue (term_below w (r.variables k))
  pub bounds : (k : ℕ) → IsTrue (term_below w (r.bounds k))

mutual
  pub term_below-replace : (p : Test) (w : ℕ) (r : Replacement) → Keeps p w r → (t : Term) → IsTrue (term_passes p t) → IsTrue (term_below w (replace_term r t))
  term_below-replace p w r k (Number n) h = refl
  term_below-replace p w r k (Variable n) h = k.variables n h
  term_below-replace p w r k (Bound n) h = k.bounds n
  term_below-replace p w r k (Add t u) h =
      let x = and_parts (term_passes p t) (term_passes p u) h in
      and_from _ _ (term_below-replace p w r k t x.0) (term_below-replace p w r k u x.1)
  term_below-replace p w r k (Subtract t u) h =
      let x = and_parts (term_passes p t) (term_passes p u) h in
      and_from _ _ (term_below-replace p w r k t x.0) (term_below-replace p w r k u x.1)
  term_below-replace p w r k (Multiply n t) h = term_below-replace p w r k t h
  term_below-replace p w r k (Read c t) h =
      let x = and_parts (column_passes p c) (term_passes p t) h in
      and_from _ _ (column_below-replace p w r k c x.0) (term_below-replace p w r k t x.1)

  column_below-replace : (p : Test) (w : ℕ) (r : Replacement) → Keeps p w r → (c : Column) → IsTrue (column_passes p c) → IsTrue (column_below w (replace_column r c))
  column_below-replace p w r k (Base c) h = k.columns c
  column_below-replace p w r k (Store c t u) h =
      let x = and_parts (column_passes p c && term_passes p t) (term_passes p u) h in
      let y = and_parts (column_passes p c) (term_passes p t) x.0 in
      and_from _ _ (and_from _ _ (column_below-replace p w r k c y.0) (term_below-replace p w r k t y.1)) (term_below-replace p w r k u x.1)
  column_below-replace p w r k (Affine m n) h = refl

-- what is raised has the same free variables
Keeps-raising : (w : ℕ) → Keeps (below w) w raising
Keeps-raising w = record { columns = λ c. refl; variables = λ k h. h; bounds = λ k. refl }

pub column_below-raised : (w : ℕ) (c : Column) → IsTrue (column_below w c) → IsTrue (column_below w (replace_column raising c))
column_below-raised w c h = column_below-replace (below w) w raising (Keeps-raising w) c h

bounds-under : (p : Test) (w : ℕ) (r : Replacement) → Keeps p w r → (k : ℕ) → IsTrue (term_below w ((under r).bounds k))
bounds-under p w r h zero = refl
bounds-under p w r h (suc k) = term_below-replace (below w) w raising (Keeps-raising w) (r.bounds k) (h.bounds k)

Keeps-under : (p : Test) (w : ℕ) (r : Replacement) → Keeps p w r → Keeps p w (under r)
Keeps-under p w r h = record {
  columns = λ c. column_below-raised w (r.columns c) (h.columns c);
  variables = λ k l. term_below-replace (below w) w raising (Keeps-raising w) (r.variables k) (h.variables k l);
  bounds = bounds-under p w r h;
}

mutual
  pub below-replace : (p : Test) (w n m : ℕ) (r : Replacement) → Keeps p w r → (f : Formula) → IsTrue (passes (λ d. p) n f) → IsTrue (inner_below w m (replace r f))
  below-replace p w n m r k (Le t u) h =
      let x = and_parts (term_passes p t) (term_passes p u) h in
      and_from _ _ (term_below-replace p w r k t x.0) (term_below-replace p w r k u x.1)
  below-replace p w n m r k (Eq t u) h =
      let x = and_parts (term_passes p t) (term_passes p u) h in
      and_from _ _ (term_below-replace p w r k t x.0) (term_below-replace p w r k u x.1)
  below-replace p w n m r k (Not f) h = below-replace p w n m r k f h
  below-replace p w n m r k (And fs) h = parts_below-replace p w n m r k fs h
  below-replace p w n m r k (Or fs) h = parts_below-replace p w n m r k fs h
  below-replace p w n m r k (Implies f g) h =
      let x = and_parts (passes (λ d. p) n f) (passes (λ d. p) n g) h in
      and_from _ _ (below-replace p w n m r k f x.0) (below-replace p w n m r k g x.1)
  below-replace p w n m r k (Forall f) h = below-replace p w (suc n) (suc m) (under r) (Keeps-under p w r k) f h
  below-replace p w n m r k (Exists f) h = below-replace p w (suc n) (suc m) (under r) (Keeps-under p w r k) f h

  parts_below-replace : (p : Test) (w n m : ℕ) (r : Replacement) → Keeps p w r → (fs : Formulas) → IsTrue (all_pass (λ d. p) n fs) → IsTrue (parts_below w m (replace_all r fs))
  parts_below-replace p w n m r k none h = refl
  parts_below-replace p w n m r k (more f fs) h =
      let x = and_parts (passes (λ d. p) n f) (all_pass (λ d. p) n fs) h in
      and_from _ _ (below-replace p w n m r k f x.0) (parts_below-replace p w n m r k fs x.1)

-- ---- more variables in use

pub nat_lt-more : (v w k : ℕ) → v ≤ w → IsTrue (nat_lt k v) → IsTrue (nat_lt k w)
nat_lt-more v w k l h = grind (arith, nat_tests)

opened_below : (w : ℕ) (u : Term) → IsTrue (term_below w u) → (k : ℕ) → IsTrue (term_below w (opened u k))
opened_below w u h zero = h
opened_below w u h (suc k) = refl

-- the body of a quantifier with a term for its variable
pub instantiated_below : (v w n : ℕ) (u : Term) (f : Formula) → v ≤ w → IsTrue (term_below w u) → IsTrue (inner_below v n f) → IsTrue (formula_below w (instantiated u f))
instantiated_below v w n u f l h g =
    below-replace (below v) w n 0 (opening u)
    (record { columns = λ c. refl; variables = λ k small. nat_lt-more v w k l small; bounds = opened_below w u h })
    f g

pub formula_below-more : (v w : ℕ) → v ≤ w → (f : Formula) → IsTrue (formula_below v f) → IsTrue (formula_below w f)
formula_below-more v w l f h =
    weaker_formula (λ d. below v) (λ d. below w) (λ d. record { columns = λ c h. h; variables = λ k small. nat_lt-more v w k l small; bounds = λ k h. h }) 0 f h

pub all_below-more : (v w : ℕ) → v ≤ w → (fs : List Formula) → IsTrue (all_below v fs) → IsTrue (all_below w fs)
all_below-more v w l [] h = refl
all_below-more v w l (f ∷ fs) h =
    let p = and_parts (formula_below v f) (all_below v fs) h in and_from _ _ (formula_below-more v w l f p.0) (all_below-more v w l fs p.1)

pub all_below-append : (v : ℕ) (fs gs : List Formula) → IsTrue (all_below v fs) → IsTrue (all_below v gs) → IsTrue (all_below v (fs ++ gs))
all_below-append v [] gs h g = g
all_below-append v (f ∷ fs) gs h g =
    let p = and_parts (formula_below v f) (all_below v fs) h in and_from _ _ p.0 (all_below-append v fs gs p.1 g)
