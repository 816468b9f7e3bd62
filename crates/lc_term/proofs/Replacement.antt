-- What a replacement means: the formula after it says in the old state what the formula says in the state and
-- for the variables that the replacement stands for.
use Rattle.std.proofs.Common.{◌≡◌, ℕ, zero, suc, refl, sym, ap, ap₂, ◌∙◌, subst}
use Rattle.std.specs.Prelude.{ℤ, ◌+ℤ◌, ◌-ℤ◌, ◌*ℤ◌, ◌≤ℤ◌}
use Rattle.lc_term.specs.Syntax.{Term, Number, Variable, Bound, Add, Subtract, Multiply, Read, Column, Base, Store, Affine}
use Rattle.lc_term.specs.Syntax.{Formula, Le, Eq, Not, And, Or, Implies, Forall, Exists, Formulas, none, more}
use Rattle.lc_term.specs.Meaning.{State, Env, push, stored, value, column, Holds, AllHold, NoneHolds}
use Rattle.lc_term.specs.Replacement.{Replacement, replace_term, replace_column, raising, under, replace, replace_all, columns_by, variables_by, bounds_by}

-- equal statements follow from each other
pub both_ways : {P Q : Type 0} → P ≡ Q → (P → Q) × (Q → P)
both_ways e = (λ p. subst (λ X. X) e p, λ q. subst (λ X. X) (sym e) q)

mutual
  pub value-replace : (s : State) (e b : Env) (r : Replacement) (t : Term) →
      value s e b (replace_term r t) ≡ value (columns_by s e b r) (variables_by s e b r) (bounds_by s e b r) t
  value-replace s e b r (Number n) = refl
  value-replace s e b r (Variable k) = refl
  value-replace s e b r (Bound k) = refl
  value-replace s e b r (Add t u) = ap₂ ◌+ℤ◌ (value-replace s e b r t) (value-replace s e b r u)
  value-replace s e b r (Subtract t u) = ap₂ ◌-ℤ◌ (value-replace s e b r t) (value-replace s e b r u)
  value-replace s e b r (Multiply n t) = ap (◌*ℤ◌ n) (value-replace s e b r t)
  value-replace s e b r (Read c t) = λ i. column-replace s e b r c i (value-replace s e b r t i)

  pub column-replace : (s : State) (e b : Env) (r : Replacement) (c : Column) →
      column s e b (replace_column r c) ≡ column (columns_by s e b r) (variables_by s e b r) (bounds_by s e b r) c
  column-replace s e b r (Base c) = refl
  column-replace s e b r (Store c t v) = λ i. stored (column-replace s e b r c i) (value-replace s e b r t i) (value-replace s e b r v i)
  column-replace s e b r (Affine m n) = refl

-- what is raised keeps its meaning below one more quantifier
pub value-raised : (s : State) (e b : Env) (x : ℤ) (t : Term) → value s e (push x b) (replace_term raising t) ≡ value s e b t
value-raised s e b x t = value-replace s e (push x b) raising t

pub column-raised : (s : State) (e b : Env) (x : ℤ) (c : Column) → column s e (push x b) (replace_column raising c) ≡ column s e b c
column-raised s e b x c = column-replace s e (push x b) raising c

bounds_by-under : (s : State) (e b : Env) (x : ℤ) (r : Replacement) (k : ℕ) → bounds_by s e (push x b) (under r) k ≡ push x (bounds_by s e b r) k
bounds_by-under s e b x r zero = refl
bounds_by-under s e b x r (suc k) = value-raised s e b x (r.bounds k)

-- below one more quantifier the replacement stands for the same state and variables, and the quantifier's own
below : (s : State) (e b : Env) (r : Replacement) (x : ℤ) (f : Formula) →
    Holds (columns_by s e (push x b) (under r)) (variables_by s e (push x b) (under r)) (bounds_by s e (push x b) (under r)) f ≡
    Holds (columns_by s e b r) (variables_by s e b r) (push x (bounds_by s e b r)) f
below s e b r x f = λ i. Holds (λ c. column-raised s e b x (r.columns c) i) (λ k. value-raised s e b x (r.variables k) i) (λ k. bounds_by-under s e b x r k i) f

mutual
  pub Holds-replace : (s : State) (e b : Env) (r : Replacement) (f : Formula) →
      Holds s e b (replace r f) ≡ Holds (columns_by s e b r) (variables_by s e b r) (bounds_by s e b r) f
  Holds-replace s e b r (Le t u) = ap₂ ◌≤ℤ◌ (value-replace s e b r t) (value-replace s e b r u)
  Holds-replace s e b r (Eq t u) = ap₂ ◌≡◌ (value-replace s e b r t) (value-replace s e b r u)
  Holds-replace s e b r (Not f) = ap (λ P. P → ⊥) (Holds-replace s e b r f)
  Holds-replace s e b r (And fs) = AllHold-replace s e b r fs
  Holds-replace s e b r (Or fs) = ap (λ P. P → ⊥) (NoneHolds-replace s e b r fs)
  Holds-replace s e b r (Implies f g) = λ i. Holds-replace s e b r f i → Holds-replace s e b r g i
  Holds-replace s e b r (Forall f) = λ i. (x : ℤ) → (Holds-replace s e (push x b) (under r) f ∙ below s e b r x f) i
  Holds-replace s e b r (Exists f) = λ i. ((x : ℤ) → (Holds-replace s e (push x b) (under r) f ∙ below s e b r x f) i → ⊥) → ⊥

  AllHold-replace : (s : State) (e b : Env) (r : Replacement) (fs : Formulas) →
      AllHold s e b (replace_all r fs) ≡ AllHold (columns_by s e b r) (variables_by s e b r) (bounds_by s e b r) fs
  AllHold-replace s e b r none = refl
  AllHold-replace s e b r (more f fs) = λ i. Holds-replace s e b r f i × AllHold-replace s e b r fs i

  NoneHolds-replace : (s : State) (e b : Env) (r : Replacement) (fs : Formulas) →
      NoneHolds s e b (replace_all r fs) ≡ NoneHolds (columns_by s e b r) (variables_by s e b r) (bounds_by s e b r) fs
  NoneHolds-replace s e b r none = refl
  NoneHolds-replace s e b r (more f fs) = λ i. (Holds-replace s e b r f i → ⊥) × NoneHolds-replace s e b r fs i
