-- What a term or a formula means depends only on the columns and variables that occur in it.
use Rattle.std.proofs.Common.{◌≡◌, ℕ, suc, ◌&&◌, refl, ap, ap₂}
use Rattle.std.specs.Prelude.{IsTrue, ℤ, ◌+ℤ◌, ◌-ℤ◌, ◌*ℤ◌, ◌≤ℤ◌}
use Rattle.std.proofs.lemmas.Bool.{and_parts}
use Rattle.lc_term.specs.Syntax.{Term, Number, Variable, Bound, Add, Subtract, Multiply, Read, Column, Base, Store, Affine}
use Rattle.lc_term.specs.Syntax.{Formula, Le, Eq, Not, And, Or, Implies, Forall, Exists, Formulas, none, more}
use Rattle.lc_term.specs.Meaning.{State, Env, push, stored, value, column, Holds, AllHold, NoneHolds}
use Rattle.lc_term.specs.Places.{Test, term_passes, column_passes, passes, all_pass}

module _ (p : Test) (s s' : State) (e e' : Env) (columns : (c : ℕ) → IsTrue (p.columns c) → s c ≡ s' c) (variables : (k : ℕ) → IsTrue (p.variables k) → e k ≡ e' k) where
  mutual
    pub value-agree : (b : Env) (t : Term) → IsTrue (term_passes p t) → value s e b t ≡ value s' e' b t
    value-agree b (Number n) h = refl
    value-agree b (Variable k) h = variables k h
    value-agree b (Bound k) h = refl
    value-agree b (Add t u) h = let q = and_parts (term_passes p t) (term_passes p u) h in ap₂ ◌+ℤ◌ (value-agree b t q.0) (value-agree b u q.1)
    value-agree b (Subtract t u) h = let q = and_parts (term_passes p t) (term_passes p u) h in ap₂ ◌-ℤ◌ (value-agree b t q.0) (value-agree b u q.1)
    value-agree b (Multiply n t) h = ap (◌*ℤ◌ n) (value-agree b t h)
    value-agree b (Read c t) h = let q = and_parts (column_passes p c) (term_passes p t) h in λ i. column-agree b c q.0 i (value-agree b t q.1 i)

    pub column-agree : (b : Env) (c : Column) → IsTrue (column_passes p c) → column s e b c ≡ column s' e' b c
    column-agree b (Base k) h = columns k h
    column-agree b (Store c t v) h =
        let q = and_parts (column_passes p c && term_passes p t) (term_passes p v) h in
        let r = and_parts (column_passes p c) (term_passes p t) q.0 in
        λ i. stored (column-agree b c r.0 i) (value-agree b t r.1 i) (value-agree b v q.1 i)
    column-agree b (Affine m n) h = refl

  mutual
    pub Holds-agree : (b : Env) (n : ℕ) (f : Formula) → IsTrue (passes (λ d. p) n f) → Holds s e b f ≡ Holds s' e' b f
    Holds-agree b n (Le t u) h = let q = and_parts (term_passes p t) (term_passes p u) h in ap₂ ◌≤ℤ◌ (value-agree b t q.0) (value-agree b u q.1)
    Holds-agree b n (Eq t u) h = let q = and_parts (term_passes p t) (term_passes p u) h in ap₂ ◌≡◌ (value-agree b t q.0) (value-agree b u q.1)
    Holds-agree b n (Not f) h = ap (λ P. P → ⊥) (Holds-agree b n f h)
    Holds-agree b n (And fs) h = AllHold-agree b n fs h
    Holds-agree b n (Or fs) h = ap (λ P. P → ⊥) (NoneHolds-agree b n fs h)
    Holds-agree b n (Implies f g) h =
        let q = and_parts (passes (λ d. p) n f) (passes (λ d. p) n g) h in λ i. Holds-agree b n f q.0 i → Holds-agree b n g q.1 i
    Holds-agree b n (Forall f) h = λ i. (x : ℤ) → Holds-agree (push x b) (suc n) f h i
    Holds-agree b n (Exists f) h = λ i. ((x : ℤ) → Holds-agree (push x b) (suc n) f h i → ⊥) → ⊥

    AllHold-agree : (b : Env) (n : ℕ) (fs : Formulas) → IsTrue (all_pass (λ d. p) n fs) → AllHold s e b fs ≡ AllHold s' e' b fs
    AllHold-agree b n none h = refl
    AllHold-agree b n (more f fs) h =
        let q = and_parts (passes (λ d. p) n f) (all_pass (λ d. p) n fs) h in λ i. Holds-agree b n f q.0 i × AllHold-agree b n fs q.1 i

    NoneHolds-agree : (b : Env) (n : ℕ) (fs : Formulas) → IsTrue (all_pass (λ d. p) n fs) → NoneHolds s e b fs ≡ NoneHolds s' e' b fs
    NoneHolds-agree b n none h = refl
    NoneHolds-agree b n (more f fs) h =
        let q = and_parts (passes (λ d. p) n f) (all_pass (λ d. p) n fs) h in λ i. (Holds-agree b n f q.0 i → ⊥) × NoneHolds-agree b n fs q.1 i
