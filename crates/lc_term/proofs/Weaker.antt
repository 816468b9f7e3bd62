-- What passes a test passes one that asks for less.
use Rattle.std.proofs.Common.{◌≡◌, ℕ, suc, true, ◌&&◌, refl}
use Rattle.std.proofs.lemmas.Bool.{and_from}
use Rattle.lc_lemmas.proofs.Booleans.{left_true, right_true}
use Rattle.lc_term.specs.Places.{Test, term_passes, column_passes, passes, all_pass}
use Rattle.lc_term.specs.Syntax.{Term, Number, Variable, Bound, Add, Subtract, Multiply, Read, Column, Base, Store, Affine}
use Rattle.lc_term.specs.Syntax.{Formula, Le, Eq, Not, And, Or, Implies, Forall, Exists, Formulas, none, more}
use Rattle.lc_term.specs.Truth.{is_ground, are_ground}

-- whatever passes the one passes the other
pub record IsWeaker (p q : Test) : Type 0 where
  pub columns : (k : ℕ) → p.columns k ≡ true → q.columns k ≡ true
  pub variables : (k : ℕ) → p.variables k ≡ true → q.variables k ≡ true
  pub bounds : (k : ℕ) → p.bounds k ≡ true → q.bounds k ≡ true

module _ (p q : Test) (w : IsWeaker p q) where
  mutual
    pub weaker_term : (t : Term) → term_passes p t ≡ true → term_passes q t ≡ true
    weaker_term (Number n) h = refl
    weaker_term (Variable k) h = w.variables k h
    weaker_term (Bound k) h = w.bounds k h
    weaker_term (Add t u) h = and_from _ _ (weaker_term t (left_true (term_passes p t) (term_passes p u) h)) (weaker_term u (right_true (term_passes p t) (term_passes p u) h))
    weaker_term (Subtract t u) h = and_from _ _ (weaker_term t (left_true (term_passes p t) (term_passes p u) h)) (weaker_term u (right_true (term_passes p t) (term_passes p u) h))
    weaker_term (Multiply n t) h = weaker_term t h
    weaker_term (Read c t) h = and_from _ _ (weaker_column c (left_true (column_passes p c) (term_passes p t) h)) (weaker_term t (right_true (column_passes p c) (term_passes p t) h))

    weaker_column : (c : Column) → column_passes p c ≡ true → column_passes q c ≡ true
    weaker_column (Base c) h = w.columns c h
    weaker_column (Store c t u) h =
        let first = left_true (column_passes p c && term_passes p t) (term_passes p u) h in
        and_from _ _ (and_from _ _ (weaker_column c (left_true (column_passes p c) (term_passes p t) first)) (weaker_term t (right_true (column_passes p c) (term_passes p t) first)))
        (weaker_term u (right_true (column_passes p c && term_passes p t) (term_passes p u) h))
    weaker_column (Affine a b) h = refl

  weaker_pair : (t u : Term) → (term_passes p t && term_passes p u) ≡ true → (term_passes q t && term_passes q u) ≡ true
  weaker_pair t u h = and_from _ _ (weaker_term t (left_true (term_passes p t) (term_passes p u) h)) (weaker_term u (right_true (term_passes p t) (term_passes p u) h))

module _ (p q : ℕ → Test) where
  -- below any number of quantifiers
  module _ (w : (n : ℕ) → IsWeaker (p n) (q n)) where
    mutual
      pub weaker_formula : (n : ℕ) (f : Formula) → passes p n f ≡ true → passes q n f ≡ true
      weaker_formula n (Le t u) h = weaker_pair (p n) (q n) (w n) t u h
      weaker_formula n (Eq t u) h = weaker_pair (p n) (q n) (w n) t u h
      weaker_formula n (Not f) h = weaker_formula n f h
      weaker_formula n (And fs) h = weaker_formulas n fs h
      weaker_formula n (Or fs) h = weaker_formulas n fs h
      weaker_formula n (Implies f g) h = and_from _ _ (weaker_formula n f (left_true (passes p n f) (passes p n g) h)) (weaker_formula n g (right_true (passes p n f) (passes p n g) h))
      weaker_formula n (Forall f) h = weaker_formula (suc n) f h
      weaker_formula n (Exists f) h = weaker_formula (suc n) f h

      weaker_formulas : (n : ℕ) (fs : Formulas) → all_pass p n fs ≡ true → all_pass q n fs ≡ true
      weaker_formulas n none h = refl
      weaker_formulas n (more f fs) h = and_from _ _ (weaker_formula n f (left_true (passes p n f) (all_pass p n fs) h)) (weaker_formulas n fs (right_true (passes p n f) (all_pass p n fs) h))

  -- when the formula has no quantifiers
  module _ (w : IsWeaker (p 0) (q 0)) where
    mutual
      pub weaker_ground : (f : Formula) → is_ground f ≡ true → passes p 0 f ≡ true → passes q 0 f ≡ true
      weaker_ground (Le t u) g h = weaker_pair (p 0) (q 0) w t u h
      weaker_ground (Eq t u) g h = weaker_pair (p 0) (q 0) w t u h
      weaker_ground (Not f) g h = weaker_ground f g h
      weaker_ground (And fs) g h = weaker_ground_parts fs g h
      weaker_ground (Or fs) g h = weaker_ground_parts fs g h
      weaker_ground (Implies f k) g h =
          and_from _ _ (weaker_ground f (left_true (is_ground f) (is_ground k) g) (left_true (passes p 0 f) (passes p 0 k) h)) (weaker_ground k (right_true (is_ground f) (is_ground k) g) (right_true (passes p 0 f) (passes p 0 k) h))
      weaker_ground (Forall f) g h = absurd cc
      weaker_ground (Exists f) g h = absurd cc

      weaker_ground_parts : (fs : Formulas) → are_ground fs ≡ true → all_pass p 0 fs ≡ true → all_pass q 0 fs ≡ true
      weaker_ground_parts none g h = refl
      weaker_ground_parts (more f fs) g h =
          and_from _ _ (weaker_ground f (left_true (is_ground f) (are_ground fs) g) (left_true (passes p 0 f) (all_pass p 0 fs) h)) (weaker_ground_parts fs (right_true (is_ground f) (are_ground fs) g) (right_true (passes p 0 f) (all_pass p 0 fs) h))
