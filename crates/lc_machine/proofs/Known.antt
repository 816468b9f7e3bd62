-- The terms and formulas of instructions: what may be computed, and the numbers of terms one after another.
use Rattle.std.proofs.Common.{◌≡◌, ℕ, true, List, [], ◌∷◌, ◌++◌, refl, sym, ap, ◌∙◌}
use Rattle.std.specs.Prelude.{ℤ, nat_lt}
use Rattle.std.proofs.Common.{append_assoc}
use Rattle.std.proofs.lemmas.Bool.{and_from}
use Rattle.lc_lemmas.proofs.Booleans.{left_true, right_true}
use Rattle.lc_term.specs.Meaning.{State}
use Rattle.lc_machine.specs.Step.{number, numbers}
use Rattle.lc_term.specs.Syntax.{Term, Number, Variable, Bound, Add, Subtract, Multiply, Read}
use Rattle.lc_term.specs.Syntax.{Formula, Le, Eq, Not, And, Or, Implies, Forall, Exists, Formulas, none, more}
use Rattle.lc_term.specs.Places.{known, term_passes, passes, all_pass}
use Rattle.lc_term.specs.Truth.{is_ground, are_ground}
use Rattle.lc_object.specs.WellFormed.{is_code_term, is_code_formula, are_code_formulas}

-- a term of an instruction can be computed over any columns
pub known_term : (columns count : ℕ) (t : Term) → is_code_term count t ≡ true → term_passes (known columns count) t ≡ true
known_term columns count (Number n) e = refl
known_term columns count (Variable k) e = right_true (nat_lt 0 k) (nat_lt k count) e
known_term columns count (Bound k) e = e
known_term columns count (Add t u) e =
    and_from _ _ (known_term columns count t (left_true _ (is_code_term count u) e)) (known_term columns count u (right_true (is_code_term count t) _ e))
known_term columns count (Subtract t u) e =
    and_from _ _ (known_term columns count t (left_true _ (is_code_term count u) e)) (known_term columns count u (right_true (is_code_term count t) _ e))
known_term columns count (Multiply n t) e = known_term columns count t e
known_term columns count (Read c i) e = cc

mutual
  -- and so can a formula, which has no quantifier
  pub known_formula : (columns count : ℕ) (f : Formula) → is_code_formula count f ≡ true → passes (λ n. known columns count) 0 f ≡ true
  known_formula columns count (Le t u) e =
      and_from _ _ (known_term columns count t (left_true _ (is_code_term count u) e)) (known_term columns count u (right_true (is_code_term count t) _ e))
  known_formula columns count (Eq t u) e =
      and_from _ _ (known_term columns count t (left_true _ (is_code_term count u) e)) (known_term columns count u (right_true (is_code_term count t) _ e))
  known_formula columns count (Not f) e = known_formula columns count f e
  known_formula columns count (And fs) e = known_formulas columns count fs e
  known_formula columns count (Or fs) e = known_formulas columns count fs e
  known_formula columns count (Implies f g) e =
      and_from _ _ (known_formula columns count f (left_true _ (is_code_formula count g) e)) (known_formula columns count g (right_true (is_code_formula count f) _ e))
  known_formula columns count (Forall f) e = cc
  known_formula columns count (Exists f) e = cc

  pub known_formulas : (columns count : ℕ) (fs : Formulas) → are_code_formulas count fs ≡ true → all_pass (λ n. known columns count) 0 fs ≡ true
  known_formulas columns count none e = refl
  known_formulas columns count (more f fs) e =
      and_from _ _ (known_formula columns count f (left_true _ (are_code_formulas count fs) e)) (known_formulas columns count fs (right_true (is_code_formula count f) _ e))

mutual
  pub ground_formula : (count : ℕ) (f : Formula) → is_code_formula count f ≡ true → is_ground f ≡ true
  ground_formula count (Le t u) e = refl
  ground_formula count (Eq t u) e = refl
  ground_formula count (Not f) e = ground_formula count f e
  ground_formula count (And fs) e = ground_formulas count fs e
  ground_formula count (Or fs) e = ground_formulas count fs e
  ground_formula count (Implies f g) e =
      and_from _ _ (ground_formula count f (left_true _ (is_code_formula count g) e)) (ground_formula count g (right_true (is_code_formula count f) _ e))
  ground_formula count (Forall f) e = e
  ground_formula count (Exists f) e = e

  pub ground_formulas : (count : ℕ) (fs : Formulas) → are_code_formulas count fs ≡ true → are_ground fs ≡ true
  ground_formulas count none e = refl
  ground_formulas count (more f fs) e =
      and_from _ _ (ground_formula count f (left_true _ (are_code_formulas count fs) e)) (ground_formulas count fs (right_true (is_code_formula count f) _ e))

-- one more number, of the first term that is left
pub one_more : (s : State) (vs : List ℤ) (done new : List ℤ) (x : ℤ) (t : Term) (rest now all : List Term) → now ≡ t ∷ rest → new ≡ done ++ x ∷ [] → x ≡ number s vs t →
    done ++ numbers s vs now ≡ numbers s vs all → new ++ numbers s vs rest ≡ numbers s vs all
one_more s vs done new x t rest now all e f g h =
    ap (λ l. l ++ numbers s vs rest) (f ∙ ap (λ y. done ++ y ∷ []) g) ∙ append_assoc done (number s vs t ∷ []) (numbers s vs rest) ∙ ap (λ l. done ++ numbers s vs l) (sym e) ∙ h
