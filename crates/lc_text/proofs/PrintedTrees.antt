-- The text that is printed is that of the s-expression.
use Rattle.std.proofs.Common.{◌≡◌, ℕ, List, [], ◌∷◌, ◌++◌, refl, sym, ap, ap₂, ◌∙◌, append_assoc, append-nil}
use Rattle.std.specs.Prelude.{codes}
use Rattle.std.specs.Fmt.{signed_decimal}
use Rattle.lc_sexp.specs.Printed.{printed_tree, printed_others}
use Rattle.lc_term.specs.Syntax as S
use Rattle.lc_term.specs.Syntax.{Term, Number, Variable, Bound, Add, Subtract, Multiply, Read, Column, Base, Store, Affine}
use Rattle.lc_term.specs.Syntax.{Formula, Le, Eq, Not, And, Or, Implies, Forall, Exists, Formulas, more}
use Rattle.lc_text.specs.Spelling.{Spelled}
use Rattle.lc_text.specs.Spelled.{binder, one_deeper, spelled_term, spelled_column, spelled_formula, spelled_parts}
use Rattle.lc_text.specs.SpelledTree.{term_tree, column_tree, formula_tree, formula_trees}

one_text : (x y : List ℕ) → x ≡ y → (x ++ []) ++ (41 ∷ []) ≡ y ++ (41 ∷ [])
one_text x y e = ap (λ w. w ++ (41 ∷ [])) (append-nil x ∙ e)

two_text : (x y z w : List ℕ) → x ≡ z → y ≡ w → (x ++ (32 ∷ (y ++ []))) ++ (41 ∷ []) ≡ (z ++ (32 ∷ w)) ++ (41 ∷ [])
two_text x y z w e f = ap₂ (λ u v. (u ++ (32 ∷ v)) ++ (41 ∷ [])) e (append-nil y ∙ f)

three_text : (x y z x' y' z' : List ℕ) → x ≡ x' → y ≡ y' → z ≡ z' →
    (x ++ (32 ∷ (y ++ (32 ∷ (z ++ []))))) ++ (41 ∷ []) ≡ ((x' ++ (32 ∷ y')) ++ (32 ∷ z')) ++ (41 ∷ [])
three_text x y z x' y' z' e f g =
    ap₂ (λ u v. (u ++ (32 ∷ v)) ++ (41 ∷ [])) e (ap₂ (λ u v. u ++ (32 ∷ v)) f (append-nil z ∙ g))
    ∙ ap (λ u. u ++ (41 ∷ [])) (sym (append_assoc x' (32 ∷ y') (32 ∷ z')))

mutual
  pub term_text : (by : Spelled) (d : ℕ) (t : Term) → printed_tree (term_tree by d t) ≡ spelled_term by d t
  term_text by d (Number n) = refl
  term_text by d (Variable k) = refl
  term_text by d (Bound k) = refl
  term_text by d (Add t u) = ap (λ x. codes "(+ " ++ x) (two_text _ _ _ _ (term_text by d t) (term_text by d u))
  term_text by d (Subtract t u) = ap (λ x. codes "(- " ++ x) (two_text _ _ _ _ (term_text by d t) (term_text by d u))
  term_text by d (Multiply n t) = ap (λ x. codes "(* " ++ x) (two_text (signed_decimal n) _ (signed_decimal n) _ refl (term_text by d t))
  term_text by d (Read c i) = ap (λ x. codes "(rd " ++ x) (two_text _ _ _ _ (column_text by d c) (term_text by d i))

  pub column_text : (by : Spelled) (d : ℕ) (c : Column) → printed_tree (column_tree by d c) ≡ spelled_column by d c
  column_text by d (Base c) = refl
  column_text by d (Store c i v) = ap (λ x. codes "(store " ++ x) (three_text _ _ _ _ _ _ (column_text by d c) (term_text by d i) (term_text by d v))
  column_text by d (Affine a b) = ap (λ x. codes "(affine " ++ x) (two_text (signed_decimal a) (signed_decimal b) (signed_decimal a) (signed_decimal b) refl refl)

mutual
  pub formula_text : (by : Spelled) (d : ℕ) (f : Formula) → printed_tree (formula_tree by d f) ≡ spelled_formula by d f
  formula_text by d (Le t u) = ap (λ x. codes "(<= " ++ x) (two_text _ _ _ _ (term_text by d t) (term_text by d u))
  formula_text by d (Eq t u) = ap (λ x. codes "(= " ++ x) (two_text _ _ _ _ (term_text by d t) (term_text by d u))
  formula_text by d (Not f) = ap (λ x. codes "(not " ++ x) (one_text _ _ (formula_text by d f))
  formula_text by d (And fs) = ap (λ x. codes "(and" ++ (x ++ (41 ∷ []))) (parts_text by d fs)
  formula_text by d (Or fs) = ap (λ x. codes "(or" ++ (x ++ (41 ∷ []))) (parts_text by d fs)
  formula_text by d (Implies f g) = ap (λ x. codes "(=> " ++ x) (two_text _ _ _ _ (formula_text by d f) (formula_text by d g))
  formula_text by d (Forall f) = ap (λ x. codes "(forall " ++ x) (two_text (binder d) _ (binder d) _ refl (formula_text by (one_deeper d) f))
  formula_text by d (Exists f) = ap (λ x. codes "(exists " ++ x) (two_text (binder d) _ (binder d) _ refl (formula_text by (one_deeper d) f))

  parts_text : (by : Spelled) (d : ℕ) (fs : Formulas) → printed_others (formula_trees by d fs) ≡ spelled_parts by d fs
  parts_text by d S.none = refl
  parts_text by d (more f fs) = ap₂ (λ x y. 32 ∷ (x ++ y)) (formula_text by d f) (parts_text by d fs)
