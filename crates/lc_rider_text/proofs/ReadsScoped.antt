-- Terms and formulas that are read use only the columns and variables that their names give, and bound variables of quantifiers
-- around them.
use Rattle.std.proofs.Common.{◌≡◌, ℕ, ℤ, suc, ◌+◌, ◌<◌, Bool, true, false, ◌&&◌, cond, List, [], ◌∷◌, ◌++◌, Option, Some, None, IfSome, length, length-append, refl, arith}
use Rattle.std.specs.Prelude.{codes, not, nat_lt}
use Rattle.std.proofs.lemmas.Bool.{and_from}
use Rattle.lc_lemmas.proofs.Numbers.{test_from_below}
use Rattle.lc_base.specs.NameText.{is_name}
use Rattle.lc_sexp.specs.Parts.{Fit, fits, beyond, misshapen, integer_fit}
use Rattle.lc_sexp.specs.Trees.{Tree, Trees, atom, list, none, ◌▸◌, item_count}
use Rattle.lc_outline.proofs.Scoped.{scoped_term}
use Rattle.lc_outline.specs.Scope.{scope, is_scoped}
use Rattle.lc_reading.proofs.Holding.{Holds, holds_unit, holds_weaker, mapped_holds, both_holds, ended_holds, if_holds}
use Rattle.lc_reading.proofs.Places.{place_below}
use Rattle.lc_reading.specs.Listed.{place_of}
use Rattle.lc_reading.specs.Readings.{Reading, fine, wrong}
use Rattle.lc_reading.specs.Words.{is, is_long}
use Rattle.lc_reading.specs.declared.pass.Pass.TheVariants.{Shape}
use Rattle.lc_term.specs.Places.{known, term_passes, column_passes, passes, all_pass}
use Rattle.lc_term.specs.Syntax as T
use Rattle.lc_term.specs.Syntax.{Term, Column, Formula, Formulas}
use Rattle.lc_term.specs.SystemColumns.{column_count, system_columns}
use Rattle.lc_text.proofs.Kept.{bound_below}
use Rattle.lc_text.specs.Formulas.{binder_reading, body_of, implication_of, connective_reading, formula_reading, only_reading, both_reading, body_reading, formulas_reading}
use Rattle.lc_text.specs.Heads.{operation_of, built_of, connective_of, allowed}
use Rattle.lc_text.specs.Names.{Names}
use Rattle.lc_text.specs.Terms.{pair, number_reading, number_or, numbered_reading, bound_index, bound_or_free, variable_reading, word_reading, atom_reading, used, product_of, access_of, operation_reading, built_reading, numbers_reading, store_reading, term_reading, terms_reading, product_reading, access_reading, column_reading}
use Rattle.lc_text.specs.declared.scope.ColumnUse.{ColumnUse}
use Rattle.lc_text.specs.declared.scope.ColumnUse.TheVariants.{Usable, Misplaced, Hidden, Undeclared}
use Rattle.lc_text.specs.declared.scope.Extra.TheVariants.{Quantifiers, BuiltColumns, NumberedVariables}
use Rattle.lc_rider_text.specs.Scopes.{variable_names, column_at, column_place, place_or, beside_names, quiet}

-- the column is one of the first `columns`, if it may be used
abbrev IsColumnOf : ℕ → ColumnUse → Type 0
IsColumnOf columns (Usable c) = nat_lt c.0 columns ≡ true
IsColumnOf columns _ = Unit {0}

-- the names are those of m columns and n variables, and nothing is written by a number, nor built
pub record AreInScope (m n : ℕ) (names : Names) : Type 0 where
  pub variables : (w : List ℕ) → IfSome (names.variable w) (λ k. nat_lt k n ≡ true)
  pub columns : (w : List ℕ) → IsColumnOf m (names.column w)
  pub numbered : names.allows NumberedVariables ≡ false
  pub built : names.allows BuiltColumns ≡ false

-- ---- terms

-- either way
choice : {X : Type 0} (P : X → Type 0) (b : Bool) (x y : X) → P x → P y → P (cond b x y)
choice P true x y h g = h
choice P false x y h g = g

four : {X : Type 0} (P : X → Type 0) (a b c d : Bool) (p q r s t : X) → P p → P q → P r → P s → P t → P (cond a p (cond b q (cond c r (cond d s t))))
four P a b c d p q r s t h g i j k = choice P a p _ h (choice P b q _ g (choice P c r _ i (choice P d s t j k)))

otherwise : {X : Type 0} (P : X → Type 0) (b : Bool) (x y : X) → b ≡ false → P y → P (cond b x y)
otherwise P true x y e h = absurd (cc)
otherwise P false x y e h = h

module _ (columns variables : ℕ) (names : Names) (all : AreInScope columns variables names) where
  abbrev IsTerm : ℕ → Term → Type 0
  IsTerm d t = term_passes (scope columns variables d) t ≡ true

  abbrev IsColumn : ℕ → Column → Type 0
  IsColumn d c = column_passes (scope columns variables d) c ≡ true

  abbrev IsFormula : ℕ → Formula → Type 0
  IsFormula d f = passes (scope columns variables) d f ≡ true

  abbrev AreFormulas : ℕ → Formulas → Type 0
  AreFormulas d fs = all_pass (scope columns variables) d fs ≡ true

  two_terms : (d : ℕ) (t u : Term) → IsTerm d t → IsTerm d u → (term_passes (scope columns variables d) t && term_passes (scope columns variables d) u) ≡ true
  two_terms d t u h g = and_from (term_passes (scope columns variables d) t) (term_passes (scope columns variables d) u) h g

  variable_scoped : (bound : List (List ℕ)) (d n : ℕ) (w : List ℕ) (o free : Option ℕ) → length bound ≡ d → bound_index bound w ≡ o → IfSome free (λ k. nat_lt k variables ≡ true)
      → Holds (IsTerm d) (bound_or_free n w o free)
  variable_scoped bound d n w (Some k) free long at h = let lt = bound_below bound w k at in if_holds (IsTerm d) (is_long w) (wrong _ n) (fine (T.Bound k)) tt (test_from_below k d (omega (arith, lt, long)))
  variable_scoped bound d n w None (Some k) long at h = if_holds (IsTerm d) (is_long w) (wrong _ n) (fine (T.Variable k)) tt h
  variable_scoped bound d n w None None long at h = tt

  number_scoped : (d n : ℕ) (f : Fit ℤ) (r : Reading Term) → Holds (IsTerm d) r → Holds (IsTerm d) (number_or n f r)
  number_scoped d n (fits z) r h = refl
  number_scoped d n beyond r h = tt
  number_scoped d n misshapen r h = h

  atom_scoped : (bound : List (List ℕ)) (d n : ℕ) (w : List ℕ) → length bound ≡ d → Holds (IsTerm d) (atom_reading names bound n w)
  atom_scoped bound d n w long =
      number_scoped d n (integer_fit (atom w)) (word_reading names bound n w)
      (if_holds (IsTerm d) (is_name w) (variable_reading names bound n w) (numbered_reading names n w)
      (variable_scoped bound d n w (bound_index bound w) (names.variable w) long refl (all.variables w)) (otherwise (Holds (IsTerm d)) (names.allows NumberedVariables) _ (wrong Shape n) all.numbered tt))

  used_scoped : (d : ℕ) (u : ColumnUse) (reader n : ℕ) (w : List ℕ) → IsColumnOf columns u → Holds (IsColumn d) (used u reader n w)
  used_scoped d Misplaced reader n w h = tt
  used_scoped d Undeclared reader n w h = if_holds (IsColumn d) (is_name w) (wrong _ n) (wrong _ n) tt tt
  used_scoped d Hidden reader n w h = if_holds (IsColumn d) (is_name w) (wrong _ reader) (wrong _ n) tt tt
  used_scoped d (Usable c) reader n w h = if_holds (IsColumn d) (is_name w) _ (wrong _ n) (if_holds (IsColumn d) (is_long w) (wrong _ n) (fine (T.Base c.0)) tt h) tt

  column_scoped : (bound : List (List ℕ)) (d reader n : ℕ) (t : Tree) → Holds (IsColumn d) (column_reading names bound reader n t)
  column_scoped bound d reader n (atom w) = used_scoped d (names.column w) reader n w (all.columns w)
  column_scoped bound d reader n (list none) = tt
  column_scoped bound d reader n (list (list us ▸ ts)) = tt
  column_scoped bound d reader n (list (atom w ▸ ts)) =
      otherwise (λ built. Holds (IsColumn d) (built_reading n built (numbers_reading n (n + 2) ts) (store_reading names bound n (n + 2) ts))) (names.allows BuiltColumns) (built_of w) None all.built tt

  operation_scoped : (d n : ℕ) (w : List ℕ) (terms : Reading (Term × Term)) (product : Reading (ℤ × Term)) (access : Reading (Column × Term))
      → Holds (λ p. IsTerm d p.0 × IsTerm d p.1) terms → Holds (λ p. IsTerm d p.1) product → Holds (λ p. IsColumn d p.0 × IsTerm d p.1) access → Holds (IsTerm d) (operation_reading n (operation_of w) terms product access)
  operation_scoped d n w terms product access h g k =
      four (λ o. Holds (IsTerm d) (operation_reading n o terms product access)) (is w (codes "+")) (is w (codes "-")) (is w (codes "*")) (is w (codes "rd")) _ _ _ _ _
      (mapped_holds (λ p. IsTerm d p.0 × IsTerm d p.1) (IsTerm d) _ terms h (λ p u. two_terms d p.0 p.1 u.0 u.1))
      (mapped_holds (λ p. IsTerm d p.0 × IsTerm d p.1) (IsTerm d) _ terms h (λ p u. two_terms d p.0 p.1 u.0 u.1))
      (mapped_holds (λ p. IsTerm d p.1) (IsTerm d) product_of product g (λ p u. u))
      (mapped_holds (λ p. IsColumn d p.0 × IsTerm d p.1) (IsTerm d) access_of access k (λ p u. and_from (column_passes (scope columns variables d) p.0) (term_passes (scope columns variables d) p.1) u.0 u.1)) tt

  mutual
    term_in : (bound : List (List ℕ)) (d n : ℕ) (t : Tree) → length bound ≡ d → Holds (IsTerm d) (term_reading names bound n t)
    term_in bound d n (atom w) long = atom_scoped bound d n w long
    term_in bound d n (list none) long = tt
    term_in bound d n (list (list us ▸ ts)) long = tt
    term_in bound d n (list (atom w ▸ ts)) long =
        operation_scoped d n w (terms_reading names bound n (n + 2) ts) (product_reading names bound n (n + 2) ts) (access_reading names bound n (n + 2) ts)
        (terms_in bound d n (n + 2) ts long) (product_in bound d n (n + 2) ts long) (access_in bound d n (n + 2) ts long)

    terms_in : (bound : List (List ℕ)) (d n m : ℕ) (ts : Trees) → length bound ≡ d → Holds (λ p. IsTerm d p.0 × IsTerm d p.1) (terms_reading names bound n m ts)
    terms_in bound d n m none long = tt
    terms_in bound d n m (t ▸ none) long = tt
    terms_in bound d n m (t ▸ u ▸ ts) long =
        ended_holds (λ (p : Term × Term). IsTerm d p.0 × IsTerm d p.1) _ ts _
        (both_holds (IsTerm d) (IsTerm d) (λ (p : Term × Term). IsTerm d p.0 × IsTerm d p.1) pair _ _ (term_in bound d m t long) (term_in bound d (m + item_count t) u long) (λ x y h g. (h, g)))

    product_in : (bound : List (List ℕ)) (d n m : ℕ) (ts : Trees) → length bound ≡ d → Holds (λ p. IsTerm d p.1) (product_reading names bound n m ts)
    product_in bound d n m none long = tt
    product_in bound d n m (t ▸ none) long = tt
    product_in bound d n m (t ▸ u ▸ ts) long =
        ended_holds (λ (p : ℤ × Term). IsTerm d p.1) _ ts _
        (both_holds (λ (z : ℤ). Unit {0}) (IsTerm d) (λ (p : ℤ × Term). IsTerm d p.1) pair _ _ (holds_unit (number_reading m t)) (term_in bound d (m + item_count t) u long) (λ x y h g. g))

    access_in : (bound : List (List ℕ)) (d n m : ℕ) (ts : Trees) → length bound ≡ d → Holds (λ p. IsColumn d p.0 × IsTerm d p.1) (access_reading names bound n m ts)
    access_in bound d n m none long = tt
    access_in bound d n m (t ▸ none) long = tt
    access_in bound d n m (t ▸ u ▸ ts) long =
        ended_holds (λ (p : Column × Term). IsColumn d p.0 × IsTerm d p.1) _ ts _
        (both_holds (IsColumn d) (IsTerm d) (λ (p : Column × Term). IsColumn d p.0 × IsTerm d p.1) pair _ _ (column_scoped bound d n m t) (term_in bound d (m + item_count t) u long) (λ x y h g. (h, g)))

  -- ---- formulas

  connective_scoped : (d n : ℕ) (quantifiers : Bool) (w : List ℕ) (terms : Reading (Term × Term)) (one : Reading Formula) (any : Reading Formulas) (two : Reading (Formula × Formula)) (body : Reading Formula)
      → Holds (λ p. IsTerm d p.0 × IsTerm d p.1) terms → Holds (IsFormula d) one → Holds (AreFormulas d) any → Holds (λ p. IsFormula d p.0 × IsFormula d p.1) two → Holds (IsFormula (suc d)) body
      → Holds (IsFormula d) (connective_reading n (allowed quantifiers (connective_of w)) terms one any two body)
  connective_scoped d n quantifiers w terms one any two body h g i j k =
      four (λ o. Holds (IsFormula d) (connective_reading n (allowed quantifiers o) terms one any two body)) (is w (codes "<=")) (is w (codes "=")) (is w (codes "not")) (is w (codes "and")) _ _ _ _ _
      (mapped_holds (λ p. IsTerm d p.0 × IsTerm d p.1) (IsFormula d) _ terms h (λ p u. two_terms d p.0 p.1 u.0 u.1))
      (mapped_holds (λ p. IsTerm d p.0 × IsTerm d p.1) (IsFormula d) _ terms h (λ p u. two_terms d p.0 p.1 u.0 u.1))
      (mapped_holds (IsFormula d) (IsFormula d) T.Not one g (λ f u. u))
      (mapped_holds (AreFormulas d) (IsFormula d) _ any i (λ fs u. u))
      (four (λ o. Holds (IsFormula d) (connective_reading n (allowed quantifiers o) terms one any two body)) (is w (codes "or")) (is w (codes "=>")) (is w (codes "forall")) (is w (codes "exists")) _ _ _ _ _
      (mapped_holds (AreFormulas d) (IsFormula d) _ any i (λ fs u. u))
      (mapped_holds (λ p. IsFormula d p.0 × IsFormula d p.1) (IsFormula d) implication_of two j (λ p u. and_from (passes (scope columns variables) d p.0) (passes (scope columns variables) d p.1) u.0 u.1))
      (choice (λ o. Holds (IsFormula d) (connective_reading n o terms one any two body)) (not quantifiers) None _ tt (mapped_holds (IsFormula (suc d)) (IsFormula d) _ body k (λ f u. u)))
      (choice (λ o. Holds (IsFormula d) (connective_reading n o terms one any two body)) (not quantifiers) None _ tt (mapped_holds (IsFormula (suc d)) (IsFormula d) _ body k (λ f u. u))) tt)

  mutual
    formula_in : (bound : List (List ℕ)) (d n : ℕ) (t : Tree) → length bound ≡ d → Holds (IsFormula d) (formula_reading names bound n t)
    formula_in bound d n (atom w) long = tt
    formula_in bound d n (list none) long = tt
    formula_in bound d n (list (list us ▸ ts)) long = tt
    formula_in bound d n (list (atom w ▸ ts)) long =
        connective_scoped d n (names.allows Quantifiers) w (terms_reading names bound n (n + 2) ts) (only_reading names bound n (n + 2) ts) (formulas_reading names bound (n + 2) ts)
        (both_reading names bound n (n + 2) ts) (body_reading names bound n (n + 2) ts)
        (terms_in bound d n (n + 2) ts long) (only_in bound d n (n + 2) ts long) (formulas_in bound d (n + 2) ts long) (both_in bound d n (n + 2) ts long) (body_in bound d n (n + 2) ts long)

    only_in : (bound : List (List ℕ)) (d n m : ℕ) (ts : Trees) → length bound ≡ d → Holds (IsFormula d) (only_reading names bound n m ts)
    only_in bound d n m none long = tt
    only_in bound d n m (t ▸ ts) long = ended_holds (IsFormula d) _ ts _ (formula_in bound d m t long)

    both_in : (bound : List (List ℕ)) (d n m : ℕ) (ts : Trees) → length bound ≡ d → Holds (λ p. IsFormula d p.0 × IsFormula d p.1) (both_reading names bound n m ts)
    both_in bound d n m none long = tt
    both_in bound d n m (t ▸ none) long = tt
    both_in bound d n m (t ▸ u ▸ ts) long =
        ended_holds (λ (p : Formula × Formula). IsFormula d p.0 × IsFormula d p.1) _ ts _
        (both_holds (IsFormula d) (IsFormula d) (λ (p : Formula × Formula). IsFormula d p.0 × IsFormula d p.1) pair _ _ (formula_in bound d m t long) (formula_in bound d (m + item_count t) u long) (λ x y h g. (h, g)))

    -- one more name is bound inside
    body_in : (bound : List (List ℕ)) (d n m : ℕ) (ts : Trees) → length bound ≡ d → Holds (IsFormula (suc d)) (body_reading names bound n m ts)
    body_in bound d n m none long = tt
    body_in bound d n m (t ▸ none) long = tt
    body_in bound d n m (atom w ▸ u ▸ ts) long =
        ended_holds (IsFormula (suc d)) _ ts _
        (both_holds (λ x. Unit {0}) (IsFormula (suc d)) (IsFormula (suc d)) body_of (binder_reading m (atom w)) _ (holds_unit (binder_reading m (atom w)))
        (formula_in (bound ++ w ∷ []) (suc d) (m + item_count (atom w)) u (omega (arith, long, length-append bound (w ∷ [])))) (λ x f h g. g))
    body_in bound d n m (list us ▸ u ▸ ts) long =
        ended_holds (IsFormula (suc d)) _ ts _
        (both_holds (λ x. ⊥) (λ f. Unit {0}) (IsFormula (suc d)) body_of (wrong Shape m) (formula_reading names bound (m + item_count (list us)) u) tt (holds_unit (formula_reading names bound (m + item_count (list us)) u)) (λ x f h g. absurd h))

    formulas_in : (bound : List (List ℕ)) (d m : ℕ) (ts : Trees) → length bound ≡ d → Holds (AreFormulas d) (formulas_reading names bound m ts)
    formulas_in bound d m none long = refl
    formulas_in bound d m (t ▸ ts) long =
        both_holds (IsFormula d) (AreFormulas d) (AreFormulas d) T.more (formula_reading names bound m t) (formulas_reading names bound (m + item_count t) ts)
        (formula_in bound d m t long) (formulas_in bound d (m + item_count t) ts long) (λ f fs h g. and_from (passes (scope columns variables) d f) (all_pass (scope columns variables) d fs) h g)

  -- ---- below no quantifier

  pub term_known : (n : ℕ) (t : Tree) → Holds (λ t. term_passes (known columns variables) t ≡ true) (term_reading names [] n t)
  term_known n t = holds_weaker (IsTerm 0) (λ t. term_passes (known columns variables) t ≡ true) (term_reading names [] n t) (scoped_term columns variables) (term_in [] 0 n t refl)

  pub formula_scoped : (n : ℕ) (t : Tree) → Holds (λ f. is_scoped columns variables f ≡ true) (formula_reading names [] n t)
  formula_scoped n t = formula_in [] 0 n t refl

-- ---- names beside the code

-- the variables of these names
abbrev pub variable_total : Option (List (List ℕ)) → ℕ
variable_total others = length (variable_names others)

placed_in : (n : ℕ) (o : Option ℕ) → ((k : ℕ) → o ≡ Some k → k < n) → IfSome o (λ k. nat_lt k n ≡ true)
placed_in n None h = tt
placed_in n (Some k) h = test_from_below k n (h k refl)

or_below : (n k : ℕ) (o p : Option ℕ) → ((j : ℕ) → o ≡ Some j → j < n) → ((j : ℕ) → p ≡ Some j → j < 12) → place_or n o p ≡ Some k → k < 12 + n
or_below n k (Some j) p h g e = let same : j ≡ k = cc in omega (arith, same, h j refl)
or_below n k None (Some j) h g e = let same : n + j ≡ k = cc in omega (arith, same, g j refl)
or_below n k None None h g e = absurd (cc)

pub column_below : (columns : List (List ℕ)) (w : List ℕ) (k : ℕ) → column_place columns w ≡ Some k → k < column_count (length columns)
column_below columns w k e = or_below (length columns) k (place_of columns w) (place_of system_columns w) (λ j h. place_below columns w j h) (λ j h. place_below system_columns w j h) e

used_below : (n : ℕ) (o : Option ℕ) → ((k : ℕ) → o ≡ Some k → k < n) → IsColumnOf n (column_at o)
used_below n None h = tt
used_below n (Some k) h = test_from_below k n (h k refl)

-- beside the code are in scope all columns and these variables
pub beside_in_scope : (columns : List (List ℕ)) (others : Option (List (List ℕ))) → AreInScope (column_count (length columns)) (variable_total others) (beside_names columns others)
beside_in_scope columns others = record {
  variables = λ w. placed_in (variable_total others) (place_of (variable_names others) w) (λ k e. place_below (variable_names others) w k e);
  columns = λ w. used_below (column_count (length columns)) (column_place columns w) (λ k e. column_below columns w k e);
  numbered = refl;
  built = refl;
}

-- and where no quantifier is allowed
pub quiet_in_scope : (columns variables : ℕ) (names : Names) → AreInScope columns variables names → AreInScope columns variables (quiet names)
quiet_in_scope columns variables names all = record { variables = all.variables; columns = all.columns; numbered = refl; built = refl }
