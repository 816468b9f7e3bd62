-- What is read has its free variables among those that the names give.
use Rattle.std.proofs.Common.{◌≡◌, ℕ, suc, ◌+◌, Bool, true, false, ◌&&◌, List, [], ◌∷◌, Option, Some, None, refl, IfSome}
use Rattle.std.specs.Prelude.{ℤ}
use Rattle.std.specs.List.{list_all}
use Rattle.std.proofs.lemmas.Bool.{and_from}
use Rattle.lc_lemmas.proofs.Booleans.{and_parts}
use Rattle.lc_base.specs.NameText.{is_name}
use Rattle.lc_sexp.specs.Trees.{Tree, Trees, atom, list, none, ◌▸◌, item_count}
use Rattle.lc_sexp.specs.Parts.{Fit, fits, misshapen, beyond, integer_fit}
use Rattle.lc_reading.specs.Naming.{within}
use Rattle.lc_reading.specs.Readings.{Reading, fine, wrong}
use Rattle.lc_reading.specs.Words.{is_long}
use Rattle.lc_reading.specs.declared.pass.Pass.TheVariants.{Bound}
use Rattle.lc_text.specs.Names.{Names}
use Rattle.lc_term.specs.Places.{Test, term_passes, column_passes, passes, all_pass}
use Rattle.lc_term.specs.Syntax as T
use Rattle.lc_term.specs.Syntax.{Term, Column, Formula, Formulas, formulas, more}
use Rattle.lc_text.specs.declared.scope.ColumnUse.{ColumnUse}
use Rattle.lc_text.specs.declared.scope.ColumnUse.TheVariants.{Usable, Misplaced, Hidden, Undeclared}
use Rattle.lc_text.specs.declared.scope.Extra.TheVariants.{NumberedVariables}
use Rattle.lc_text.specs.Formulas.{binder_reading, bound_inside, body_of, comparison_of, joined_by, implication_of, quantified_by, connective_reading, formula_reading, only_reading, both_reading, body_reading, formulas_reading}
use Rattle.lc_text.specs.Heads.{operation_of, built_due, connective_due}
use Rattle.lc_text.specs.Terms.{pair, triple, bound_index, bound_or_free, variable_reading, number_reading, numbered_reading, word_reading, number_or, atom_reading, used, sum_of, product_of, access_of, affine_of, store_of, operation_reading, built_reading, numbers_reading, term_reading, terms_reading, product_reading, access_reading, column_reading, store_reading}
use Rattle.lc_text.specs.declared.words.Built.{Built}
use Rattle.lc_text.specs.declared.words.Built.TheVariants as B
use Rattle.lc_text.specs.declared.words.Connective.{Connective}
use Rattle.lc_text.specs.declared.words.Connective.TheVariants as C
use Rattle.lc_text.specs.declared.words.Operation.{Operation}
use Rattle.lc_text.specs.declared.words.Operation.TheVariants as O
use Rattle.lc_reading.proofs.Fine.{IfFine, if_fine_unit, cond_fine, mapped_fine, both_fine, ended_fine, two_fine, three_fine}

-- each free variable passes
abbrev pub among : (ℕ → Bool) → Test
among allowed = record { columns = λ c. true; variables = allowed; bounds = λ k. true }

-- the names are those of variables that pass, and no variable is written by its number
pub record NamesIn (allowed : ℕ → Bool) (names : Names) : Type 0 where
  pub variables : (w : List ℕ) → IfSome (names.variable w) (λ k. allowed k ≡ true)
  pub numbered : names.allows NumberedVariables ≡ false

abbrev TermIn : (ℕ → Bool) → Term → Type 0
TermIn allowed t = term_passes (among allowed) t ≡ true

abbrev ColumnIn : (ℕ → Bool) → Column → Type 0
ColumnIn allowed c = column_passes (among allowed) c ≡ true

-- at any place of the formula
abbrev pub FormulaIn : (ℕ → Bool) → Formula → Type 0
FormulaIn allowed f = (m : ℕ) → passes (λ k. among allowed) m f ≡ true

abbrev pub FormulasIn : (ℕ → Bool) → Formulas → Type 0
FormulasIn allowed fs = (m : ℕ) → all_pass (λ k. among allowed) m fs ≡ true

-- the same for parts that are read together
abbrev TermsIn : (ℕ → Bool) → Term × Term → Type 0
TermsIn allowed p = TermIn allowed p.0 × TermIn allowed p.1

abbrev ProductIn : (ℕ → Bool) → ℤ × Term → Type 0
ProductIn allowed p = TermIn allowed p.1

abbrev AccessIn : (ℕ → Bool) → Column × Term → Type 0
AccessIn allowed p = ColumnIn allowed p.0 × TermIn allowed p.1

abbrev StoreIn : (ℕ → Bool) → (Column × Term) × Term → Type 0
StoreIn allowed p = AccessIn allowed p.0 × TermIn allowed p.1

abbrev PairIn : (ℕ → Bool) → Formula × Formula → Type 0
PairIn allowed p = FormulaIn allowed p.0 × FormulaIn allowed p.1

within_in : {X : Type 0} (P : X → Type 0) (n : ℕ) (w : List ℕ) (x : X) → P x → IfFine (within n w x) P
within_in P n w x h = cond_fine P (is_long w) (wrong Bound n) (fine x) tt h

free_in : (allowed : ℕ → Bool) (n : ℕ) (w : List ℕ) (o p : Option ℕ) → IfSome p (λ k. allowed k ≡ true) → IfFine (bound_or_free n w o p) (TermIn allowed)
free_in allowed n w (Some k) p h = within_in (TermIn allowed) n w (T.Bound k) refl
free_in allowed n w None (Some k) h = within_in (TermIn allowed) n w (T.Variable k) h
free_in allowed n w None None h = tt

number_in : (allowed : ℕ → Bool) (n : ℕ) (f : Fit ℤ) (r : Reading Term) → IfFine r (TermIn allowed) → IfFine (number_or n f r) (TermIn allowed)
number_in allowed n (fits z) r h = refl
number_in allowed n misshapen r h = h
number_in allowed n beyond r h = tt

atom_in : (allowed : ℕ → Bool) (names : Names) → NamesIn allowed names → (bound : List (List ℕ)) (n : ℕ) (w : List ℕ) → IfFine (atom_reading names bound n w) (TermIn allowed)
atom_in allowed names low bound n w =
    number_in allowed n (integer_fit (atom w)) (word_reading names bound n w)
    (cond_fine (TermIn allowed) (is_name w) (variable_reading names bound n w) (numbered_reading names n w)
    (free_in allowed n w (bound_index bound w) (names.variable w) (low.variables w)) (rw low.numbered tt))

used_in : (allowed : ℕ → Bool) (u : ColumnUse) (reader n : ℕ) (w : List ℕ) → IfFine (used u reader n w) (ColumnIn allowed)
used_in allowed Misplaced reader n w = tt
used_in allowed Undeclared reader n w = cond_fine (ColumnIn allowed) (is_name w) _ _ tt tt
used_in allowed Hidden reader n w = cond_fine (ColumnIn allowed) (is_name w) _ _ tt tt
used_in allowed (Usable c) reader n w = cond_fine (ColumnIn allowed) (is_name w) _ _ (within_in (ColumnIn allowed) n w (T.Base c.0) refl) tt

operation_in : (allowed : ℕ → Bool) (n : ℕ) (o : Option Operation) (terms : Reading (Term × Term)) (product : Reading (ℤ × Term)) (access : Reading (Column × Term))
    → IfFine terms (TermsIn allowed) → IfFine product (ProductIn allowed) → IfFine access (AccessIn allowed) → IfFine (operation_reading n o terms product access) (TermIn allowed)
operation_in allowed n None terms product access h g i = tt
operation_in allowed n (Some O.Add) terms product access h g i = mapped_fine (TermsIn allowed) (TermIn allowed) (sum_of O.Add) terms h (λ p a. and_from (term_passes (among allowed) p.0) (term_passes (among allowed) p.1) a.0 a.1)
operation_in allowed n (Some O.Subtract) terms product access h g i =
    mapped_fine (TermsIn allowed) (TermIn allowed) (sum_of O.Subtract) terms h (λ p a. and_from (term_passes (among allowed) p.0) (term_passes (among allowed) p.1) a.0 a.1)
operation_in allowed n (Some O.Multiply) terms product access h g i = mapped_fine (ProductIn allowed) (TermIn allowed) product_of product g (λ p a. a)
operation_in allowed n (Some O.Read) terms product access h g i =
    mapped_fine (AccessIn allowed) (TermIn allowed) access_of access i (λ p a. and_from (column_passes (among allowed) p.0) (term_passes (among allowed) p.1) a.0 a.1)

built_in : (allowed : ℕ → Bool) (n : ℕ) (b : Option Built) (numbers : Reading (ℤ × ℤ)) (store : Reading ((Column × Term) × Term)) → IfFine store (StoreIn allowed) → IfFine (built_reading n b numbers store) (ColumnIn allowed)
built_in allowed n None numbers store h = tt
built_in allowed n (Some B.Affine) numbers store h = mapped_fine (λ p. Unit {0}) (ColumnIn allowed) affine_of numbers (if_fine_unit numbers) (λ p a. refl)
built_in allowed n (Some B.Store) numbers store h =
    mapped_fine (StoreIn allowed) (ColumnIn allowed) store_of store h
    (λ p a. and_from (column_passes (among allowed) p.0.0 && term_passes (among allowed) p.0.1) (term_passes (among allowed) p.1) (and_from (column_passes (among allowed) p.0.0) (term_passes (among allowed) p.0.1) a.0.0 a.0.1) a.1)

mutual
  term_in : (allowed : ℕ → Bool) (names : Names) → NamesIn allowed names → (bound : List (List ℕ)) (n : ℕ) (t : Tree) → IfFine (term_reading names bound n t) (TermIn allowed)
  term_in allowed names low bound n (atom w) = atom_in allowed names low bound n w
  term_in allowed names low bound n (list none) = tt
  term_in allowed names low bound n (list (list us ▸ ts)) = tt
  term_in allowed names low bound n (list (atom w ▸ ts)) =
      operation_in allowed n (operation_of w) (terms_reading names bound n (n + 2) ts) (product_reading names bound n (n + 2) ts) (access_reading names bound n (n + 2) ts)
      (terms_in allowed names low bound n (n + 2) ts) (product_in allowed names low bound n (n + 2) ts) (access_in allowed names low bound n (n + 2) ts)

  terms_in : (allowed : ℕ → Bool) (names : Names) → NamesIn allowed names → (bound : List (List ℕ)) (n m : ℕ) (ts : Trees) → IfFine (terms_reading names bound n m ts) (TermsIn allowed)
  terms_in allowed names low bound n m none = tt
  terms_in allowed names low bound n m (t ▸ none) = tt
  terms_in allowed names low bound n m (t ▸ u ▸ ts) =
      two_fine (TermIn allowed) (TermIn allowed) (TermsIn allowed) pair m t u ts (term_reading names bound m t) (term_reading names bound (m + item_count t) u)
      (term_in allowed names low bound m t) (term_in allowed names low bound (m + item_count t) u) (λ x y a b. (a, b))

  product_in : (allowed : ℕ → Bool) (names : Names) → NamesIn allowed names → (bound : List (List ℕ)) (n m : ℕ) (ts : Trees) → IfFine (product_reading names bound n m ts) (ProductIn allowed)
  product_in allowed names low bound n m none = tt
  product_in allowed names low bound n m (t ▸ none) = tt
  product_in allowed names low bound n m (t ▸ u ▸ ts) =
      two_fine (λ z. Unit {0}) (TermIn allowed) (ProductIn allowed) pair m t u ts (number_reading m t) (term_reading names bound (m + item_count t) u)
      (if_fine_unit (number_reading m t)) (term_in allowed names low bound (m + item_count t) u) (λ x y a b. b)

  access_in : (allowed : ℕ → Bool) (names : Names) → NamesIn allowed names → (bound : List (List ℕ)) (n m : ℕ) (ts : Trees) → IfFine (access_reading names bound n m ts) (AccessIn allowed)
  access_in allowed names low bound n m none = tt
  access_in allowed names low bound n m (t ▸ none) = tt
  access_in allowed names low bound n m (t ▸ u ▸ ts) =
      two_fine (ColumnIn allowed) (TermIn allowed) (AccessIn allowed) pair m t u ts (column_reading names bound n m t) (term_reading names bound (m + item_count t) u)
      (column_in allowed names low bound n m t) (term_in allowed names low bound (m + item_count t) u) (λ x y a b. (a, b))

  column_in : (allowed : ℕ → Bool) (names : Names) → NamesIn allowed names → (bound : List (List ℕ)) (reader n : ℕ) (t : Tree) → IfFine (column_reading names bound reader n t) (ColumnIn allowed)
  column_in allowed names low bound reader n (atom w) = used_in allowed (names.column w) reader n w
  column_in allowed names low bound reader n (list none) = tt
  column_in allowed names low bound reader n (list (list us ▸ ts)) = tt
  column_in allowed names low bound reader n (list (atom w ▸ ts)) =
      built_in allowed n (built_due names w) (numbers_reading n (n + 2) ts) (store_reading names bound n (n + 2) ts) (store_in allowed names low bound n (n + 2) ts)

  store_in : (allowed : ℕ → Bool) (names : Names) → NamesIn allowed names → (bound : List (List ℕ)) (n m : ℕ) (ts : Trees) → IfFine (store_reading names bound n m ts) (StoreIn allowed)
  store_in allowed names low bound n m none = tt
  store_in allowed names low bound n m (t ▸ none) = tt
  store_in allowed names low bound n m (t ▸ u ▸ none) = tt
  store_in allowed names low bound n m (t ▸ u ▸ v ▸ ts) =
      three_fine (ColumnIn allowed) (TermIn allowed) (TermIn allowed) (StoreIn allowed) triple m t u v ts
      (column_reading names bound n m t) (term_reading names bound (m + item_count t) u) (term_reading names bound (m + item_count t + item_count u) v)
      (column_in allowed names low bound n m t) (term_in allowed names low bound (m + item_count t) u) (term_in allowed names low bound (m + item_count t + item_count u) v)
      (λ x y z a b c. ((a, b), c))

-- a formula of parts that are read so
comparison_in : (allowed : ℕ → Bool) (x y : Term) → TermIn allowed x → TermIn allowed y → (term_passes (among allowed) x && term_passes (among allowed) y) ≡ true
comparison_in allowed x y a b = and_from (term_passes (among allowed) x) (term_passes (among allowed) y) a b

implication_in : (allowed : ℕ → Bool) (p : Formula × Formula) → PairIn allowed p → FormulaIn allowed (implication_of p)
implication_in allowed p a = λ m. and_from (passes (λ k. among allowed) m p.0) (passes (λ k. among allowed) m p.1) (a.0 m) (a.1 m)

connective_in : (allowed : ℕ → Bool) (n : ℕ) (c : Option Connective) (terms : Reading (Term × Term)) (one : Reading Formula) (any : Reading Formulas) (two : Reading (Formula × Formula)) (body : Reading Formula)
    → IfFine terms (TermsIn allowed) → IfFine one (FormulaIn allowed) → IfFine any (FormulasIn allowed) → IfFine two (PairIn allowed) → IfFine body (FormulaIn allowed)
    → IfFine (connective_reading n c terms one any two body) (FormulaIn allowed)
connective_in allowed n None terms one any two body h g i j k = tt
connective_in allowed n (Some C.Le) terms one any two body h g i j k =
    mapped_fine (TermsIn allowed) (FormulaIn allowed) (comparison_of C.Le) terms h (λ p a m. comparison_in allowed p.0 p.1 a.0 a.1)
connective_in allowed n (Some C.Eq) terms one any two body h g i j k =
    mapped_fine (TermsIn allowed) (FormulaIn allowed) (comparison_of C.Eq) terms h (λ p a m. comparison_in allowed p.0 p.1 a.0 a.1)
connective_in allowed n (Some C.Not) terms one any two body h g i j k = mapped_fine (FormulaIn allowed) (FormulaIn allowed) T.Not one g (λ f a m. a m)
connective_in allowed n (Some C.And) terms one any two body h g i j k = mapped_fine (FormulasIn allowed) (FormulaIn allowed) (joined_by C.And) any i (λ fs a m. a m)
connective_in allowed n (Some C.Or) terms one any two body h g i j k = mapped_fine (FormulasIn allowed) (FormulaIn allowed) (joined_by C.Or) any i (λ fs a m. a m)
connective_in allowed n (Some C.Implies) terms one any two body h g i j k = mapped_fine (PairIn allowed) (FormulaIn allowed) implication_of two j (λ p a. implication_in allowed p a)
connective_in allowed n (Some C.Forall) terms one any two body h g i j k = mapped_fine (FormulaIn allowed) (FormulaIn allowed) (quantified_by C.Forall) body k (λ f a m. a (suc m))
connective_in allowed n (Some C.Exists) terms one any two body h g i j k = mapped_fine (FormulaIn allowed) (FormulaIn allowed) (quantified_by C.Exists) body k (λ f a m. a (suc m))

mutual
  pub formula_in : (allowed : ℕ → Bool) (names : Names) → NamesIn allowed names → (bound : List (List ℕ)) (n : ℕ) (t : Tree) → IfFine (formula_reading names bound n t) (FormulaIn allowed)
  formula_in allowed names low bound n (atom w) = tt
  formula_in allowed names low bound n (list none) = tt
  formula_in allowed names low bound n (list (list us ▸ ts)) = tt
  formula_in allowed names low bound n (list (atom w ▸ ts)) =
      connective_in allowed n (connective_due names w) (terms_reading names bound n (n + 2) ts) (only_reading names bound n (n + 2) ts) (formulas_reading names bound (n + 2) ts)
      (both_reading names bound n (n + 2) ts) (body_reading names bound n (n + 2) ts)
      (terms_in allowed names low bound n (n + 2) ts) (only_in allowed names low bound n (n + 2) ts) (formulas_in allowed names low bound (n + 2) ts)
      (both_in allowed names low bound n (n + 2) ts) (body_in allowed names low bound n (n + 2) ts)

  only_in : (allowed : ℕ → Bool) (names : Names) → NamesIn allowed names → (bound : List (List ℕ)) (n m : ℕ) (ts : Trees) → IfFine (only_reading names bound n m ts) (FormulaIn allowed)
  only_in allowed names low bound n m none = tt
  only_in allowed names low bound n m (t ▸ ts) = ended_fine (FormulaIn allowed) (m + item_count t) ts (formula_reading names bound m t) (formula_in allowed names low bound m t)

  both_in : (allowed : ℕ → Bool) (names : Names) → NamesIn allowed names → (bound : List (List ℕ)) (n m : ℕ) (ts : Trees) → IfFine (both_reading names bound n m ts) (PairIn allowed)
  both_in allowed names low bound n m none = tt
  both_in allowed names low bound n m (t ▸ none) = tt
  both_in allowed names low bound n m (t ▸ u ▸ ts) =
      two_fine (FormulaIn allowed) (FormulaIn allowed) (PairIn allowed) pair m t u ts (formula_reading names bound m t) (formula_reading names bound (m + item_count t) u)
      (formula_in allowed names low bound m t) (formula_in allowed names low bound (m + item_count t) u) (λ x y a b. (a, b))

  body_in : (allowed : ℕ → Bool) (names : Names) → NamesIn allowed names → (bound : List (List ℕ)) (n m : ℕ) (ts : Trees) → IfFine (body_reading names bound n m ts) (FormulaIn allowed)
  body_in allowed names low bound n m none = tt
  body_in allowed names low bound n m (t ▸ none) = tt
  body_in allowed names low bound n m (t ▸ u ▸ ts) =
      two_fine (λ z. Unit {0}) (FormulaIn allowed) (FormulaIn allowed) body_of m t u ts (binder_reading m t) (formula_reading names (bound_inside t bound) (m + item_count t) u)
      (if_fine_unit (binder_reading m t)) (formula_in allowed names low (bound_inside t bound) (m + item_count t) u) (λ x y a b. b)

  pub formulas_in : (allowed : ℕ → Bool) (names : Names) → NamesIn allowed names → (bound : List (List ℕ)) (m : ℕ) (ts : Trees) → IfFine (formulas_reading names bound m ts) (FormulasIn allowed)
  formulas_in allowed names low bound m none = λ k. refl
  formulas_in allowed names low bound m (t ▸ ts) =
      both_fine (FormulaIn allowed) (FormulasIn allowed) (FormulasIn allowed) more (formula_reading names bound m t) (formulas_reading names bound (m + item_count t) ts)
      (formula_in allowed names low bound m t) (formulas_in allowed names low bound (m + item_count t) ts)
      (λ f fs a b k. and_from (passes (λ i. among allowed) k f) (all_pass (λ i. among allowed) k fs) (a k) (b k))

-- formulas in a row, as a list
pub each_in : (allowed : ℕ → Bool) (fs : List Formula) → FormulasIn allowed (formulas fs) → list_all (λ f. passes (λ k. among allowed) 0 f) fs ≡ true
each_in allowed [] h = refl
each_in allowed (f ∷ fs) h =
    let parts = λ (m : ℕ). and_parts (passes (λ k. among allowed) m f) (all_pass (λ k. among allowed) m (formulas fs)) (h m) in
    and_from (passes (λ k. among allowed) 0 f) (list_all (λ f. passes (λ k. among allowed) 0 f) fs) (parts 0).0 (each_in allowed fs (λ m. (parts m).1))
