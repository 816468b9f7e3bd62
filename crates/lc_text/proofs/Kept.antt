-- Terms, columns and formulas that are read read back, if names are spelled as they are read.
use Rattle.std.proofs.Common.{◌≡◌, ℕ, ℤ, ◌+◌, ◌<◌, ◌≤◌, Bool, true, false, cond, List, [], ◌∷◌, ◌++◌, length, Option, Some, None, refl, ap, ◌∙◌, arith}
use Rattle.std.proofs.lemmas.Bool.{leb-true}
use Rattle.std.proofs.lemmas.List.{length_push}
use Rattle.std.specs.Prelude.{nat_le}
use Rattle.std.specs.Option.{option_or}
use Rattle.lc_base.specs.NameText.{is_name}
use Rattle.lc_base.specs.declared.ids.ColId.{ColId}
use Rattle.lc_sexp.specs.Numerals.{integer_of, variable_of}
use Rattle.lc_sexp.specs.Parts.{fits, beyond, fits_i64, integer_within, variable_within}
use Rattle.lc_sexp.specs.Trees.{Tree, Trees, atom, list, none, ◌▸◌, item_count, item_count_of_all}
use Rattle.lc_reading.proofs.Fine.{IfFine, if_fine_unit, cond_fine, mapped_fine, both_fine, ended_fine, two_fine, three_fine}
use Rattle.lc_reading.specs.Naming.{within}
use Rattle.lc_reading.specs.Readings.{Reading, fine, flawed, wrong, mapped, both, ended}
use Rattle.lc_reading.specs.Words.{is, is_long}
use Rattle.lc_reading.specs.declared.flaw.Flaw.{Flaw}
use Rattle.lc_reading.specs.declared.pass.Pass.TheVariants.{Shape, Bound as Beyond}
use Rattle.lc_term.specs.Syntax as S
use Rattle.lc_term.specs.Syntax.{Term, Column, Formula, Formulas}
use Rattle.lc_text.specs.Formulas as F
use Rattle.lc_text.specs.Formulas.{formula_reading, formulas_reading, only_reading, both_reading, body_reading, binder_reading, connective_reading, bound_inside, body_of}
use Rattle.lc_text.specs.Heads.{operation_of, built_of, connective_of, allowed}
use Rattle.lc_text.specs.SpelledTree.{binders, TermReadsBack, ColumnReadsBack, FormulaReadsBack, FormulasReadBack}
use Rattle.lc_text.specs.Terms as T
use Rattle.lc_text.specs.Terms.{pair, triple, fit_reading, number_reading, number_or, bound_index, bound_or_free, word_reading, variable_reading, numbered_reading, atom_reading, base_reading, used, operation_reading, built_reading, term_reading, terms_reading, product_reading, access_reading, column_reading, store_reading, numbers_reading}
use Rattle.lc_text.specs.declared.scope.ColumnUse.TheVariants.{Usable, Misplaced, Hidden, Undeclared}
use Rattle.lc_text.specs.declared.words.Built.{Built}
use Rattle.lc_text.specs.declared.words.Built.TheVariants as B
use Rattle.lc_text.specs.declared.words.Connective.{Connective}
use Rattle.lc_text.specs.declared.words.Connective.TheVariants as C
use Rattle.lc_text.specs.declared.words.Operation.{Operation}
use Rattle.lc_text.specs.declared.words.Operation.TheVariants as O
use Rattle.lc_text.specs.declared.scope.ColumnUse.{ColumnUse}
use Rattle.lc_text.specs.declared.scope.Extra.TheVariants.{Quantifiers, BuiltColumns, NumberedVariables}
use Rattle.lc_text.specs.Names.{Names}
use Rattle.lc_text.specs.Spelling.{Spelled}

-- ---- numbers

number_within : (z : ℤ) (n : ℕ) (b : Bool) → fits_i64 z ≡ b → IfFine (fit_reading n (cond b (fits z) beyond)) (λ y. fits_i64 y ≡ true)
number_within z n true e = e
number_within z n false e = tt

number_of : (n : ℕ) (o : Option ℤ) → IfFine (fit_reading n (integer_within o)) (λ z. fits_i64 z ≡ true)
number_of n None = tt
number_of n (Some z) = number_within z n (fits_i64 z) refl

pub number_kept : (n : ℕ) (t : Tree) → IfFine (number_reading n t) (λ z. fits_i64 z ≡ true)
number_kept n (atom w) = number_of n (integer_of w)
number_kept n (list ts) = tt

pub numbers_kept : (n m : ℕ) (ts : Trees) → IfFine (numbers_reading n m ts) (λ p. (fits_i64 p.0 ≡ true) × (fits_i64 p.1 ≡ true))
numbers_kept n m none = tt
numbers_kept n m (t ▸ none) = tt
numbers_kept n m (t ▸ u ▸ ts) =
    two_fine (λ z. fits_i64 z ≡ true) (λ z. fits_i64 z ≡ true) (λ p. (fits_i64 p.0 ≡ true) × (fits_i64 p.1 ≡ true)) pair m t u ts (number_reading m t) (number_reading (m + item_count t) u)
    (number_kept m t) (number_kept (m + item_count t) u) (λ x y a b. (a, b))

-- ---- names

-- the innermost of n + 1
innermost : (n k : ℕ) (b : Bool) → cond b (Some n) None ≡ Some k → k < n + 1
innermost n k true e = let same : n ≡ k = cc in omega arith
innermost n k false e = absurd (cc)

inner_or : (n k : ℕ) (b : Bool) (o : Option ℕ) → ((j : ℕ) → o ≡ Some j → j < n) → option_or o (cond b (Some n) None) ≡ Some k → k < n + 1
inner_or n k b None h e = innermost n k b e
inner_or n k b (Some j) h e = let same : j ≡ k = cc in let lt = h j refl in omega arith

pub bound_below : (bound : List (List ℕ)) (w : List ℕ) (k : ℕ) → bound_index bound w ≡ Some k → k < length bound
bound_below [] w k e = absurd (cc)
bound_below (b ∷ bound) w k e = let lt = inner_or (length bound) k (is w b) (bound_index bound w) (λ j is. bound_below bound w j is) e in omega arith

-- a name that a text may use
pub record IsUsed (w : List ℕ) : Type 0 where
  pub name : is_name w ≡ true
  pub short : is_long w ≡ false

-- Names are spelled as they are read: free variables by their names or their numbers, whatever variables are bound, and columns
pub record AreSpelled (names : Names) (by : Spelled) : Type 0 where
  pub variables : (w : List ℕ) (k d n : ℕ) → IsUsed w → names.variable w ≡ Some k → atom_reading names (binders d) n (by.variable k) ≡ fine (S.Variable k)
  pub numbered : (k d n : ℕ) → names.allows NumberedVariables ≡ true → k < 4294967296 → atom_reading names (binders d) n (by.variable k) ≡ fine (S.Variable k)
  pub columns : (w : List ℕ) (c : ColId) (reader n : ℕ) → IsUsed w → names.column w ≡ Usable c → base_reading names reader n (by.column c.0) ≡ fine (S.Base c.0)

module _ (names : Names) (by : Spelled) (all : AreSpelled names by) where
  abbrev pub IsTerm : ℕ → Term → Type 0
  IsTerm d t = TermReadsBack names by d t

  abbrev pub IsColumn : ℕ → Column → Type 0
  IsColumn d c = ColumnReadsBack names by d c

  abbrev pub IsFormula : ℕ → Formula → Type 0
  IsFormula d f = FormulaReadsBack names by d f

  abbrev pub AreFormulas : ℕ → Formulas → Type 0
  AreFormulas d fs = FormulasReadBack names by d fs

  -- ---- atoms

  short_column : (d n : ℕ) (c : ColId) (w : List ℕ) (long : Bool) → is_long w ≡ long → names.column w ≡ Usable c → is_name w ≡ true → IfFine (cond long (wrong Beyond n) (fine (S.Base c.0))) (IsColumn d)
  short_column d n c w true short same name = tt
  short_column d n c w false short same name = λ reader m. all.columns w c reader m (record { name = name; short = short }) same

  named_column : (d n : ℕ) (c : ColId) (w : List ℕ) (b : Bool) → is_name w ≡ b → names.column w ≡ Usable c → IfFine (cond b (within n w (S.Base c.0)) (wrong Shape n)) (IsColumn d)
  named_column d n c w true name same = short_column d n c w (is_long w) refl same name
  named_column d n c w false name same = tt

  used_kept : (d reader n : ℕ) (w : List ℕ) (u : ColumnUse) → names.column w ≡ u → IfFine (used u reader n w) (IsColumn d)
  used_kept d reader n w Misplaced same = tt
  used_kept d reader n w Undeclared same = cond_fine (IsColumn d) (is_name w) _ _ tt tt
  used_kept d reader n w Hidden same = cond_fine (IsColumn d) (is_name w) _ _ tt tt
  used_kept d reader n w (Usable c) same = named_column d n c w (is_name w) refl same

  short_variable : (d n k : ℕ) (w : List ℕ) (long : Bool) → is_long w ≡ long → names.variable w ≡ Some k → is_name w ≡ true → IfFine (cond long (wrong Beyond n) (fine (S.Variable k))) (IsTerm d)
  short_variable d n k w true short at name = tt
  short_variable d n k w false short at name = λ m. all.variables w k d m (record { name = name; short = short }) at

  variable_kept : (bound : List (List ℕ)) (d n : ℕ) (w : List ℕ) (o free : Option ℕ) → length bound ≡ d → is_name w ≡ true → bound_index bound w ≡ o → names.variable w ≡ free → IfFine (bound_or_free n w o free) (IsTerm d)
  variable_kept bound d n w (Some k) free long name at is = let lt = bound_below bound w k at in cond_fine (IsTerm d) (is_long w) (wrong Beyond n) (fine (S.Bound k)) tt (omega arith)
  variable_kept bound d n w None (Some k) long name at is = short_variable d n k w (is_long w) refl is name
  variable_kept bound d n w None None long name at is = tt

  small_variable : (d n k : ℕ) (b : Bool) → names.allows NumberedVariables ≡ true → nat_le k 4294967295 ≡ b → IfFine (mapped S.Variable (fit_reading n (cond b (fits k) beyond))) (IsTerm d)
  small_variable d n k true here small = λ m. let le = leb-true k 4294967295 small in all.numbered k d m here (omega arith)
  small_variable d n k false here small = tt

  numbered_of : (d n : ℕ) (o : Option ℕ) → names.allows NumberedVariables ≡ true → IfFine (mapped S.Variable (fit_reading n (variable_within o))) (IsTerm d)
  numbered_of d n None here = tt
  numbered_of d n (Some k) here = small_variable d n k (nat_le k 4294967295) here refl

  numbered_kept : (d n : ℕ) (w : List ℕ) (b : Bool) → names.allows NumberedVariables ≡ b → IfFine (cond b (mapped S.Variable (fit_reading n (variable_within (variable_of w)))) (wrong Shape n)) (IsTerm d)
  numbered_kept d n w true here = numbered_of d n (variable_of w) here
  numbered_kept d n w false here = tt

  word_at : (bound : List (List ℕ)) (d n : ℕ) (w : List ℕ) (b : Bool) → length bound ≡ d → is_name w ≡ b → IfFine (cond b (variable_reading names bound n w) (numbered_reading names n w)) (IsTerm d)
  word_at bound d n w true long name = variable_kept bound d n w (bound_index bound w) (names.variable w) long name refl refl
  word_at bound d n w false long name = numbered_kept d n w (names.allows NumberedVariables) refl

  word_kept : (bound : List (List ℕ)) (d n : ℕ) (w : List ℕ) → length bound ≡ d → IfFine (word_reading names bound n w) (IsTerm d)
  word_kept bound d n w long = word_at bound d n w (is_name w) long refl

  number_term : (d n : ℕ) (z : ℤ) (r : Reading Term) (b : Bool) → fits_i64 z ≡ b → IfFine (number_or n (cond b (fits z) beyond) r) (IsTerm d)
  number_term d n z r true e = e
  number_term d n z r false e = tt

  number_or_kept : (d n : ℕ) (o : Option ℤ) (r : Reading Term) → IfFine r (IsTerm d) → IfFine (number_or n (integer_within o) r) (IsTerm d)
  number_or_kept d n None r h = h
  number_or_kept d n (Some z) r h = number_term d n z r (fits_i64 z) refl

  atom_kept : (bound : List (List ℕ)) (d n : ℕ) (w : List ℕ) → length bound ≡ d → IfFine (atom_reading names bound n w) (IsTerm d)
  atom_kept bound d n w long = number_or_kept d n (integer_of w) (word_reading names bound n w) (word_kept bound d n w long)

  -- ---- terms and columns

  operation_kept : (d n : ℕ) (o : Option Operation) (terms : Reading (Term × Term)) (product : Reading (ℤ × Term)) (access : Reading (Column × Term))
      → IfFine terms (λ p. IsTerm d p.0 × IsTerm d p.1) → IfFine product (λ p. (fits_i64 p.0 ≡ true) × IsTerm d p.1) → IfFine access (λ p. IsColumn d p.0 × IsTerm d p.1)
      → IfFine (operation_reading n o terms product access) (IsTerm d)
  operation_kept d n None terms product access h g k = tt
  operation_kept d n (Some O.Add) terms product access h g k = mapped_fine (λ p. IsTerm d p.0 × IsTerm d p.1) (IsTerm d) (T.sum_of O.Add) terms h (λ p a. (a.0, a.1))
  operation_kept d n (Some O.Subtract) terms product access h g k = mapped_fine (λ p. IsTerm d p.0 × IsTerm d p.1) (IsTerm d) (T.sum_of O.Subtract) terms h (λ p a. (a.0, a.1))
  operation_kept d n (Some O.Multiply) terms product access h g k = mapped_fine (λ p. (fits_i64 p.0 ≡ true) × IsTerm d p.1) (IsTerm d) T.product_of product g (λ p a. (a.0, a.1))
  operation_kept d n (Some O.Read) terms product access h g k = mapped_fine (λ p. IsColumn d p.0 × IsTerm d p.1) (IsTerm d) T.access_of access k (λ p a. (a.0, a.1))

  built_kept : (d n : ℕ) (b : Bool) (o : Option Built) (numbers : Reading (ℤ × ℤ)) (store : Reading ((Column × Term) × Term)) → names.allows BuiltColumns ≡ b
      → IfFine numbers (λ p. (fits_i64 p.0 ≡ true) × (fits_i64 p.1 ≡ true)) → IfFine store (λ p. IsColumn d p.0.0 × IsTerm d p.0.1 × IsTerm d p.1) → IfFine (built_reading n (cond b o None) numbers store) (IsColumn d)
  built_kept d n false o numbers store here h g = tt
  built_kept d n true None numbers store here h g = tt
  built_kept d n true (Some B.Affine) numbers store here h g = mapped_fine (λ p. (fits_i64 p.0 ≡ true) × (fits_i64 p.1 ≡ true)) (IsColumn d) T.affine_of numbers h (λ p a. (here, a.0, a.1))
  built_kept d n true (Some B.Store) numbers store here h g = mapped_fine (λ p. IsColumn d p.0.0 × IsTerm d p.0.1 × IsTerm d p.1) (IsColumn d) T.store_of store g (λ p a. (here, a.0, a.1, a.2))

  mutual
    pub term_kept : (bound : List (List ℕ)) (d n : ℕ) (t : Tree) → length bound ≡ d → IfFine (term_reading names bound n t) (IsTerm d)
    term_kept bound d n (atom w) long = atom_kept bound d n w long
    term_kept bound d n (list none) long = tt
    term_kept bound d n (list (list us ▸ ts)) long = tt
    term_kept bound d n (list (atom w ▸ ts)) long =
        operation_kept d n (operation_of w) (terms_reading names bound n (n + 2) ts) (product_reading names bound n (n + 2) ts) (access_reading names bound n (n + 2) ts)
        (terms_kept bound d n (n + 2) ts long) (product_kept bound d n (n + 2) ts long) (access_kept bound d n (n + 2) ts long)

    terms_kept : (bound : List (List ℕ)) (d n m : ℕ) (ts : Trees) → length bound ≡ d → IfFine (terms_reading names bound n m ts) (λ p. IsTerm d p.0 × IsTerm d p.1)
    terms_kept bound d n m none long = tt
    terms_kept bound d n m (t ▸ none) long = tt
    terms_kept bound d n m (t ▸ u ▸ ts) long =
        two_fine (IsTerm d) (IsTerm d) (λ p. IsTerm d p.0 × IsTerm d p.1) pair m t u ts _ _ (term_kept bound d m t long) (term_kept bound d (m + item_count t) u long) (λ x y a b. (a, b))

    product_kept : (bound : List (List ℕ)) (d n m : ℕ) (ts : Trees) → length bound ≡ d → IfFine (product_reading names bound n m ts) (λ p. (fits_i64 p.0 ≡ true) × IsTerm d p.1)
    product_kept bound d n m none long = tt
    product_kept bound d n m (t ▸ none) long = tt
    product_kept bound d n m (t ▸ u ▸ ts) long =
        two_fine (λ z. fits_i64 z ≡ true) (IsTerm d) (λ p. (fits_i64 p.0 ≡ true) × IsTerm d p.1) pair m t u ts _ _ (number_kept m t) (term_kept bound d (m + item_count t) u long) (λ x y a b. (a, b))

    access_kept : (bound : List (List ℕ)) (d n m : ℕ) (ts : Trees) → length bound ≡ d → IfFine (access_reading names bound n m ts) (λ p. IsColumn d p.0 × IsTerm d p.1)
    access_kept bound d n m none long = tt
    access_kept bound d n m (t ▸ none) long = tt
    access_kept bound d n m (t ▸ u ▸ ts) long =
        two_fine (IsColumn d) (IsTerm d) (λ p. IsColumn d p.0 × IsTerm d p.1) pair m t u ts _ _ (column_kept bound d n m t long) (term_kept bound d (m + item_count t) u long) (λ x y a b. (a, b))

    pub column_kept : (bound : List (List ℕ)) (d reader n : ℕ) (t : Tree) → length bound ≡ d → IfFine (column_reading names bound reader n t) (IsColumn d)
    column_kept bound d reader n (atom w) long = used_kept d reader n w (names.column w) refl
    column_kept bound d reader n (list none) long = tt
    column_kept bound d reader n (list (list us ▸ ts)) long = tt
    column_kept bound d reader n (list (atom w ▸ ts)) long =
        built_kept d n (names.allows BuiltColumns) (built_of w) (numbers_reading n (n + 2) ts) (store_reading names bound n (n + 2) ts) refl (numbers_kept n (n + 2) ts) (store_kept bound d n (n + 2) ts long)

    store_kept : (bound : List (List ℕ)) (d n m : ℕ) (ts : Trees) → length bound ≡ d → IfFine (store_reading names bound n m ts) (λ p. IsColumn d p.0.0 × IsTerm d p.0.1 × IsTerm d p.1)
    store_kept bound d n m none long = tt
    store_kept bound d n m (t ▸ none) long = tt
    store_kept bound d n m (t ▸ u ▸ none) long = tt
    store_kept bound d n m (t ▸ u ▸ v ▸ ts) long =
        three_fine (IsColumn d) (IsTerm d) (IsTerm d) (λ p. IsColumn d p.0.0 × IsTerm d p.0.1 × IsTerm d p.1) triple m t u v ts _ _ _
        (column_kept bound d n m t long) (term_kept bound d (m + item_count t) u long) (term_kept bound d (m + item_count t + item_count u) v long) (λ x y z a b c. (a, b, c))

  -- ---- formulas

  connective_kept : (d n : ℕ) (q : Bool) → d < 4294967296 → names.allows Quantifiers ≡ q → (o : Option Connective) (terms : Reading (Term × Term)) (one : Reading Formula) (any : Reading Formulas) (two : Reading (Formula × Formula)) (body : Reading Formula)
      → IfFine terms (λ p. IsTerm d p.0 × IsTerm d p.1) → IfFine one (IsFormula d) → IfFine any (AreFormulas d) → IfFine two (λ p. IsFormula d p.0 × IsFormula d p.1) → IfFine body (IsFormula (d + 1))
      → IfFine (connective_reading n (allowed q o) terms one any two body) (IsFormula d)
  connective_kept d n q small here None terms one any two body h g i j k = tt
  connective_kept d n q small here (Some C.Le) terms one any two body h g i j k = mapped_fine (λ p. IsTerm d p.0 × IsTerm d p.1) (IsFormula d) (F.comparison_of C.Le) terms h (λ p a. (a.0, a.1))
  connective_kept d n q small here (Some C.Eq) terms one any two body h g i j k = mapped_fine (λ p. IsTerm d p.0 × IsTerm d p.1) (IsFormula d) (F.comparison_of C.Eq) terms h (λ p a. (a.0, a.1))
  connective_kept d n q small here (Some C.Not) terms one any two body h g i j k = mapped_fine (IsFormula d) (IsFormula d) S.Not one g (λ f a. a)
  connective_kept d n q small here (Some C.And) terms one any two body h g i j k = mapped_fine (AreFormulas d) (IsFormula d) (F.joined_by C.And) any i (λ fs a. a)
  connective_kept d n q small here (Some C.Or) terms one any two body h g i j k = mapped_fine (AreFormulas d) (IsFormula d) (F.joined_by C.Or) any i (λ fs a. a)
  connective_kept d n q small here (Some C.Implies) terms one any two body h g i j k = mapped_fine (λ p. IsFormula d p.0 × IsFormula d p.1) (IsFormula d) F.implication_of two j (λ p a. (a.0, a.1))
  connective_kept d n true small here (Some C.Forall) terms one any two body h g i j k = mapped_fine (IsFormula (d + 1)) (IsFormula d) (F.quantified_by C.Forall) body k (λ f a. (here, small, a))
  connective_kept d n false small here (Some C.Forall) terms one any two body h g i j k = tt
  connective_kept d n true small here (Some C.Exists) terms one any two body h g i j k = mapped_fine (IsFormula (d + 1)) (IsFormula d) (F.quantified_by C.Exists) body k (λ f a. (here, small, a))
  connective_kept d n false small here (Some C.Exists) terms one any two body h g i j k = tt

  -- a quantifier's name that is a list
  unnamed_body : (f : Flaw) (P : Formula → Type 0) (m : ℕ) (ts : Trees) (r : Reading Formula) → IfFine (ended m ts (both body_of (flawed f) r)) P
  unnamed_body f P m none (fine x) = tt
  unnamed_body f P m none (flawed g) = tt
  unnamed_body f P m (t ▸ ts) (fine x) = tt
  unnamed_body f P m (t ▸ ts) (flawed g) = tt

  mutual
    pub formula_kept : (bound : List (List ℕ)) (d n : ℕ) (t : Tree) → length bound ≡ d → d + item_count t ≤ 4294967296 → IfFine (formula_reading names bound n t) (IsFormula d)
    formula_kept bound d n (atom w) long small = tt
    formula_kept bound d n (list none) long small = tt
    formula_kept bound d n (list (list us ▸ ts)) long small = tt
    formula_kept bound d n (list (atom w ▸ ts)) long small =
        connective_kept d n (names.allows Quantifiers) (omega arith) refl (connective_of w) (terms_reading names bound n (n + 2) ts) (only_reading names bound n (n + 2) ts) (formulas_reading names bound (n + 2) ts)
        (both_reading names bound n (n + 2) ts) (body_reading names bound n (n + 2) ts)
        (terms_kept bound d n (n + 2) ts long) (only_kept bound d n (n + 2) ts long (omega arith)) (formulas_kept bound d (n + 2) ts long (omega arith))
        (both_kept bound d n (n + 2) ts long (omega arith)) (body_kept bound d n (n + 2) ts long (omega arith))

    only_kept : (bound : List (List ℕ)) (d n m : ℕ) (ts : Trees) → length bound ≡ d → d + item_count_of_all ts ≤ 4294967296 → IfFine (only_reading names bound n m ts) (IsFormula d)
    only_kept bound d n m none long small = tt
    only_kept bound d n m (t ▸ ts) long small = ended_fine (IsFormula d) (m + item_count t) ts (formula_reading names bound m t) (formula_kept bound d m t long (omega arith))

    both_kept : (bound : List (List ℕ)) (d n m : ℕ) (ts : Trees) → length bound ≡ d → d + item_count_of_all ts ≤ 4294967296 → IfFine (both_reading names bound n m ts) (λ p. IsFormula d p.0 × IsFormula d p.1)
    both_kept bound d n m none long small = tt
    both_kept bound d n m (t ▸ none) long small = tt
    both_kept bound d n m (t ▸ u ▸ ts) long small =
        two_fine (IsFormula d) (IsFormula d) (λ p. IsFormula d p.0 × IsFormula d p.1) pair m t u ts _ _
        (formula_kept bound d m t long (omega arith)) (formula_kept bound d (m + item_count t) u long (omega arith)) (λ x y a b. (a, b))

    body_kept : (bound : List (List ℕ)) (d n m : ℕ) (ts : Trees) → length bound ≡ d → d + item_count_of_all ts ≤ 4294967296 → IfFine (body_reading names bound n m ts) (IsFormula (d + 1))
    body_kept bound d n m none long small = tt
    body_kept bound d n m (t ▸ none) long small = tt
    body_kept bound d n m (list us ▸ u ▸ ts) long small = unnamed_body _ (IsFormula (d + 1)) _ ts _
    body_kept bound d n m (atom w ▸ u ▸ ts) long small =
        two_fine (λ z. Unit {0}) (IsFormula (d + 1)) (IsFormula (d + 1)) body_of m (atom w) u ts (binder_reading m (atom w)) (formula_reading names (bound ++ (w ∷ [])) (m + 1) u)
        (if_fine_unit (binder_reading m (atom w))) (formula_kept (bound ++ (w ∷ [])) (d + 1) (m + 1) u (length_push bound w ∙ ap (λ k. k + 1) long) (omega arith)) (λ x y a b. b)

    formulas_kept : (bound : List (List ℕ)) (d m : ℕ) (ts : Trees) → length bound ≡ d → d + item_count_of_all ts ≤ 4294967296 → IfFine (formulas_reading names bound m ts) (AreFormulas d)
    formulas_kept bound d m none long small = tt
    formulas_kept bound d m (t ▸ ts) long small =
        both_fine (IsFormula d) (AreFormulas d) (AreFormulas d) S.more (formula_reading names bound m t) (formulas_reading names bound (m + item_count t) ts)
        (formula_kept bound d m t long (omega arith)) (formulas_kept bound d (m + item_count t) ts long (omega arith)) (λ f fs a b. (a, b))
