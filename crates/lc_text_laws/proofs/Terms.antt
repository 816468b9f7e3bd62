-- What is printed of a term or a formula has the shape of what was read.
use Rattle.std.proofs.Common.{◌≡◌, ℕ, ℤ, ◌+◌, ◌-◌, ◌<◌, ◌^◌, Bool, true, false, cond, not, List, [], Option, Some, None, refl, sym, subst, arith}
use Rattle.std.proofs.Math.Nat.{min-le_right}
use Rattle.std.specs.Prelude.{codes}
use Rattle.std.specs.Fmt.{signed_decimal}
use Rattle.lc_base.specs.NameText.{is_name}
use Rattle.lc_base.specs.declared.ids.ColId.{ColId}
use Rattle.lc_sexp.specs.Numerals.{integer_of}
use Rattle.lc_sexp.specs.Printed.{is_atom}
use Rattle.lc_sexp.specs.Parts.{fits, beyond, fits_i64, integer_within}
use Rattle.lc_sexp.specs.Trees.{Tree, Trees, atom, list, none, ◌▸◌, item_count}
use Rattle.lc_reading.proofs.Fine.{IfFine, if_fine_weaker, cond_fine, mapped_fine, both_fine}
use Rattle.lc_reading.proofs.Words.{is-true}
use Rattle.lc_reading.specs.Naming.{within}
use Rattle.lc_reading.specs.Readings.{Reading, fine, wrong}
use Rattle.lc_reading.specs.Words.{is, is_long}
use Rattle.lc_reading.specs.declared.pass.Pass.TheVariants.{Shape, Bound as Beyond}
use Rattle.lc_term.specs.Syntax as S
use Rattle.lc_term.specs.Syntax.{Term, Column, Formula, Formulas}
use Rattle.lc_text.specs.Formulas as F
use Rattle.lc_text.specs.Formulas.{formula_reading, formulas_reading, only_reading, both_reading, body_reading, binder_reading, connective_reading, bound_inside, body_of}
use Rattle.lc_text.specs.Heads.{operation_of, built_of, connective_due, allowed}
use Rattle.lc_text.specs.Names.{Names}
use Rattle.lc_text.specs.Spelled.{binder, one_deeper}
use Rattle.lc_text.specs.SpelledTree.{term_tree, column_tree, formula_tree, formula_trees}
use Rattle.lc_text.specs.Spelling.{Spelled}
use Rattle.lc_text.specs.Terms as T
use Rattle.lc_text.specs.Terms.{pair, number_reading, number_or, bound_index, bound_or_free, word_reading, variable_reading, numbered_reading, atom_reading, used, operation_reading, built_reading, term_reading, terms_reading, product_reading, access_reading, column_reading, store_reading, numbers_reading}
use Rattle.lc_text.specs.declared.scope.ColumnUse.{ColumnUse}
use Rattle.lc_text.specs.declared.scope.ColumnUse.TheVariants.{Usable, Misplaced, Hidden, Undeclared}
use Rattle.lc_text.specs.declared.scope.Extra.TheVariants.{Quantifiers, BuiltColumns, NumberedVariables}
use Rattle.lc_text_laws.proofs.Alike.{Alike, AllAlike, Same, Readable, same_trees, ended_at, two_at}
use Rattle.lc_reading.specs.Reserved.{is_reserved}
use Rattle.lc_text.proofs.Printed.{binder_is_name}
use Rattle.lc_text_laws.proofs.Atoms.{name_atom}
use Rattle.lc_text_laws.specs.Spellings.{IsSpelledSo}
use Rattle.lc_text_laws.proofs.Numerals.{integer_as_stood, number_as_stood}

-- ---- words

-- one word of a chain of words, or what comes after it
pub one_word : {A X : Type 0} (R : Option A → Reading X) (Q : X → Type 0) (b : Bool) (x : A) (o : Option A) → (b ≡ true → IfFine (R (Some x)) Q) → IfFine (R o) Q → IfFine (R (cond b (Some x) o)) Q
one_word R Q true x o h g = h refl
one_word R Q false x o h g = g

-- what is allowed only in some places
where_allowed : {A X : Type 0} (R : Option A → Reading X) (Q : X → Type 0) (q : Bool) (x : A) → IfFine (R None) Q → (q ≡ true → IfFine (R (Some x)) Q) → IfFine (R (cond (not q) None (Some x))) Q
where_allowed R Q true x g h = h refl
where_allowed R Q false x g h = g

-- Names are spelled as they stood
pub record AreAlike (P : List ℕ → List ℕ → Type 0) (names : Names) (by : Spelled) : Type 0 where
  pub same : (w : List ℕ) → P w w
  pub variables : (w : List ℕ) (k : ℕ) → names.variable w ≡ Some k → P (by.variable k) w
  pub columns : (w : List ℕ) (c : ColId) → names.column w ≡ Usable c → P (by.column c.0) w
  pub unnumbered : names.allows NumberedVariables ≡ false
  pub unbuilt : names.allows BuiltColumns ≡ false

-- a bound word is like what is printed for it, with d quantifiers around its place
abbrev pub IsLoose : (List ℕ → List ℕ → Type 0) → List (List ℕ) → ℕ → Type 0
IsLoose P bound d = (d < 2 ^ 64) × ((k : ℕ) (w : List ℕ) → bound_index bound w ≡ Some k → P (binder (d - 1 - k)) w)

-- what is printed of bound variables is like any word
abbrev pub AreBinders : (List ℕ → List ℕ → Type 0) → Type 0
AreBinders P = (d : ℕ) → d < 2 ^ 64 → (w : List ℕ) → P (binder d) w

deeper_small : (d : ℕ) → one_deeper d < 2 ^ 64
deeper_small d = omega (arith, min-le_right (d + 1) 18446744073709551615)

module _ (P : List ℕ → List ℕ → Type 0) (names : Names) (by : Spelled) (all : AreAlike P names by) where
  alike_word : (v w : List ℕ) → v ≡ w → P v w
  alike_word v w e = subst (λ v. P v w) (sym e) (all.same w)

  -- the word of a chain
  word_of : (c w : List ℕ) → is w c ≡ true → P c w
  word_of c w e = alike_word c w (sym (is-true w c e))

  -- ---- atoms

  pub number_alike : (n : ℕ) (t : Tree) → IfFine (number_reading n t) (λ z. Alike P (atom (signed_decimal z)) t)
  number_alike n (atom w) = if_fine_weaker (λ z. signed_decimal z ≡ w) (λ z. P (signed_decimal z) w) (number_reading n (atom w)) (λ z e. alike_word (signed_decimal z) w e) (number_as_stood n w)
  number_alike n (list ts) = tt

  variable_alike : (bound : List (List ℕ)) (d n : ℕ) (w : List ℕ) (o free : Option ℕ) → IsLoose P bound d → bound_index bound w ≡ o → names.variable w ≡ free
      → IfFine (bound_or_free n w o free) (λ x. Alike P (term_tree by d x) (atom w))
  variable_alike bound d n w (Some k) free loose at is =
      cond_fine (λ x. Alike P (term_tree by d x) (atom w)) (is_long w) (wrong Beyond n) (fine (S.Bound k)) tt (loose.1 k w at)
  variable_alike bound d n w None (Some k) loose at is =
      cond_fine (λ x. Alike P (term_tree by d x) (atom w)) (is_long w) (wrong Beyond n) (fine (S.Variable k)) tt (all.variables w k is)
  variable_alike bound d n w None None loose at is = tt

  numbered_alike : (d n : ℕ) (w : List ℕ) (b : Bool) → names.allows NumberedVariables ≡ b → (r : Reading Term) → IfFine (cond b r (wrong Shape n)) (λ x. Alike P (term_tree by d x) (atom w))
  numbered_alike d n w true is r = absurd (let no = all.unnumbered in cc)
  numbered_alike d n w false is r = tt

  word_alike : (bound : List (List ℕ)) (d n : ℕ) (w : List ℕ) → IsLoose P bound d → IfFine (word_reading names bound n w) (λ x. Alike P (term_tree by d x) (atom w))
  word_alike bound d n w loose =
      cond_fine (λ x. Alike P (term_tree by d x) (atom w)) (is_name w) (variable_reading names bound n w) (numbered_reading names n w)
      (variable_alike bound d n w (bound_index bound w) (names.variable w) loose refl refl) (numbered_alike d n w (names.allows NumberedVariables) refl _)

  number_or_other : (d n : ℕ) (w : List ℕ) (z : ℤ) (b : Bool) (r : Reading Term) → integer_of w ≡ Some z → fits_i64 z ≡ b → IfFine (number_or n (cond b (fits z) beyond) r) (λ x. Alike P (term_tree by d x) (atom w))
  number_or_other d n w z true r e small = alike_word (signed_decimal z) w (integer_as_stood w z e small)
  number_or_other d n w z false r e small = tt

  number_or_alike : (d n : ℕ) (w : List ℕ) (o : Option ℤ) (r : Reading Term) → integer_of w ≡ o → IfFine r (λ x. Alike P (term_tree by d x) (atom w))
      → IfFine (number_or n (integer_within o) r) (λ x. Alike P (term_tree by d x) (atom w))
  number_or_alike d n w None r e h = h
  number_or_alike d n w (Some z) r e h = number_or_other d n w z (fits_i64 z) r e refl

  atom_alike : (bound : List (List ℕ)) (d n : ℕ) (w : List ℕ) → IsLoose P bound d → IfFine (atom_reading names bound n w) (λ x. Alike P (term_tree by d x) (atom w))
  atom_alike bound d n w loose = number_or_alike d n w (integer_of w) (word_reading names bound n w) refl (word_alike bound d n w loose)

  used_alike : (d reader n : ℕ) (w : List ℕ) (u : ColumnUse) → names.column w ≡ u → IfFine (used u reader n w) (λ c. Alike P (column_tree by d c) (atom w))
  used_alike d reader n w Misplaced is = tt
  used_alike d reader n w Undeclared is = cond_fine (λ c. Alike P (column_tree by d c) (atom w)) (is_name w) _ _ tt tt
  used_alike d reader n w Hidden is = cond_fine (λ c. Alike P (column_tree by d c) (atom w)) (is_name w) _ _ tt tt
  used_alike d reader n w (Usable c) is =
      cond_fine (λ c. Alike P (column_tree by d c) (atom w)) (is_name w) (within n w (S.Base c.0)) (wrong Shape n)
      (cond_fine (λ c. Alike P (column_tree by d c) (atom w)) (is_long w) (wrong Beyond n) (fine (S.Base c.0)) tt (all.columns w c is)) tt

  unbuilt_alike : {A : Type 0} (R : Option A → Reading Column) (d : ℕ) (t : Tree) (b : Bool) (o : Option A) → names.allows BuiltColumns ≡ b → IfFine (R None) (λ c. Alike P (column_tree by d c) t)
      → IfFine (R (cond b o None)) (λ c. Alike P (column_tree by d c) t)
  unbuilt_alike R d t true o is h = absurd (let no = all.unbuilt in cc)
  unbuilt_alike R d t false o is h = h

  column_alike : (bound : List (List ℕ)) (d reader n : ℕ) (t : Tree) → IfFine (column_reading names bound reader n t) (λ c. Alike P (column_tree by d c) t)
  column_alike bound d reader n (atom w) = used_alike d reader n w (names.column w) refl
  column_alike bound d reader n (list none) = tt
  column_alike bound d reader n (list (list us ▸ ts)) = tt
  column_alike bound d reader n (list (atom w ▸ ts)) = unbuilt_alike (λ o. built_reading n o (numbers_reading n (n + 2) ts) (store_reading names bound n (n + 2) ts)) d (list (atom w ▸ ts)) (names.allows BuiltColumns) (built_of w) refl tt

  -- ---- terms

  abbrev AreTerms : ℕ → Trees → Term × Term → Type 0
  AreTerms d ts p = AllAlike P (term_tree by d p.0 ▸ term_tree by d p.1 ▸ none) ts

  abbrev IsProduct : ℕ → Trees → ℤ × Term → Type 0
  IsProduct d ts p = AllAlike P (atom (signed_decimal p.0) ▸ term_tree by d p.1 ▸ none) ts

  abbrev IsAccess : ℕ → Trees → Column × Term → Type 0
  IsAccess d ts p = AllAlike P (column_tree by d p.0 ▸ term_tree by d p.1 ▸ none) ts

  abbrev IsTermBehind : ℕ → List ℕ → Trees → Term → Type 0
  IsTermBehind d w ts x = Alike P (term_tree by d x) (list (atom w ▸ ts))

  operation_alike : (d n : ℕ) (w : List ℕ) (ts : Trees) (terms : Reading (Term × Term)) (product : Reading (ℤ × Term)) (access : Reading (Column × Term))
      → IfFine terms (AreTerms d ts) → IfFine product (IsProduct d ts) → IfFine access (IsAccess d ts)
      → IfFine (operation_reading n (operation_of w) terms product access) (IsTermBehind d w ts)
  operation_alike d n w ts terms product access h g k =
      one_word (λ o. operation_reading n o terms product access) (IsTermBehind d w ts) (is w (codes "+")) _ _ (λ e. mapped_fine (AreTerms d ts) (IsTermBehind d w ts) _ terms h (λ p a. (word_of (codes "+") w e, a)))
      (one_word (λ o. operation_reading n o terms product access) (IsTermBehind d w ts) (is w (codes "-")) _ _ (λ e. mapped_fine (AreTerms d ts) (IsTermBehind d w ts) _ terms h (λ p a. (word_of (codes "-") w e, a)))
      (one_word (λ o. operation_reading n o terms product access) (IsTermBehind d w ts) (is w (codes "*")) _ _ (λ e. mapped_fine (IsProduct d ts) (IsTermBehind d w ts) T.product_of product g (λ p a. (word_of (codes "*") w e, a)))
      (one_word (λ o. operation_reading n o terms product access) (IsTermBehind d w ts) (is w (codes "rd")) _ _ (λ e. mapped_fine (IsAccess d ts) (IsTermBehind d w ts) T.access_of access k (λ p a. (word_of (codes "rd") w e, a))) tt)))

  mutual
    pub term_alike : (bound : List (List ℕ)) (d n : ℕ) (t : Tree) → IsLoose P bound d → IfFine (term_reading names bound n t) (λ x. Alike P (term_tree by d x) t)
    term_alike bound d n (atom w) loose = atom_alike bound d n w loose
    term_alike bound d n (list none) loose = tt
    term_alike bound d n (list (list us ▸ ts)) loose = tt
    term_alike bound d n (list (atom w ▸ ts)) loose =
        operation_alike d n w ts (terms_reading names bound n (n + 2) ts) (product_reading names bound n (n + 2) ts) (access_reading names bound n (n + 2) ts)
        (terms_alike bound d n (n + 2) ts loose) (product_alike bound d n (n + 2) ts loose) (access_alike bound d n (n + 2) ts loose)

    terms_alike : (bound : List (List ℕ)) (d n m : ℕ) (ts : Trees) → IsLoose P bound d → IfFine (terms_reading names bound n m ts) (AreTerms d ts)
    terms_alike bound d n m none loose = tt
    terms_alike bound d n m (t ▸ none) loose = tt
    terms_alike bound d n m (t ▸ u ▸ ts) loose =
        two_at (λ x. Alike P (term_tree by d x) t) (λ x. Alike P (term_tree by d x) u) (λ ts. AreTerms d (t ▸ u ▸ ts)) pair m t u ts _ _
        (term_alike bound d m t loose) (term_alike bound d (m + item_count t) u loose) (λ x y a b. (a, (b, tt)))

    product_alike : (bound : List (List ℕ)) (d n m : ℕ) (ts : Trees) → IsLoose P bound d → IfFine (product_reading names bound n m ts) (IsProduct d ts)
    product_alike bound d n m none loose = tt
    product_alike bound d n m (t ▸ none) loose = tt
    product_alike bound d n m (t ▸ u ▸ ts) loose =
        two_at (λ z. Alike P (atom (signed_decimal z)) t) (λ x. Alike P (term_tree by d x) u) (λ ts. IsProduct d (t ▸ u ▸ ts)) pair m t u ts _ _
        (number_alike m t) (term_alike bound d (m + item_count t) u loose) (λ x y a b. (a, (b, tt)))

    access_alike : (bound : List (List ℕ)) (d n m : ℕ) (ts : Trees) → IsLoose P bound d → IfFine (access_reading names bound n m ts) (IsAccess d ts)
    access_alike bound d n m none loose = tt
    access_alike bound d n m (t ▸ none) loose = tt
    access_alike bound d n m (t ▸ u ▸ ts) loose =
        two_at (λ c. Alike P (column_tree by d c) t) (λ x. Alike P (term_tree by d x) u) (λ ts. IsAccess d (t ▸ u ▸ ts)) pair m t u ts _ _
        (column_alike bound d n m t) (term_alike bound d (m + item_count t) u loose) (λ x y a b. (a, (b, tt)))

  -- ---- formulas, with bound variables alike where quantifiers are allowed

  abbrev AreLoose : Type 0
  AreLoose = names.allows Quantifiers ≡ true → AreBinders P

  abbrev IsOne : ℕ → Trees → Formula → Type 0
  IsOne d ts f = AllAlike P (formula_tree by d f ▸ none) ts

  abbrev AreAny : ℕ → Trees → Formulas → Type 0
  AreAny d ts fs = AllAlike P (formula_trees by d fs) ts

  abbrev AreTwo : ℕ → Trees → Formula × Formula → Type 0
  AreTwo d ts p = AllAlike P (formula_tree by d p.0 ▸ formula_tree by d p.1 ▸ none) ts

  abbrev IsBody : ℕ → Trees → Formula → Type 0
  IsBody d ts f = AllAlike P (atom (binder d) ▸ formula_tree by (one_deeper d) f ▸ none) ts

  -- the word of a list, and what comes after it
  abbrev IsBehind : ℕ → List ℕ → Trees → Formula → Type 0
  IsBehind d w ts f = Alike P (formula_tree by d f) (list (atom w ▸ ts))

  connective_alike : AreLoose → (d n : ℕ) (w : List ℕ) (ts : Trees) (terms : Reading (Term × Term)) (one : Reading Formula) (any : Reading Formulas) (two : Reading (Formula × Formula)) (body : Reading Formula)
      → IfFine terms (AreTerms d ts) → IfFine one (IsOne d ts) → IfFine any (AreAny d ts) → IfFine two (AreTwo d ts) → (AreBinders P → IfFine body (IsBody d ts))
      → IfFine (connective_reading n (connective_due names w) terms one any two body) (IsBehind d w ts)
  connective_alike q d n w ts terms one any two body h g k i j =
      one_word (λ o. connective_reading n (allowed (names.allows Quantifiers) o) terms one any two body) (IsBehind d w ts) (is w (codes "<=")) _ _ (λ e. mapped_fine (AreTerms d ts) (IsBehind d w ts) _ terms h (λ p a. (word_of (codes "<=") w e, a)))
      (one_word (λ o. connective_reading n (allowed (names.allows Quantifiers) o) terms one any two body) (IsBehind d w ts) (is w (codes "=")) _ _ (λ e. mapped_fine (AreTerms d ts) (IsBehind d w ts) _ terms h (λ p a. (word_of (codes "=") w e, a)))
      (one_word (λ o. connective_reading n (allowed (names.allows Quantifiers) o) terms one any two body) (IsBehind d w ts) (is w (codes "not")) _ _ (λ e. mapped_fine (IsOne d ts) (IsBehind d w ts) S.Not one g (λ p a. (word_of (codes "not") w e, a)))
      (one_word (λ o. connective_reading n (allowed (names.allows Quantifiers) o) terms one any two body) (IsBehind d w ts) (is w (codes "and")) _ _ (λ e. mapped_fine (AreAny d ts) (IsBehind d w ts) _ any k (λ p a. (word_of (codes "and") w e, a)))
      (one_word (λ o. connective_reading n (allowed (names.allows Quantifiers) o) terms one any two body) (IsBehind d w ts) (is w (codes "or")) _ _ (λ e. mapped_fine (AreAny d ts) (IsBehind d w ts) _ any k (λ p a. (word_of (codes "or") w e, a)))
      (one_word (λ o. connective_reading n (allowed (names.allows Quantifiers) o) terms one any two body) (IsBehind d w ts) (is w (codes "=>")) _ _ (λ e. mapped_fine (AreTwo d ts) (IsBehind d w ts) F.implication_of two i (λ p a. (word_of (codes "=>") w e, a)))
      (one_word (λ o. connective_reading n (allowed (names.allows Quantifiers) o) terms one any two body) (IsBehind d w ts) (is w (codes "forall")) _ _ (λ e. where_allowed (λ o. connective_reading n o terms one any two body) (IsBehind d w ts) (names.allows Quantifiers) _ tt (λ here. mapped_fine (IsBody d ts) (IsBehind d w ts) _ body (j (q here)) (λ p a. (word_of (codes "forall") w e, a))))
      (one_word (λ o. connective_reading n (allowed (names.allows Quantifiers) o) terms one any two body) (IsBehind d w ts) (is w (codes "exists")) _ _ (λ e. where_allowed (λ o. connective_reading n o terms one any two body) (IsBehind d w ts) (names.allows Quantifiers) _ tt (λ here. mapped_fine (IsBody d ts) (IsBehind d w ts) _ body (j (q here)) (λ p a. (word_of (codes "exists") w e, a)))) tt)))))))

  binder_alike : AreBinders P → (d n : ℕ) → d < 2 ^ 64 → (t : Tree) → IfFine (binder_reading n t) (λ u. Alike P (atom (binder d)) t)
  binder_alike any d n small (list ts) = tt
  binder_alike any d n small (atom w) =
      cond_fine (λ u. P (binder d) w) (is_name w) _ _ (cond_fine (λ u. P (binder d) w) (is_reserved w) _ _ tt (cond_fine (λ u. P (binder d) w) (is_long w) _ _ tt (any d small w))) tt

  mutual
    pub formula_alike : AreLoose → (bound : List (List ℕ)) (d n : ℕ) (t : Tree) → IsLoose P bound d → IfFine (formula_reading names bound n t) (λ f. Alike P (formula_tree by d f) t)
    formula_alike q bound d n (atom w) loose = tt
    formula_alike q bound d n (list none) loose = tt
    formula_alike q bound d n (list (list us ▸ ts)) loose = tt
    formula_alike q bound d n (list (atom w ▸ ts)) loose =
        connective_alike q d n w ts (terms_reading names bound n (n + 2) ts) (only_reading names bound n (n + 2) ts) (formulas_reading names bound (n + 2) ts)
        (both_reading names bound n (n + 2) ts) (body_reading names bound n (n + 2) ts) (terms_alike bound d n (n + 2) ts loose) (only_alike q bound d n (n + 2) ts loose)
        (formulas_alike q bound d (n + 2) ts loose) (both_alike q bound d n (n + 2) ts loose) (λ any. body_alike q bound d n (n + 2) ts loose.0 any)

    only_alike : AreLoose → (bound : List (List ℕ)) (d n m : ℕ) (ts : Trees) → IsLoose P bound d → IfFine (only_reading names bound n m ts) (IsOne d ts)
    only_alike q bound d n m none loose = tt
    only_alike q bound d n m (t ▸ ts) loose =
        ended_at (λ ts. IsOne d (t ▸ ts)) (m + item_count t) ts (formula_reading names bound m t)
        (if_fine_weaker (λ f. Alike P (formula_tree by d f) t) (IsOne d (t ▸ none)) (formula_reading names bound m t) (λ f a. (a, tt)) (formula_alike q bound d m t loose))

    both_alike : AreLoose → (bound : List (List ℕ)) (d n m : ℕ) (ts : Trees) → IsLoose P bound d → IfFine (both_reading names bound n m ts) (AreTwo d ts)
    both_alike q bound d n m none loose = tt
    both_alike q bound d n m (t ▸ none) loose = tt
    both_alike q bound d n m (t ▸ u ▸ ts) loose =
        two_at (λ x. Alike P (formula_tree by d x) t) (λ x. Alike P (formula_tree by d x) u) (λ ts. AreTwo d (t ▸ u ▸ ts)) pair m t u ts _ _
        (formula_alike q bound d m t loose) (formula_alike q bound d (m + item_count t) u loose) (λ x y a b. (a, (b, tt)))

    body_alike : AreLoose → (bound : List (List ℕ)) (d n m : ℕ) (ts : Trees) → d < 2 ^ 64 → AreBinders P → IfFine (body_reading names bound n m ts) (IsBody d ts)
    body_alike q bound d n m none small any = tt
    body_alike q bound d n m (t ▸ none) small any = tt
    body_alike q bound d n m (t ▸ u ▸ ts) small any =
        two_at (λ x. Alike P (atom (binder d)) t) (λ x. Alike P (formula_tree by (one_deeper d) x) u) (λ ts. IsBody d (t ▸ u ▸ ts)) body_of m t u ts _ _
        (binder_alike any d m small t) (formula_alike q (bound_inside t bound) (one_deeper d) (m + item_count t) u (deeper_small d, λ k w e. any (one_deeper d - 1 - k) (let deeper = deeper_small d in omega arith) w)) (λ x y a b. (a, (b, tt)))

    formulas_alike : AreLoose → (bound : List (List ℕ)) (d m : ℕ) (ts : Trees) → IsLoose P bound d → IfFine (formulas_reading names bound m ts) (AreAny d ts)
    formulas_alike q bound d m none loose = tt
    formulas_alike q bound d m (t ▸ ts) loose =
        both_fine (λ x. Alike P (formula_tree by d x) t) (AreAny d ts) (AreAny d (t ▸ ts)) S.more _ _ (formula_alike q bound d m t loose) (formulas_alike q bound d (m + item_count t) ts loose) (λ x y a b. (a, b))

-- ---- where no quantifier is allowed; and anywhere

are_same : (names : Names) (by : Spelled) → IsSpelledSo names by → AreAlike Same names by
are_same names by spelled = record {
  same = λ w. refl;
  variables = spelled.variables;
  columns = spelled.columns;
  unnumbered = spelled.unnumbered;
  unbuilt = spelled.unbuilt;
}

as_written : (v w : List ℕ) → v ≡ w → Readable v w
as_written v w e h = subst (λ v. is_atom v ≡ true) (sym e) h

are_readable : (names : Names) (by : Spelled) → IsSpelledSo names by → AreAlike Readable names by
are_readable names by spelled = record {
  same = λ w h. h;
  variables = λ w k e. as_written (by.variable k) w (spelled.variables w k e);
  columns = λ w c e. as_written (by.column c.0) w (spelled.columns w c e);
  unnumbered = spelled.unnumbered;
  unbuilt = spelled.unbuilt;
}

binders_readable : AreBinders Readable
binders_readable d small w h = name_atom (binder d) (binder_is_name d small)

none_loose : IsLoose Same [] 0
none_loose = (omega arith, λ k w e. absurd (cc))

module _ (names : Names) (by : Spelled) (spelled : IsSpelledSo names by) where
  pub term_stood : (n : ℕ) (t : Tree) → IfFine (term_reading names [] n t) (λ x. term_tree by 0 x ≡ t)
  term_stood n t =
      if_fine_weaker (λ x. Alike Same (term_tree by 0 x) t) (λ x. term_tree by 0 x ≡ t) (term_reading names [] n t) (λ x a. same_trees (term_tree by 0 x) t a)
      (term_alike Same names by (are_same names by spelled) [] 0 n t none_loose)

  pub formula_stood : names.allows Quantifiers ≡ false → (n : ℕ) (t : Tree) → IfFine (formula_reading names [] n t) (λ f. formula_tree by 0 f ≡ t)
  formula_stood plain n t =
      if_fine_weaker (λ f. Alike Same (formula_tree by 0 f) t) (λ f. formula_tree by 0 f ≡ t) (formula_reading names [] n t) (λ f a. same_trees (formula_tree by 0 f) t a)
      (formula_alike Same names by (are_same names by spelled) (λ q. absurd (cc)) [] 0 n t none_loose)

  pub formula_shape : (n : ℕ) (t : Tree) → IfFine (formula_reading names [] n t) (λ f. Alike Readable (formula_tree by 0 f) t)
  formula_shape n t =
      formula_alike Readable names by (are_readable names by spelled) (λ q. binders_readable) [] 0 n t (omega arith, λ k w e. binders_readable (0 - 1 - k) (omega arith) w)
