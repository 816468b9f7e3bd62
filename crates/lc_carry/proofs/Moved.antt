-- Other columns in terms, columns and formulas: what a rule takes from a formula, it takes from the one with other columns with these.
use Rattle.std.proofs.Common.{◌≡◌, ℕ, zero, suc, true, ◌&&◌, List, [], ◌∷◌, Option, Some, map, refl, sym, ap, ap₂, ◌∙◌}
use Rattle.std.specs.Prelude.{ℤ, pos, negsuc, option_map}
use Rattle.std.proofs.lemmas.Option.{slice_get-map}
use Rattle.lc_term.specs.Places.{Test, term_passes, column_passes, passes, all_pass}
use Rattle.lc_term.specs.Replacement.{Replacement, replace_term, replace_column, raising, under, replace, replace_all}
use Rattle.lc_term.specs.Substitution.{opened, opening, instantiated}
use Rattle.lc_term.specs.Syntax.{Term, Number, Variable, Bound, Add, Subtract, Multiply, Read, Column, Base, Store, Affine}
use Rattle.lc_term.specs.Syntax.{Formula, Le, Eq, Not, And, Or, Implies, Forall, Exists, Formulas, none, more, formulas, parts}
use Rattle.lc_kernel.specs.Table.{conjuncts, negations, failing, alternatives, pushed_inward, pushed, for_all, for_some, sides, apart, excess, hypothesis, each}
use Rattle.lc_carry.proofs.Under.{same_below}
use Rattle.lc_carry.specs.Renaming.{column_or, renaming}

module _ (to : ℕ → Option ℕ) where
  abbrev pub moved_term : Term → Term
  moved_term t = replace_term (renaming to) t

  abbrev pub moved_column : Column → Column
  moved_column c = replace_column (renaming to) c

  abbrev pub moved : Formula → Formula
  moved f = replace (renaming to) f

  -- ---- parts

  pub parts-moved : (fs : Formulas) → map moved (parts fs) ≡ parts (replace_all (renaming to) fs)
  parts-moved none = refl
  parts-moved (more f fs) = ap (λ l. moved f ∷ l) (parts-moved fs)

  negations-moved : (fs : Formulas) → map moved (negations (parts fs)) ≡ negations (parts (replace_all (renaming to) fs))
  negations-moved none = refl
  negations-moved (more f fs) = ap (λ l. Not (moved f) ∷ l) (negations-moved fs)

  denied-moved : (fs : Formulas) → replace_all (renaming to) (formulas (negations (parts fs))) ≡ formulas (negations (parts (replace_all (renaming to) fs)))
  denied-moved none = refl
  denied-moved (more f fs) = ap (more (Not (moved f))) (denied-moved fs)

  pub each-moved : (fs : List Formula) → map (map moved) (each fs) ≡ each (map moved fs)
  each-moved [] = refl
  each-moved (f ∷ fs) = ap (λ l. (moved f ∷ []) ∷ l) (each-moved fs)

  -- ---- forms of hypotheses

  pub conjuncts-moved : (f : Formula) → option_map (map moved) (conjuncts f) ≡ conjuncts (moved f)
  conjuncts-moved (And fs) = ap Some (parts-moved fs)
  conjuncts-moved _ = refl

  failing-moved : (f : Formula) → option_map (map moved) (failing f) ≡ failing (moved f)
  failing-moved (And fs) = ap Some (negations-moved fs)
  failing-moved _ = refl

  pub alternatives-moved : (f : Formula) → option_map (map moved) (alternatives f) ≡ alternatives (moved f)
  alternatives-moved (Or fs) = ap Some (parts-moved fs)
  alternatives-moved (Not f) = failing-moved f
  alternatives-moved _ = refl

  pushed_inward-moved : (f : Formula) → option_map moved (pushed_inward f) ≡ pushed_inward (moved f)
  pushed_inward-moved (Or fs) = ap (λ gs. Some (And gs)) (denied-moved fs)
  pushed_inward-moved _ = refl

  pub pushed-moved : (f : Formula) → option_map moved (pushed f) ≡ pushed (moved f)
  pushed-moved (Not f) = pushed_inward-moved f
  pushed-moved _ = refl

  pub for_all-moved : (f : Formula) → option_map moved (for_all f) ≡ for_all (moved f)
  for_all-moved (Forall f) = ap (λ r. Some (replace r f)) (sym (same_below to))
  for_all-moved _ = refl

  pub for_some-moved : (f : Formula) → option_map moved (for_some f) ≡ for_some (moved f)
  for_some-moved (Exists f) = ap (λ r. Some (replace r f)) (sym (same_below to))
  for_some-moved _ = refl

  abbrev pub moved_sides : Term × Term → Term × Term
  moved_sides p = (moved_term p.0, moved_term p.1)

  sides-moved : (f : Formula) → option_map moved_sides (sides f) ≡ sides (moved f)
  sides-moved (Eq t u) = refl
  sides-moved _ = refl

  pub apart-moved : (f : Formula) → option_map moved_sides (apart f) ≡ apart (moved f)
  apart-moved (Not f) = sides-moved f
  apart-moved _ = refl

  pub excess-moved : (f : Formula) → option_map moved_term (excess f) ≡ excess (moved f)
  excess-moved (Le t u) = refl
  excess-moved _ = refl

  pub hypothesis-moved : (H : List Formula) (h : ℤ) → option_map moved (hypothesis H h) ≡ hypothesis (map moved H) h
  hypothesis-moved H (pos n) = sym (slice_get-map moved H n)
  hypothesis-moved H (negsuc n) = refl

  -- ---- tests that do not look at columns

  module _ (p : Test) (blind : (c : ℕ) → p.columns c ≡ true) where
    mutual
      pub term_passes-moved : (t : Term) → term_passes p (moved_term t) ≡ term_passes p t
      term_passes-moved (Number n) = refl
      term_passes-moved (Variable k) = refl
      term_passes-moved (Bound k) = refl
      term_passes-moved (Add t u) = ap₂ (λ a b. a && b) (term_passes-moved t) (term_passes-moved u)
      term_passes-moved (Subtract t u) = ap₂ (λ a b. a && b) (term_passes-moved t) (term_passes-moved u)
      term_passes-moved (Multiply n t) = term_passes-moved t
      term_passes-moved (Read c i) = ap₂ (λ a b. a && b) (column_passes-moved c) (term_passes-moved i)

      pub column_passes-moved : (c : Column) → column_passes p (moved_column c) ≡ column_passes p c
      column_passes-moved (Base c) = blind (column_or to c) ∙ sym (blind c)
      column_passes-moved (Store c i v) = ap₂ (λ a b. a && b) (ap₂ (λ a b. a && b) (column_passes-moved c) (term_passes-moved i)) (term_passes-moved v)
      column_passes-moved (Affine a b) = refl

    mutual
      pub passes-moved : (n : ℕ) (f : Formula) → passes (λ d. p) n (moved f) ≡ passes (λ d. p) n f
      passes-moved n (Le t u) = ap₂ (λ a b. a && b) (term_passes-moved t) (term_passes-moved u)
      passes-moved n (Eq t u) = ap₂ (λ a b. a && b) (term_passes-moved t) (term_passes-moved u)
      passes-moved n (Not f) = passes-moved n f
      passes-moved n (And fs) = all_pass-moved n fs
      passes-moved n (Or fs) = all_pass-moved n fs
      passes-moved n (Implies f g) = ap₂ (λ a b. a && b) (passes-moved n f) (passes-moved n g)
      passes-moved n (Forall f) = ap (λ r. passes (λ d. p) (suc n) (replace r f)) (same_below to) ∙ passes-moved (suc n) f
      passes-moved n (Exists f) = ap (λ r. passes (λ d. p) (suc n) (replace r f)) (same_below to) ∙ passes-moved (suc n) f

      all_pass-moved : (n : ℕ) (fs : Formulas) → all_pass (λ d. p) n (replace_all (renaming to) fs) ≡ all_pass (λ d. p) n fs
      all_pass-moved n none = refl
      all_pass-moved n (more f fs) = ap₂ (λ a b. a && b) (passes-moved n f) (all_pass-moved n fs)

  -- ---- bodies of quantifiers

  mutual
    raised-moved : (t : Term) → moved_term (replace_term raising t) ≡ replace_term raising (moved_term t)
    raised-moved (Number n) = refl
    raised-moved (Variable k) = refl
    raised-moved (Bound k) = refl
    raised-moved (Add t u) = ap₂ Add (raised-moved t) (raised-moved u)
    raised-moved (Subtract t u) = ap₂ Subtract (raised-moved t) (raised-moved u)
    raised-moved (Multiply n t) = ap (Multiply n) (raised-moved t)
    raised-moved (Read c i) = ap₂ Read (raised_column-moved c) (raised-moved i)

    raised_column-moved : (c : Column) → moved_column (replace_column raising c) ≡ replace_column raising (moved_column c)
    raised_column-moved (Base c) = refl
    raised_column-moved (Store c i v) = let a = raised_column-moved c in let b = raised-moved i in let d = raised-moved v in λ x. Store (a x) (b x) (d x)
    raised_column-moved (Affine a b) = refl

  -- terms are put in for bound variables alone, and with other columns these terms with others
  record PutsIn (r s : Replacement) : Type 0 where
    columns : (c : ℕ) → r.columns c ≡ Base c
    columns' : (c : ℕ) → s.columns c ≡ Base c
    variables : (k : ℕ) → r.variables k ≡ Variable k
    variables' : (k : ℕ) → s.variables k ≡ Variable k
    bounds : (k : ℕ) → moved_term (r.bounds k) ≡ s.bounds k

  bounds-under : (r s : Replacement) → PutsIn r s → (k : ℕ) → moved_term ((under r).bounds k) ≡ (under s).bounds k
  bounds-under r s h zero = refl
  bounds-under r s h (suc k) = raised-moved (r.bounds k) ∙ ap (replace_term raising) (h.bounds k)

  PutsIn-under : (r s : Replacement) → PutsIn r s → PutsIn (under r) (under s)
  PutsIn-under r s h = record {
    columns = λ c. ap (replace_column raising) (h.columns c);
    columns' = λ c. ap (replace_column raising) (h.columns' c);
    variables = λ k. ap (replace_term raising) (h.variables k);
    variables' = λ k. ap (replace_term raising) (h.variables' k);
    bounds = bounds-under r s h;
  }

  mutual
    put-moved : (r s : Replacement) → PutsIn r s → (t : Term) → moved_term (replace_term r t) ≡ replace_term s (moved_term t)
    put-moved r s h (Number n) = refl
    put-moved r s h (Variable k) = ap moved_term (h.variables k) ∙ sym (h.variables' k)
    put-moved r s h (Bound k) = h.bounds k
    put-moved r s h (Add t u) = ap₂ Add (put-moved r s h t) (put-moved r s h u)
    put-moved r s h (Subtract t u) = ap₂ Subtract (put-moved r s h t) (put-moved r s h u)
    put-moved r s h (Multiply n t) = ap (Multiply n) (put-moved r s h t)
    put-moved r s h (Read c i) = ap₂ Read (put_column-moved r s h c) (put-moved r s h i)

    put_column-moved : (r s : Replacement) → PutsIn r s → (c : Column) → moved_column (replace_column r c) ≡ replace_column s (moved_column c)
    put_column-moved r s h (Base c) = ap moved_column (h.columns c) ∙ sym (h.columns' (column_or to c))
    put_column-moved r s h (Store c i v) = let a = put_column-moved r s h c in let b = put-moved r s h i in let d = put-moved r s h v in λ x. Store (a x) (b x) (d x)
    put_column-moved r s h (Affine a b) = refl

  -- below a quantifier
  put_below : (r s : Replacement) (f : Formula) → moved (replace (under r) f) ≡ replace (under s) (moved f)
      → replace (under (renaming to)) (replace (under r) f) ≡ replace (under s) (replace (under (renaming to)) f)
  put_below r s f h = ap (λ x. replace x (replace (under r) f)) (same_below to) ∙ (h ∙ ap (λ x. replace (under s) (replace x f)) (sym (same_below to)))

  mutual
    put_formula-moved : (r s : Replacement) → PutsIn r s → (f : Formula) → moved (replace r f) ≡ replace s (moved f)
    put_formula-moved r s h (Le t u) = ap₂ Le (put-moved r s h t) (put-moved r s h u)
    put_formula-moved r s h (Eq t u) = ap₂ Eq (put-moved r s h t) (put-moved r s h u)
    put_formula-moved r s h (Not f) = ap Not (put_formula-moved r s h f)
    put_formula-moved r s h (And fs) = ap And (put_formulas-moved r s h fs)
    put_formula-moved r s h (Or fs) = ap Or (put_formulas-moved r s h fs)
    put_formula-moved r s h (Implies f g) = ap₂ Implies (put_formula-moved r s h f) (put_formula-moved r s h g)
    put_formula-moved r s h (Forall f) = ap Forall (put_below r s f (put_formula-moved (under r) (under s) (PutsIn-under r s h) f))
    put_formula-moved r s h (Exists f) = ap Exists (put_below r s f (put_formula-moved (under r) (under s) (PutsIn-under r s h) f))

    put_formulas-moved : (r s : Replacement) → PutsIn r s → (fs : Formulas) → replace_all (renaming to) (replace_all r fs) ≡ replace_all s (replace_all (renaming to) fs)
    put_formulas-moved r s h none = refl
    put_formulas-moved r s h (more f fs) = ap₂ more (put_formula-moved r s h f) (put_formulas-moved r s h fs)

  opened-moved : (u : Term) (k : ℕ) → moved_term (opened u k) ≡ opened (moved_term u) k
  opened-moved u zero = refl
  opened-moved u (suc k) = refl

  -- the body of a quantifier with a term for its variable
  pub instantiated-moved : (u : Term) (f : Formula) → moved (instantiated u f) ≡ instantiated (moved_term u) (moved f)
  instantiated-moved u f =
      put_formula-moved (opening u) (opening (moved_term u))
      (record { columns = λ c. refl; columns' = λ c. refl; variables = λ k. refl; variables' = λ k. refl; bounds = opened-moved u })
      f
