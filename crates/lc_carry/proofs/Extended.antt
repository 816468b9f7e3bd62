-- Columns in place of some, so that no two become one, as columns in place of all.
use Rattle.std.proofs.Common.{◌≡◌, ℕ, zero, suc, ◌+◌, ◌-◌, ◌<◌, ◌==◌, Bool, true, false, ◌&&◌, List, [], ◌∷◌, ◌++◌, Option, Some, None, map, nat_lt, refl, sym, ap, ap₂, subst, ◌∙◌, eq-eqb, arith}
use Rattle.std.specs.Prelude.{is_some, unwrap_or, if◌then◌else◌}
use Rattle.std.specs.List.{list_all}
use Rattle.std.proofs.lemmas.Bool.{eqb-true}
use Rattle.std.proofs.lemmas.Bool.Decides.{nat_tests}
use Rattle.std.proofs.lemmas.List.{map-append}
use Rattle.lc_lemmas.proofs.Booleans.{left_true, right_true}
use Rattle.lc_kernel.specs.Derivation.{Derives, DerivesGoal}
use Rattle.lc_kernel.specs.Proofs as S
use Rattle.lc_kernel.specs.Proofs.{Step, Proof, Proofs, proof, none, more}
use Rattle.lc_term.specs.Places.{term_passes, column_passes, passes, all_pass}
use Rattle.lc_term.specs.Replacement.{under, replace, replace_all}
use Rattle.lc_term.specs.Syntax.{Term, Number, Variable, Bound, Add, Subtract, Multiply, Read, Column, Base, Store, Affine}
use Rattle.lc_term.specs.Syntax.{Formula, Le, Eq, Not, And, Or, Implies, Forall, Exists, Formulas}
use Rattle.lc_term.specs.Syntax as T
use Rattle.lc_carry.proofs.Moved.{moved_term, moved_column, moved}
use Rattle.lc_carry.proofs.MovedSteps.{derives-moved}
use Rattle.lc_carry.proofs.Under.{same_below}
use Rattle.lc_carry.specs.RenamedDerivations.{formula_is_covered, IsOneToOne, RenamedDerives}
use Rattle.lc_carry.specs.RenamedProofs.{step_is_covered, is_covered, are_covered, renamed_step, renamed, all_renamed}
use Rattle.lc_carry.specs.Renaming.{column_or, covered, renaming}

-- ---- what names only columns that are replaced is replaced alike

module _ (to : ℕ → Option ℕ) (total : ℕ → ℕ) (extends : (k j : ℕ) → to k ≡ Some j → total k ≡ j) where
  abbrev all : ℕ → Option ℕ
  all k = Some (total k)

  base-at : (c : ℕ) (o : Option ℕ) → to c ≡ o → is_some o ≡ true → unwrap_or o c ≡ total c
  base-at c None e h = absurd cc
  base-at c (Some j) e h = sym (extends c j e)

  base-alike : (c : ℕ) → is_some (to c) ≡ true → column_or to c ≡ total c
  base-alike c h = base-at c (to c) refl h

  mutual
    term-alike : (t : Term) → term_passes (covered to) t ≡ true → moved_term to t ≡ moved_term all t
    term-alike (Number n) h = refl
    term-alike (Variable k) h = refl
    term-alike (Bound k) h = refl
    term-alike (Add t u) h = ap₂ Add (term-alike t (left_true (term_passes (covered to) t) (term_passes (covered to) u) h)) (term-alike u (right_true (term_passes (covered to) t) (term_passes (covered to) u) h))
    term-alike (Subtract t u) h = ap₂ Subtract (term-alike t (left_true (term_passes (covered to) t) (term_passes (covered to) u) h)) (term-alike u (right_true (term_passes (covered to) t) (term_passes (covered to) u) h))
    term-alike (Multiply n t) h = ap (Multiply n) (term-alike t h)
    term-alike (Read c i) h = ap₂ Read (column-alike c (left_true (column_passes (covered to) c) (term_passes (covered to) i) h)) (term-alike i (right_true (column_passes (covered to) c) (term_passes (covered to) i) h))

    column-alike : (c : Column) → column_passes (covered to) c ≡ true → moved_column to c ≡ moved_column all c
    column-alike (Base c) h = ap Base (base-alike c h)
    column-alike (Store c i v) h =
        let both = left_true (column_passes (covered to) c && term_passes (covered to) i) (term_passes (covered to) v) h in
        let a = column-alike c (left_true (column_passes (covered to) c) (term_passes (covered to) i) both) in
        let b = term-alike i (right_true (column_passes (covered to) c) (term_passes (covered to) i) both) in
        let d = term-alike v (right_true (column_passes (covered to) c && term_passes (covered to) i) (term_passes (covered to) v) h) in
        λ x. Store (a x) (b x) (d x)
    column-alike (Affine a b) h = refl

  below-alike : (f : Formula) → moved to f ≡ moved all f → replace (under (renaming to)) f ≡ replace (under (renaming all)) f
  below-alike f h = ap (λ r. replace r f) (same_below to) ∙ (h ∙ sym (ap (λ r. replace r f) (same_below all)))

  mutual
    formula-alike : (n : ℕ) (f : Formula) → passes (λ d. covered to) n f ≡ true → moved to f ≡ moved all f
    formula-alike n (Le t u) h = ap₂ Le (term-alike t (left_true (term_passes (covered to) t) (term_passes (covered to) u) h)) (term-alike u (right_true (term_passes (covered to) t) (term_passes (covered to) u) h))
    formula-alike n (Eq t u) h = ap₂ Eq (term-alike t (left_true (term_passes (covered to) t) (term_passes (covered to) u) h)) (term-alike u (right_true (term_passes (covered to) t) (term_passes (covered to) u) h))
    formula-alike n (Not f) h = ap Not (formula-alike n f h)
    formula-alike n (And fs) h = ap And (formulas-alike n fs h)
    formula-alike n (Or fs) h = ap Or (formulas-alike n fs h)
    formula-alike n (Implies f g) h =
        ap₂ Implies (formula-alike n f (left_true (passes (λ d. covered to) n f) (passes (λ d. covered to) n g) h)) (formula-alike n g (right_true (passes (λ d. covered to) n f) (passes (λ d. covered to) n g) h))
    formula-alike n (Forall f) h = ap Forall (below-alike f (formula-alike (suc n) f h))
    formula-alike n (Exists f) h = ap Exists (below-alike f (formula-alike (suc n) f h))

    formulas-alike : (n : ℕ) (fs : Formulas) → all_pass (λ d. covered to) n fs ≡ true → replace_all (renaming to) fs ≡ replace_all (renaming all) fs
    formulas-alike n T.none h = refl
    formulas-alike n (T.more f fs) h =
        ap₂ T.more (formula-alike n f (left_true (passes (λ d. covered to) n f) (all_pass (λ d. covered to) n fs) h)) (formulas-alike n fs (right_true (passes (λ d. covered to) n f) (all_pass (λ d. covered to) n fs) h))

  each-alike : (fs : List Formula) → list_all (formula_is_covered to) fs ≡ true → map (moved to) fs ≡ map (moved all) fs
  each-alike [] h = refl
  each-alike (f ∷ fs) h =
      ap₂ (λ g gs. g ∷ gs) (formula-alike 0 f (left_true (formula_is_covered to f) (list_all (formula_is_covered to) fs) h)) (each-alike fs (right_true (formula_is_covered to f) (list_all (formula_is_covered to) fs) h))

  written-alike : (c : Column) (i v j : Term) → (column_passes (covered to) c && term_passes (covered to) i && term_passes (covered to) v && term_passes (covered to) j) ≡ true → renamed_step to (S.Written c i v j) ≡ renamed_step all (S.Written c i v j)
  written-alike c i v j h =
      let three = left_true (column_passes (covered to) c && term_passes (covered to) i && term_passes (covered to) v) (term_passes (covered to) j) h in
      let two = left_true (column_passes (covered to) c && term_passes (covered to) i) (term_passes (covered to) v) three in
      let a = column-alike c (left_true (column_passes (covered to) c) (term_passes (covered to) i) two) in
      let b = term-alike i (right_true (column_passes (covered to) c) (term_passes (covered to) i) two) in
      let d = term-alike v (right_true (column_passes (covered to) c && term_passes (covered to) i) (term_passes (covered to) v) three) in
      let e = term-alike j (right_true (column_passes (covered to) c && term_passes (covered to) i && term_passes (covered to) v) (term_passes (covered to) j) h) in
      λ x. S.Written (a x) (b x) (d x) (e x)

  same_step-alike : (c : Column) (i j : Term) → (column_passes (covered to) c && term_passes (covered to) i && term_passes (covered to) j) ≡ true → renamed_step to (S.Same c i j) ≡ renamed_step all (S.Same c i j)
  same_step-alike c i j h =
      let two = left_true (column_passes (covered to) c && term_passes (covered to) i) (term_passes (covered to) j) h in
      let a = column-alike c (left_true (column_passes (covered to) c) (term_passes (covered to) i) two) in
      let b = term-alike i (right_true (column_passes (covered to) c) (term_passes (covered to) i) two) in
      let d = term-alike j (right_true (column_passes (covered to) c && term_passes (covered to) i) (term_passes (covered to) j) h) in
      λ x. S.Same (a x) (b x) (d x)

  step-alike : (s : Step) → step_is_covered to s ≡ true → renamed_step to s ≡ renamed_step all s
  step-alike (S.Instantiate h t) e = ap (S.Instantiate h) (term-alike t e)
  step-alike (S.Cut f) e = ap S.Cut (formula-alike 0 f e)
  step-alike (S.Written c i v j) e = written-alike c i v j e
  step-alike (S.Same c i j) e = same_step-alike c i j e
  step-alike (S.Affine a b i) e = ap (S.Affine a b) (term-alike i e)
  step-alike (S.Divide h k f) e = ap (S.Divide h k) (formula-alike 0 f e)
  step-alike _ e = refl

  mutual
    proof-alike : (p : Proof) → is_covered to p ≡ true → renamed to p ≡ renamed all p
    proof-alike (proof s ps) h = ap₂ proof (step-alike s (left_true (step_is_covered to s) (are_covered to ps) h)) (proofs-alike ps (right_true (step_is_covered to s) (are_covered to ps) h))

    proofs-alike : (ps : Proofs) → are_covered to ps ≡ true → all_renamed to ps ≡ all_renamed all ps
    proofs-alike none h = refl
    proofs-alike (more p ps) h = ap₂ more (proof-alike p (left_true (is_covered to p) (are_covered to ps) h)) (proofs-alike ps (right_true (is_covered to p) (are_covered to ps) h))

-- ---- columns in place of all

-- the column itself beyond m if there is none in its place
abbrev or_beyond : ℕ → ℕ → Option ℕ → ℕ
or_beyond m k None = m + k
or_beyond m k (Some j) = j

abbrev is_at : Option ℕ → ℕ → Bool
is_at None j = false
is_at (Some i) j = i == j

-- which of the columns below n has column j in its place
abbrev place_below : (ℕ → Option ℕ) → ℕ → ℕ → ℕ
place_below to zero j = 0
place_below to (suc n) j = if is_at (to n) j then n else place_below to n j

at-some : (o : Option ℕ) (j : ℕ) → is_at o j ≡ true → o ≡ Some j
at-some None j h = absurd cc
at-some (Some i) j h = ap Some (eqb-true i j h)

is-at : (o : Option ℕ) (j : ℕ) → o ≡ Some j → is_at o j ≡ true
is-at None j e = absurd cc
is-at (Some i) j e = eq-eqb i j (let same : i ≡ j = cc in same)

module _ (to : ℕ → Option ℕ) (n m : ℕ) (one : IsOneToOne to n m) where
  abbrev everywhere : ℕ → ℕ
  everywhere k = or_beyond m k (to k)

  abbrev back : ℕ → ℕ
  back j = if nat_lt j m then place_below to n j else j - m

  found : (l k j : ℕ) → to k ≡ Some j → k < l → place_below to l j ≡ k
  found zero k j e below = absurd (omega (arith, below))
  found (suc l) k j e below = by (is_at (to l) j) refl (found l k j e)
    where
      by : (b : Bool) → is_at (to l) j ≡ b → (k < l → place_below to l j ≡ k) → (if b then l else place_below to l j) ≡ k
      by true h rest = one.apart l k j (at-some (to l) j h) e
      by false h rest = rest (lower (λ same. (let at : is_at (to l) j ≡ true = is-at (to l) j (subst (λ x. to x ≡ Some j) same e) in let no : true ≡ false = sym at ∙ h in cc)))
        where
          lower : (k ≡ l → ⊥) → k < l
          lower apart = omega (arith, below, apart)

  extends : (k j : ℕ) → to k ≡ Some j → everywhere k ≡ j
  extends k j e = ap (or_beyond m k) e

  small : (j : ℕ) → j < m → nat_lt j m ≡ true
  small j h = grind (arith, nat_tests)

  large : (k : ℕ) → nat_lt (m + k) m ≡ false
  large k = grind (arith, nat_tests)

  undone-at : (k : ℕ) (o : Option ℕ) → to k ≡ o → back (or_beyond m k o) ≡ k
  undone-at k None e = ap (λ b. if b then place_below to n (m + k) else ((m + k) - m)) (large k) ∙ (let x : (m + k) - m ≡ k = omega arith in x)
  undone-at k (Some j) e =
      let in-range = one.within k j e in
      ap (λ b. if b then place_below to n j else j - m) (small j in-range.1) ∙ found n k j e in-range.0

  undone : (k : ℕ) → back (everywhere k) ≡ k
  undone k = undone-at k (to k) refl

-- a proof with each column replaced
pub renamed-derives : RenamedDerives
renamed-derives to n m v H K f g p one hypotheses goal h d =
    let total = everywhere to n m one in
    let all : ℕ → Option ℕ = λ k. Some (total k) in
    let every = derives-moved all (back to n m one) (undone to n m one) d in
    let shown : Derives v (map (moved all) H ++ Not (moved all f) ∷ []) (renamed all p) = subst (λ l. Derives v l (renamed all p)) (map-append (moved all) H (Not f ∷ [])) every in
    let fs : map (moved all) H ≡ K = sym (hypotheses.same ∙ each-alike to total (extends to n m one) H hypotheses.covered) in
    let x : moved all f ≡ g = sym (goal.same ∙ formula-alike to total (extends to n m one) 0 f goal.covered) in
    subst (λ q. DerivesGoal v K g q) (sym (proof-alike to total (extends to n m one) p h))
    (subst (λ y. DerivesGoal v K y (renamed all p)) x (subst (λ l. DerivesGoal v l (moved all f) (renamed all p)) fs shown))
