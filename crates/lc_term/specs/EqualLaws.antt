-- The tests of two trees are true exactly if they are the same, so each is an equivalence.
use Rattle.std.proofs.Common.{◌≡◌, true, ◌&&◌, refl, ap, ap₂, subst}
use Rattle.std.specs.Bool.{Decides}
use Rattle.std.specs.Ordering.{int_eq}
use Rattle.std.specs.Cmp.{IsEquivalence, decided}
use Rattle.std.proofs.lemmas.Bool.{and_parts, and_from, false≢true}
use Rattle.std.proofs.lemmas.Bool.Decides.{Decides-int_eq, Decides-eqb}
use Rattle.lc_term.specs.Syntax.{Term, Number, Variable, Bound, Add, Subtract, Multiply, Read, Column, Base, Store, Affine}
use Rattle.lc_term.specs.Syntax.{Formula, Le, Eq, Not, And, Or, Implies, Forall, Exists, Formulas, none, more}
use Rattle.lc_term.specs.Equal.{term_eq, column_eq, formula_eq, formulas_eq}

mutual
  term_eq_true : (t u : Term) → term_eq t u ≡ true → t ≡ u
  term_eq_true (Number n) (Number m) h = ap Number ((Decides-int_eq n m).0 h)
  term_eq_true (Variable n) (Variable m) h = ap Variable ((Decides-eqb n m).0 h)
  term_eq_true (Bound n) (Bound m) h = ap Bound ((Decides-eqb n m).0 h)
  term_eq_true (Add t u) (Add t' u') h =
      let b = and_parts (term_eq t t') (term_eq u u') h in
      let e = term_eq_true t t' b.0 in
      let g = term_eq_true u u' b.1 in ap₂ Add e g
  term_eq_true (Subtract t u) (Subtract t' u') h =
      let b = and_parts (term_eq t t') (term_eq u u') h in
      let e = term_eq_true t t' b.0 in
      let g = term_eq_true u u' b.1 in ap₂ Subtract e g
  term_eq_true (Multiply k t) (Multiply k' t') h =
      let b = and_parts (int_eq k k') (term_eq t t') h in
      let e = (Decides-int_eq k k').0 b.0 in
      let g = term_eq_true t t' b.1 in ap₂ Multiply e g
  term_eq_true (Read c i) (Read c' i') h =
      let b = and_parts (column_eq c c') (term_eq i i') h in
      let e = column_eq_true c c' b.0 in
      let g = term_eq_true i i' b.1 in ap₂ Read e g
  term_eq_true _ _ h = absurd (false≢true h)

  column_eq_true : (c d : Column) → column_eq c d ≡ true → c ≡ d
  column_eq_true (Base n) (Base m) h = ap Base ((Decides-eqb n m).0 h)
  column_eq_true (Store c i v) (Store c' i' v') h =
      let b = and_parts (column_eq c c' && term_eq i i') (term_eq v v') h in
      let b' = and_parts (column_eq c c') (term_eq i i') b.0 in
      let e = column_eq_true c c' b'.0 in
      let g = term_eq_true i i' b'.1 in
      let k = term_eq_true v v' b.1 in λ p. Store (e p) (g p) (k p)
  column_eq_true (Affine a d) (Affine a' d') h =
      let b = and_parts (int_eq a a') (int_eq d d') h in
      let e = (Decides-int_eq a a').0 b.0 in
      let g = (Decides-int_eq d d').0 b.1 in ap₂ Affine e g
  column_eq_true _ _ h = absurd (false≢true h)

mutual
  term_eq_same : (t : Term) → term_eq t t ≡ true
  term_eq_same (Number n) = (Decides-int_eq n n).1 refl
  term_eq_same (Variable n) = (Decides-eqb n n).1 refl
  term_eq_same (Bound n) = (Decides-eqb n n).1 refl
  term_eq_same (Add t u) = and_from _ _ (term_eq_same t) (term_eq_same u)
  term_eq_same (Subtract t u) = and_from _ _ (term_eq_same t) (term_eq_same u)
  term_eq_same (Multiply k t) = and_from _ _ ((Decides-int_eq k k).1 refl) (term_eq_same t)
  term_eq_same (Read c i) = and_from _ _ (column_eq_same c) (term_eq_same i)

  column_eq_same : (c : Column) → column_eq c c ≡ true
  column_eq_same (Base n) = (Decides-eqb n n).1 refl
  column_eq_same (Store c i v) = and_from _ _ (and_from _ _ (column_eq_same c) (term_eq_same i)) (term_eq_same v)
  column_eq_same (Affine a d) = and_from _ _ ((Decides-int_eq a a).1 refl) ((Decides-int_eq d d).1 refl)

mutual
  formula_eq_true : (f g : Formula) → formula_eq f g ≡ true → f ≡ g
  formula_eq_true (Le t u) (Le t' u') h =
      let b = and_parts (term_eq t t') (term_eq u u') h in
      let e = term_eq_true t t' b.0 in
      let g = term_eq_true u u' b.1 in ap₂ Le e g
  formula_eq_true (Eq t u) (Eq t' u') h =
      let b = and_parts (term_eq t t') (term_eq u u') h in
      let e = term_eq_true t t' b.0 in
      let g = term_eq_true u u' b.1 in ap₂ Eq e g
  formula_eq_true (Not f) (Not g) h = ap Not (formula_eq_true f g h)
  formula_eq_true (And fs) (And gs) h = ap And (formulas_eq_true fs gs h)
  formula_eq_true (Or fs) (Or gs) h = ap Or (formulas_eq_true fs gs h)
  formula_eq_true (Implies f g) (Implies f' g') h =
      let b = and_parts (formula_eq f f') (formula_eq g g') h in
      let e = formula_eq_true f f' b.0 in
      let k = formula_eq_true g g' b.1 in ap₂ Implies e k
  formula_eq_true (Forall f) (Forall g) h = ap Forall (formula_eq_true f g h)
  formula_eq_true (Exists f) (Exists g) h = ap Exists (formula_eq_true f g h)
  formula_eq_true _ _ h = absurd (false≢true h)

  formulas_eq_true : (fs gs : Formulas) → formulas_eq fs gs ≡ true → fs ≡ gs
  formulas_eq_true none none h = refl
  formulas_eq_true (more f fs) (more g gs) h =
      let b = and_parts (formula_eq f g) (formulas_eq fs gs) h in
      let e = formula_eq_true f g b.0 in
      let k = formulas_eq_true fs gs b.1 in ap₂ more e k
  formulas_eq_true _ _ h = absurd (false≢true h)

mutual
  formula_eq_same : (f : Formula) → formula_eq f f ≡ true
  formula_eq_same (Le t u) = and_from _ _ (term_eq_same t) (term_eq_same u)
  formula_eq_same (Eq t u) = and_from _ _ (term_eq_same t) (term_eq_same u)
  formula_eq_same (Not f) = formula_eq_same f
  formula_eq_same (And fs) = formulas_eq_same fs
  formula_eq_same (Or fs) = formulas_eq_same fs
  formula_eq_same (Implies f g) = and_from _ _ (formula_eq_same f) (formula_eq_same g)
  formula_eq_same (Forall f) = formula_eq_same f
  formula_eq_same (Exists f) = formula_eq_same f

  formulas_eq_same : (fs : Formulas) → formulas_eq fs fs ≡ true
  formulas_eq_same none = refl
  formulas_eq_same (more f fs) = and_from _ _ (formula_eq_same f) (formulas_eq_same fs)

pub Decides-term_eq : (t u : Term) → Decides (term_eq t u) (t ≡ u)
Decides-term_eq t u = (term_eq_true t u, λ e. subst (λ v. term_eq t v ≡ true) e (term_eq_same t))

pub Decides-column_eq : (c d : Column) → Decides (column_eq c d) (c ≡ d)
Decides-column_eq c d = (column_eq_true c d, λ e. subst (λ v. column_eq c v ≡ true) e (column_eq_same c))

pub Decides-formula_eq : (f g : Formula) → Decides (formula_eq f g) (f ≡ g)
Decides-formula_eq f g = (formula_eq_true f g, λ e. subst (λ v. formula_eq f v ≡ true) e (formula_eq_same f))

pub term_eq_equiv : IsEquivalence term_eq
term_eq_equiv = decided term_eq Decides-term_eq

pub column_eq_equiv : IsEquivalence column_eq
column_eq_equiv = decided column_eq Decides-column_eq

pub formula_eq_equiv : IsEquivalence formula_eq
formula_eq_equiv = decided formula_eq Decides-formula_eq
