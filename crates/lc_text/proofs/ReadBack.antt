-- What is printed reads back.
use Rattle.std.proofs.Common.{◌≡◌, ℕ, ℤ, suc, ◌+◌, ◌-◌, ◌<◌, ◌≤◌, ◌^◌, true, List, ◌++◌, Some, refl, ap, ap₂, ◌∙◌, arith}
use Rattle.std.proofs.lemmas.Bool.{le-leb, cond-true, cond-false}
use Rattle.std.specs.Prelude.{codes}
use Rattle.std.specs.Fmt.{decimal, signed_decimal}
use Rattle.lc_sexp.specs.Trees.{Tree, atom, list, none, ◌▸◌, item_count}
use Rattle.lc_sexp.specs.Parts.{fits_i64, variable_within}
use Rattle.lc_term.specs.Syntax as S
use Rattle.lc_term.specs.Syntax.{Term, Number, Variable, Bound, Add, Subtract, Multiply, Read, Column, Base, Store, Affine}
use Rattle.lc_term.specs.Syntax.{Formula, Le, Eq, Not, And, Or, Implies, Forall, Exists, Formulas, more}
use Rattle.lc_text.specs.Names.{Names}
use Rattle.lc_text.specs.declared.scope.Extra.TheVariants.{Quantifiers, BuiltColumns, NumberedVariables}
use Rattle.lc_reading.specs.Naming.{within}
use Rattle.lc_reading.specs.Readings.{Reading, fine, mapped, both, three}
use Rattle.lc_text.proofs.Numerals.{natural_of-decimal, integer_fit-signed}
use Rattle.lc_text.proofs.Printed.{binder_is_name, binder_is_free, binder_is_short, index_back}
use Rattle.lc_text.specs.Formulas as F
use Rattle.lc_text.specs.Formulas.{formula_reading, formulas_reading, body_reading, binder_reading, connective_reading, body_of}
use Rattle.lc_text.specs.Heads.{built_due, connective_due, allowed}
use Rattle.lc_text.specs.Spelling.{Spelled}
use Rattle.lc_text.specs.Spelled.{binder, one_deeper}
use Rattle.lc_text.specs.SpelledTree.{term_tree, column_tree, formula_tree, formula_trees, binders, TermReadsBack, ColumnReadsBack, FormulaReadsBack, FormulasReadBack}
use Rattle.lc_text.specs.Terms as T
use Rattle.lc_text.specs.Terms.{term_reading, column_reading, numbers_reading, store_reading, atom_reading, word_reading, number_reading, number_or, fit_reading, bound_or_free, pair, triple, built_reading}
use Rattle.lc_text.specs.declared.words.Built.TheVariants as B
use Rattle.lc_text.specs.declared.words.Operation.TheVariants as O
use Rattle.lc_text.specs.declared.words.Connective.TheVariants as C

-- a number
number_back : (n : ℕ) (z : ℤ) → fits_i64 z ≡ true → number_reading n (atom (signed_decimal z)) ≡ fine z
number_back n z h = ap (fit_reading n) (integer_fit-signed z h)

number_term : (names : Names) (bound : List (List ℕ)) (n : ℕ) (z : ℤ) → fits_i64 z ≡ true → atom_reading names bound n (signed_decimal z) ≡ fine (S.Number z)
number_term names bound n z h = ap (λ f. number_or n f (word_reading names bound n (signed_decimal z))) (integer_fit-signed z h)

short : {X : Type 0} (n d : ℕ) (x : X) → d < 2 ^ 64 → within n (binder d) x ≡ fine x
short n d x h = cond-false _ _ _ (binder_is_short d h)

-- the name of a quantifier is that of its variable
bound_back : (names : Names) (d k n : ℕ) → k < d → d ≤ 4294967296 → atom_reading names (binders d) n (binder (d - 1 - k)) ≡ fine (S.Bound k)
bound_back names d k n lt h =
    let j = d - 1 - k in
    let small : j < 2 ^ 64 = omega arith in
    cond-true _ _ _ (binder_is_name j small)
    ∙ ap (λ o. bound_or_free n (binder j) o (names.variable (binder j))) (index_back d k lt h)
    ∙ short n j (S.Bound k) small

-- a variable `?k` reads back where such variables are allowed
pub numbered_back : (names : Names) (bound : List (List ℕ)) (n k : ℕ) → names.allows NumberedVariables ≡ true → k < 4294967296 → atom_reading names bound n (codes "?" ++ decimal k) ≡ fine (S.Variable k)
unfolding Rattle.lc_base.specs.NameText.begins_name
numbered_back names bound n k allowed h =
    cond-true _ _ _ allowed ∙ ap (λ v. mapped S.Variable (fit_reading n (variable_within v))) (natural_of-decimal k (omega arith))
    ∙ ap (λ v. mapped S.Variable (fit_reading n v)) (cond-true _ _ _ (le-leb k 4294967295 (omega arith)))

-- parts that are read are read together
pub two_back : {X Y Z : Type 0} (f : X → Y → Z) (r : Reading X) (s : Reading Y) (x : X) (y : Y) → r ≡ fine x → s ≡ fine y → both f r s ≡ fine (f x y)
two_back f r s x y e g = ap₂ (both f) e g

three_back : (r : Reading Column) (s q : Reading Term) (c : Column) (i v : Term) → r ≡ fine c → s ≡ fine i → q ≡ fine v → three triple r s q ≡ fine (triple c i v)
three_back r s q c i v e f g = two_back (λ (p : Column × Term) z. triple p.0 p.1 z) _ q (c, i) v (two_back (λ x y. (x, y)) r s c i e f) g

-- where columns may be built
store_due : (names : Names) → names.allows BuiltColumns ≡ true → built_due names (codes "store") ≡ Some B.Store
store_due names h = cond-true _ _ _ h

affine_due : (names : Names) → names.allows BuiltColumns ≡ true → built_due names (codes "affine") ≡ Some B.Affine
affine_due names h = cond-true _ _ _ h

store_back : (names : Names) (b : List (List ℕ)) (r n : ℕ) (t u v : Tree) (c : Column) (x y : Term) → names.allows BuiltColumns ≡ true → column_reading names b n (n + 2) t ≡ fine c
    → term_reading names b (n + 2 + item_count t) u ≡ fine x → term_reading names b (n + 2 + item_count t + item_count u) v ≡ fine y
    → column_reading names b r n (list (atom (codes "store") ▸ t ▸ u ▸ v ▸ none)) ≡ fine (S.Store c x y)
store_back names b r n t u v c x y h e f g =
    ap (λ o. built_reading n o (numbers_reading n (n + 2) (t ▸ u ▸ v ▸ none)) (store_reading names b n (n + 2) (t ▸ u ▸ v ▸ none))) (store_due names h)
    ∙ ap (mapped T.store_of) (three_back _ _ _ c x y e f g)

affine_back : (names : Names) (b : List (List ℕ)) (r n : ℕ) (x y : ℤ) → names.allows BuiltColumns ≡ true → fits_i64 x ≡ true → fits_i64 y ≡ true
    → column_reading names b r n (list (atom (codes "affine") ▸ atom (signed_decimal x) ▸ atom (signed_decimal y) ▸ none)) ≡ fine (S.Affine x y)
affine_back names b r n x y h e f =
    ap (λ o. built_reading n o (numbers_reading n (n + 2) (atom (signed_decimal x) ▸ atom (signed_decimal y) ▸ none)) (store_reading names b n (n + 2) (atom (signed_decimal x) ▸ atom (signed_decimal y) ▸ none))) (affine_due names h)
    ∙ ap (mapped T.affine_of) (two_back pair _ _ x y (number_back (n + 2) x e) (number_back (n + 2 + 1) y f))

mutual
  pub term_back : (names : Names) (by : Spelled) (d n : ℕ) (t : Term) → d ≤ 4294967296 → TermReadsBack names by d t → term_reading names (binders d) n (term_tree by d t) ≡ fine t
  term_back names by d n (Number z) h r = number_term names (binders d) n z r
  term_back names by d n (Variable k) h r = r n
  term_back names by d n (Bound k) h r = bound_back names d k n r h
  term_back names by d n (Add t u) h r = ap (mapped (T.sum_of O.Add)) (two_back pair _ _ t u (term_back names by d _ t h r.0) (term_back names by d _ u h r.1))
  term_back names by d n (Subtract t u) h r = ap (mapped (T.sum_of O.Subtract)) (two_back pair _ _ t u (term_back names by d _ t h r.0) (term_back names by d _ u h r.1))
  term_back names by d n (Multiply z t) h r = ap (mapped T.product_of) (two_back pair _ _ z t (number_back _ z r.0) (term_back names by d _ t h r.1))
  term_back names by d n (Read c i) h r = ap (mapped T.access_of) (two_back pair _ _ c i (column_back names by d _ _ c h r.0) (term_back names by d _ i h r.1))

  pub column_back : (names : Names) (by : Spelled) (d reader n : ℕ) (c : Column) → d ≤ 4294967296 → ColumnReadsBack names by d c → column_reading names (binders d) reader n (column_tree by d c) ≡ fine c
  column_back names by d reader n (Base c) h r = r reader n
  column_back names by d reader n (Store c i v) h r =
      store_back names (binders d) reader n (column_tree by d c) (term_tree by d i) (term_tree by d v) c i v r.0 (column_back names by d _ _ c h r.1) (term_back names by d _ i h r.2) (term_back names by d _ v h r.3)
  column_back names by d reader n (Affine a b) h r = affine_back names (binders d) reader n a b r.0 r.1 r.2

-- the name of a quantifier
binder_back : (n d : ℕ) → d < 2 ^ 32 → binder_reading n (atom (binder d)) ≡ fine tt
binder_back n d h =
    let small : d < 2 ^ 64 = omega arith in
    cond-true _ _ _ (binder_is_name d small) ∙ cond-false _ _ _ (binder_is_free d) ∙ short n d tt small

one_deeper_is : (d : ℕ) → d < 2 ^ 32 → one_deeper d ≡ d + 1
one_deeper_is d h = omega arith

-- the body of a quantifier that has d quantifiers around it
body_back : (names : Names) (by : Spelled) (d n m : ℕ) (f : Formula) → d < 2 ^ 32 → formula_reading names (binders (d + 1)) (m + 1) (formula_tree by (d + 1) f) ≡ fine f
    → body_reading names (binders d) n m (atom (binder d) ▸ formula_tree by (one_deeper d) f ▸ none) ≡ fine f
body_back names by d n m f h back = two_back body_of _ _ tt f (binder_back m d h)
    (let more : suc d ≡ d + 1 = omega arith in
    ap (λ bound. formula_reading names bound (m + 1) (formula_tree by (one_deeper d) f)) (ap binders more)
    ∙ ap (λ e. formula_reading names (binders (d + 1)) (m + 1) (formula_tree by e f)) (one_deeper_is d h) ∙ back)

-- where quantifiers are allowed
forall_back : (n : ℕ) (names : Names) (terms : Reading (Term × Term)) (one : Reading Formula) (any : Reading Formulas) (two : Reading (Formula × Formula)) (body : Reading Formula) (f : Formula)
    → names.allows Quantifiers ≡ true → body ≡ fine f → connective_reading n (connective_due names (codes "forall")) terms one any two body ≡ fine (S.Forall f)
forall_back n names terms one any two body f h e =
    ap (λ q. connective_reading n (allowed q (Some C.Forall)) terms one any two body) h ∙ ap (mapped (F.quantified_by C.Forall)) e

exists_back : (n : ℕ) (names : Names) (terms : Reading (Term × Term)) (one : Reading Formula) (any : Reading Formulas) (two : Reading (Formula × Formula)) (body : Reading Formula) (f : Formula)
    → names.allows Quantifiers ≡ true → body ≡ fine f → connective_reading n (connective_due names (codes "exists")) terms one any two body ≡ fine (S.Exists f)
exists_back n names terms one any two body f h e =
    ap (λ q. connective_reading n (allowed q (Some C.Exists)) terms one any two body) h ∙ ap (mapped (F.quantified_by C.Exists)) e

mutual
  pub formula_back : (names : Names) (by : Spelled) (d n : ℕ) (f : Formula) → d ≤ 4294967296 → FormulaReadsBack names by d f → formula_reading names (binders d) n (formula_tree by d f) ≡ fine f
  formula_back names by d n (Le t u) h r = ap (mapped (F.comparison_of C.Le)) (two_back pair _ _ t u (term_back names by d _ t h r.0) (term_back names by d _ u h r.1))
  formula_back names by d n (Eq t u) h r = ap (mapped (F.comparison_of C.Eq)) (two_back pair _ _ t u (term_back names by d _ t h r.0) (term_back names by d _ u h r.1))
  formula_back names by d n (Not f) h r = ap (mapped S.Not) (formula_back names by d _ f h r)
  formula_back names by d n (And fs) h r = ap (mapped (F.joined_by C.And)) (formulas_back names by d _ fs h r)
  formula_back names by d n (Or fs) h r = ap (mapped (F.joined_by C.Or)) (formulas_back names by d _ fs h r)
  formula_back names by d n (Implies f g) h r = ap (mapped F.implication_of) (two_back pair _ _ f g (formula_back names by d _ f h r.0) (formula_back names by d _ g h r.1))
  formula_back names by d n (Forall f) h r = forall_back n names _ _ _ _ _ f r.0 (body_back names by d n (n + 2) f r.1 (formula_back names by (d + 1) _ f (omega arith) r.2))
  formula_back names by d n (Exists f) h r = exists_back n names _ _ _ _ _ f r.0 (body_back names by d n (n + 2) f r.1 (formula_back names by (d + 1) _ f (omega arith) r.2))

  pub formulas_back : (names : Names) (by : Spelled) (d m : ℕ) (fs : Formulas) → d ≤ 4294967296 → FormulasReadBack names by d fs → formulas_reading names (binders d) m (formula_trees by d fs) ≡ fine fs
  formulas_back names by d m S.none h r = refl
  formulas_back names by d m (more f fs) h r = two_back S.more _ _ f fs (formula_back names by d _ f h r.0) (formulas_back names by d _ fs h r.1)
