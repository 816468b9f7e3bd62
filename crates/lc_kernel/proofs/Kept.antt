-- What each rule appends has variables in use alone.
use Rattle.std.proofs.Common.{◌≡◌, ℕ, suc, ◌≤◌, true, ◌&&◌, List, [], ◌∷◌, ◌++◌, Some, IsTrue, refl, sym, subst, arith}
use Rattle.std.specs.Prelude.{ℤ, length}
use Rattle.std.specs.List.{AllByRecursion}
use Rattle.std.proofs.lemmas.Bool.{and_parts, and_from}
use Rattle.std.proofs.lemmas.Bool.Decides.{nat_tests}
use Rattle.lc_array.specs.Axioms.{written, same_index, affine_cell}
use Rattle.lc_term.specs.Places.{is_closed}
use Rattle.lc_term.specs.Substitution.{instantiated}
use Rattle.lc_term.specs.Syntax.{Term, Variable, Column, Formula, Le, Eq, Not, And, Or, Implies, Forall, Exists, Formulas, none, more, formulas, parts}
use Rattle.lc_kernel.proofs.InUse.{inner_below, parts_below, instantiated_below, all_below-more, all_below-append}
use Rattle.lc_kernel.proofs.Found.{opens_same, taking_opens, in_use_opens, branching_in_use, sum_gives_summed, opposite_gives_opposed, open_opens, hypothesis_has}
use Rattle.lc_kernel.specs.Below.{term_below, column_below, formula_below, all_below}
use Rattle.lc_kernel.specs.Proofs as S
use Rattle.lc_kernel.specs.Proofs.{Step}
use Rattle.lc_kernel.specs.Table.{opens, conjuncts, negations, failing, alternatives, less, pushed_inward, pushed, for_all, for_some, sides, apart, excess, hypothesis, each, InUse, Opens, Appends, QuotientGives, Gives}

-- ---- what each rule takes from a formula

each_in_use : (v : ℕ) (H : List Formula) → IsTrue (all_below v H) → AllByRecursion (λ f. IsTrue (formula_below v f)) H
each_in_use v [] h = tt
each_in_use v (f ∷ H) h = let p = and_parts (formula_below v f) (all_below v H) h in (p.0, each_in_use v H p.1)

pub hypothesis_below : (v : ℕ) (H : List Formula) (h : ℤ) (f : Formula) → hypothesis H h ≡ Some f → IsTrue (all_below v H) → IsTrue (formula_below v f)
hypothesis_below v H h f is all = hypothesis_has (λ f. IsTrue (formula_below v f)) H h f is (each_in_use v H all)

all_parts_below : (v : ℕ) (fs : Formulas) → IsTrue (parts_below v 0 fs) → IsTrue (all_below v (parts fs))
all_parts_below v none h = refl
all_parts_below v (more f fs) h = let p = and_parts (formula_below v f) (parts_below v 0 fs) h in and_from _ _ p.0 (all_parts_below v fs p.1)

all_negations_below : (v : ℕ) (fs : Formulas) → IsTrue (parts_below v 0 fs) → IsTrue (all_below v (negations (parts fs)))
all_negations_below v none h = refl
all_negations_below v (more f fs) h = let p = and_parts (formula_below v f) (parts_below v 0 fs) h in and_from _ _ p.0 (all_negations_below v fs p.1)

negations_below : (v : ℕ) (fs : Formulas) → IsTrue (parts_below v 0 fs) → IsTrue (parts_below v 0 (formulas (negations (parts fs))))
negations_below v none h = refl
negations_below v (more f fs) h = let p = and_parts (formula_below v f) (parts_below v 0 fs) h in and_from _ _ p.0 (negations_below v fs p.1)

conjuncts_below : (v : ℕ) (f : Formula) (fs : List Formula) → conjuncts f ≡ Some fs → IsTrue (formula_below v f) → IsTrue (all_below v fs)
conjuncts_below v (And gs) fs is h = let same : parts gs ≡ fs = cc in subst (λ xs. IsTrue (all_below v xs)) same (all_parts_below v gs h)
conjuncts_below v _ fs is h = cc

failing_below : (v : ℕ) (f : Formula) (fs : List Formula) → failing f ≡ Some fs → IsTrue (formula_below v f) → IsTrue (all_below v fs)
failing_below v (And gs) fs is h = let same : negations (parts gs) ≡ fs = cc in subst (λ xs. IsTrue (all_below v xs)) same (all_negations_below v gs h)
failing_below v _ fs is h = cc

alternatives_below : (v : ℕ) (f : Formula) (fs : List Formula) → alternatives f ≡ Some fs → IsTrue (formula_below v f) → IsTrue (all_below v fs)
alternatives_below v (Or gs) fs is h = let same : parts gs ≡ fs = cc in subst (λ xs. IsTrue (all_below v xs)) same (all_parts_below v gs h)
alternatives_below v (Implies f g) fs is h =
    let same : Not f ∷ g ∷ [] ≡ fs = cc in
    let p = and_parts (formula_below v f) (formula_below v g) h in
    subst (λ xs. IsTrue (all_below v xs)) same (and_from (formula_below v f) _ p.0 (and_from (formula_below v g) true p.1 refl))
alternatives_below v (Not f) fs is h = failing_below v f fs is h
alternatives_below v _ fs is h = cc

less_below : (v : ℕ) (t u : Term) → IsTrue (term_below v t) → IsTrue (term_below v u) → IsTrue (formula_below v (less t u))
less_below v t u h g = and_from _ _ (and_from (term_below v t) true h refl) g

pushed_inward_below : (v : ℕ) (f g : Formula) → pushed_inward f ≡ Some g → IsTrue (formula_below v f) → IsTrue (formula_below v g)
pushed_inward_below v (Not f) g is h = let same : f ≡ g = cc in subst (λ x. IsTrue (formula_below v x)) same h
pushed_inward_below v (Le t u) g is h =
    let same : less u t ≡ g = cc in
    let p = and_parts (term_below v t) (term_below v u) h in
    subst (λ x. IsTrue (formula_below v x)) same (less_below v u t p.1 p.0)
pushed_inward_below v (Or fs) g is h =
    let same : And (formulas (negations (parts fs))) ≡ g = cc in subst (λ x. IsTrue (formula_below v x)) same (negations_below v fs h)
pushed_inward_below v (Implies f k) g is h =
    let same : And (more f (more (Not k) none)) ≡ g = cc in
    let p = and_parts (formula_below v f) (formula_below v k) h in
    subst (λ x. IsTrue (formula_below v x)) same (and_from (formula_below v f) _ p.0 (and_from (formula_below v k) true p.1 refl))
pushed_inward_below v (Forall f) g is h = let same : Exists (Not f) ≡ g = cc in subst (λ x. IsTrue (formula_below v x)) same h
pushed_inward_below v (Exists f) g is h = let same : Forall (Not f) ≡ g = cc in subst (λ x. IsTrue (formula_below v x)) same h
pushed_inward_below v _ g is h = cc

pushed_below : (v : ℕ) (f g : Formula) → pushed f ≡ Some g → IsTrue (formula_below v f) → IsTrue (formula_below v g)
pushed_below v (Not f) g is h = pushed_inward_below v f g is h
pushed_below v _ g is h = cc

for_all_below : (v : ℕ) (f g : Formula) → for_all f ≡ Some g → IsTrue (formula_below v f) → IsTrue (inner_below v 1 g)
for_all_below v (Forall f) g is h = let same : f ≡ g = cc in subst (λ x. IsTrue (inner_below v 1 x)) same h
for_all_below v _ g is h = cc

pub for_some_below : (v : ℕ) (f g : Formula) → for_some f ≡ Some g → IsTrue (formula_below v f) → IsTrue (inner_below v 1 g)
for_some_below v (Exists f) g is h = let same : f ≡ g = cc in subst (λ x. IsTrue (inner_below v 1 x)) same h
for_some_below v _ g is h = cc

sides_below : (v : ℕ) (f : Formula) (p : Term × Term) → sides f ≡ Some p → IsTrue (formula_below v f) → IsTrue (term_below v p.0) × IsTrue (term_below v p.1)
sides_below v (Eq t u) p is h =
    let same : (t, u) ≡ p = cc in
    subst (λ q. IsTrue (term_below v q.0) × IsTrue (term_below v q.1)) same (and_parts (term_below v t) (term_below v u) h)
sides_below v _ p is h = cc

apart_below : (v : ℕ) (f : Formula) (p : Term × Term) → apart f ≡ Some p → IsTrue (formula_below v f) → IsTrue (term_below v p.0) × IsTrue (term_below v p.1)
apart_below v (Not f) p is h = sides_below v f p is h
apart_below v _ p is h = cc

-- ---- the axioms

written_below : (v : ℕ) (c : Column) (i x j : Term) → IsTrue (column_below v c && term_below v i && term_below v x && term_below v j) → IsTrue (formula_below v (written c i x j))
written_below v c i x j h =
    let p = and_parts (column_below v c && term_below v i && term_below v x) (term_below v j) h in
    let q = and_parts (column_below v c && term_below v i) (term_below v x) p.0 in
    let r = and_parts (column_below v c) (term_below v i) q.0 in
    rw (r.0, r.1, q.1, p.1) refl

same_index_below : (v : ℕ) (c : Column) (i j : Term) → IsTrue (column_below v c && term_below v i && term_below v j) → IsTrue (formula_below v (same_index c i j))
same_index_below v c i j h =
    let q = and_parts (column_below v c && term_below v i) (term_below v j) h in
    let r = and_parts (column_below v c) (term_below v i) q.0 in
    rw (r.0, r.1, q.1) refl

affine_cell_below : (v : ℕ) (m n : ℤ) (i : Term) → IsTrue (term_below v i) → IsTrue (formula_below v (affine_cell m n i))
affine_cell_below v m n i h = rw h refl

-- ---- steps

-- in each branch the hypotheses and what is appended have variables in use alone
pub record Kept (v w : ℕ) (bs : List (List Formula)) : Type 0 where
  pub more : v ≤ w
  pub all : AllByRecursion (λ b. IsTrue (all_below w b)) bs

kept : (v w : ℕ) (bs cs : List (List Formula)) → opens w bs ≡ opens v cs → AllByRecursion (λ b. IsTrue (all_below v b)) cs → Kept v w bs
kept v w bs cs is h =
    let same = opens_same v w bs cs is in
    record {
      more = let e = same.0 in omega arith;
      all = subst (λ x. AllByRecursion (λ b. IsTrue (all_below x b)) bs) (sym same.0) (subst (AllByRecursion (λ b. IsTrue (all_below v b))) (sym same.1) h);
    }

kept_none : (v w : ℕ) (bs : List (List Formula)) → opens w bs ≡ opens v [] → Kept v w bs
kept_none v w bs is = kept v w bs [] is tt

kept_one : (v w : ℕ) (bs : List (List Formula)) (fs : List Formula) → opens w bs ≡ opens v (fs ∷ []) → IsTrue (all_below v fs) → Kept v w bs
kept_one v w bs fs is h = kept v w bs (fs ∷ []) is (h, tt)

kept_formula : (v w : ℕ) (bs : List (List Formula)) (f : Formula) → Appends v f (opens w bs) → IsTrue (formula_below v f) → Kept v w bs
kept_formula v w bs f is h = kept_one v w bs (f ∷ []) is (and_from (formula_below v f) true h refl)

each_below : (v : ℕ) (fs : List Formula) → IsTrue (all_below v fs) → AllByRecursion (λ b. IsTrue (all_below v b)) (each fs)
each_below v [] h = tt
each_below v (f ∷ fs) h =
    let p = and_parts (formula_below v f) (all_below v fs) h in
    (and_from (formula_below v f) true p.0 refl, each_below v fs p.1)

kept_each : (v w : ℕ) (bs : List (List Formula)) (fs : List Formula) → opens w bs ≡ opens v (each fs) → IsTrue (all_below v fs) → Kept v w bs
kept_each v w bs fs is h = kept v w bs (each fs) is (each_below v fs h)

two_below : (v : ℕ) (f g : Formula) → IsTrue (formula_below v f) → IsTrue (formula_below v g) → IsTrue (all_below v (f ∷ g ∷ []))
two_below v f g h k = and_from (formula_below v f) _ h (and_from (formula_below v g) true k refl)

in_use_zero : (v : ℕ) → IsTrue (term_below (suc v) (Variable v))
in_use_zero v = grind (arith, nat_tests)

-- `fresh` takes one more variable into use
kept_fresh : (v w : ℕ) (bs : List (List Formula)) (f : Formula) → Appends (suc v) (instantiated (Variable v) f) (opens w bs) → IsTrue (inner_below v 1 f) → Kept v w bs
kept_fresh v w bs f is h =
    let k = kept_formula (suc v) w bs (instantiated (Variable v) f) is (instantiated_below v (suc v) 1 (Variable v) f (omega arith) (in_use_zero v) h) in
    let l = k.more in
    record { more = omega arith; all = k.all }

-- if the hypotheses have variables in use alone, so has what a step appends
pub Gives-kept : (v w : ℕ) (H : List Formula) (n : ℕ) (s : Step) (bs : List (List Formula)) → Gives v H n s (opens w bs) → IsTrue (all_below v H) → Kept v w bs
Gives-kept v w H n (S.Split h) bs is all =
    let t = taking_opens w bs H h conjuncts n (λ fs. 1) (λ fs. Opens v (fs ∷ [])) is in
    kept_one v w bs t.part t.gives (conjuncts_below v t.formula t.part t.has (hypothesis_below v H h t.formula t.stands all))
Gives-kept v w H n (S.Cases h) bs is all =
    let t = taking_opens w bs H h alternatives n (λ fs. length fs) (λ fs. Opens v (each fs)) is in
    kept_each v w bs t.part t.gives (alternatives_below v t.formula t.part t.has (hypothesis_below v H h t.formula t.stands all))
Gives-kept v w H n (S.Push h) bs is all =
    let t = taking_opens w bs H h pushed n (λ f. 1) (λ f. Appends v f) is in
    kept_formula v w bs t.part t.gives (pushed_below v t.formula t.part t.has (hypothesis_below v H h t.formula t.stands all))
Gives-kept v w H n (S.Instantiate h u) bs is all =
    let t = taking_opens w bs H h for_all n (λ f. 1) (λ f. InUse (term_below v u && is_closed u) (Appends v (instantiated u f))) is in
    let g = in_use_opens w bs (term_below v u && is_closed u) (Appends v (instantiated u t.part)) t.gives in
    let p = and_parts (term_below v u) (is_closed u) g.0 in
    kept_formula v w bs (instantiated u t.part) g.1
    (instantiated_below v v 1 u t.part (omega arith) p.0 (for_all_below v t.formula t.part t.has (hypothesis_below v H h t.formula t.stands all)))
Gives-kept v w H n (S.Fresh h) bs is all =
    let t = taking_opens w bs H h for_some n (λ f. 1) (λ f. Appends (suc v) (instantiated (Variable v) f)) is in
    kept_fresh v w bs t.part t.gives (for_some_below v t.formula t.part t.has (hypothesis_below v H h t.formula t.stands all))
Gives-kept v w H n (S.Cut f) bs is all =
    let g = branching_in_use w bs n 2 (formula_below v f) (Opens v (each (Not f ∷ f ∷ []))) is in
    kept_each v w bs (Not f ∷ f ∷ []) g.1 (two_below v (Not f) f g.0 g.0)
Gives-kept v w H n (S.Written c i x j) bs is all =
    let g = branching_in_use w bs n 1 (column_below v c && term_below v i && term_below v x && term_below v j) (Appends v (written c i x j)) is in
    kept_formula v w bs (written c i x j) g.1 (written_below v c i x j g.0)
Gives-kept v w H n (S.Same c i j) bs is all =
    let g = branching_in_use w bs n 1 (column_below v c && term_below v i && term_below v j) (Appends v (same_index c i j)) is in
    kept_formula v w bs (same_index c i j) g.1 (same_index_below v c i j g.0)
Gives-kept v w H n (S.Affine a b i) bs is all =
    let g = branching_in_use w bs n 1 (term_below v i) (Appends v (affine_cell a b i)) is in
    kept_formula v w bs (affine_cell a b i) g.1 (affine_cell_below v a b i g.0)
Gives-kept v w H n (S.Trichotomy h) bs is all =
    let t = taking_opens w bs H h apart n (λ p. 2) (λ p. Opens v (each (less p.0 p.1 ∷ less p.1 p.0 ∷ []))) is in
    let p = t.part in
    let b = apart_below v t.formula p t.has (hypothesis_below v H h t.formula t.stands all) in
    kept_each v w bs (less p.0 p.1 ∷ less p.1 p.0 ∷ []) t.gives (two_below v (less p.0 p.1) (less p.1 p.0) (less_below v p.0 p.1 b.0 b.1) (less_below v p.1 p.0 b.1 b.0))
Gives-kept v w H n (S.Divide h k f) bs is all =
    let t = taking_opens w bs H h excess n (λ t. 1) (λ t. InUse (formula_below v f) (QuotientGives v f t k)) is in
    let g = in_use_opens w bs (formula_below v f) (QuotientGives v f t.part k) t.gives in
    kept_formula v w bs f g.1.0 g.0
Gives-kept v w H n (S.Sum ms) bs is all = kept_none v w bs (sum_gives_summed v H n ms w bs is).gives.0
Gives-kept v w H n (S.Opposite h g) bs is all = kept_none v w bs (opposite_gives_opposed v H n h g w bs is).gives
Gives-kept v w H n S.Open bs is all = absurd (open_opens v H n w bs is)

branches_below : (w : ℕ) (H : List Formula) (bs : List (List Formula)) → IsTrue (all_below w H) → AllByRecursion (λ b. IsTrue (all_below w b)) bs → AllByRecursion (λ b. IsTrue (all_below w (H ++ b))) bs
branches_below w H [] all each' = tt
branches_below w H (b ∷ bs) all each' = (all_below-append w H b all each'.0, branches_below w H bs all each'.1)

-- so in each branch all hypotheses have variables in use alone
pub Gives-branches : (v w : ℕ) (H : List Formula) (n : ℕ) (s : Step) (bs : List (List Formula)) → Gives v H n s (opens w bs) → IsTrue (all_below v H) → AllByRecursion (λ b. IsTrue (all_below w (H ++ b))) bs
Gives-branches v w H n s bs is all =
    let k = Gives-kept v w H n s bs is all in
    branches_below w H bs (all_below-more v w k.more H all) k.all
