-- What is put in below quantifiers, and which formulas can be said.
use Rattle.std.proofs.Common.{◌≡◌, ℕ, zero, suc, true, ◌&&◌, List, [], ◌∷◌, map, refl, ap, ap₂, ◌∙◌}
use Rattle.std.specs.Prelude.{IsTrue}
use Rattle.std.proofs.lemmas.Bool.{and_parts, and_from, false≢true}
use Rattle.lc_base.specs.declared.ids.ColId.{ColId}
use Rattle.lc_term.specs.Syntax.{Term, Number, Variable, Bound, Add, Subtract, Multiply, Read, Column, Base, Store, Affine}
use Rattle.lc_term.specs.Syntax.{Formula, Le, Eq, Not, And, Or, Implies, Forall, Exists, Formulas, none, more}
use Rattle.lc_term.specs.Places.{Test, term_passes, column_passes, passes, all_pass, no_bounds, is_closed}
use Rattle.lc_term.specs.Replacement.{Replacement, raising, replace_term, replace_column, replace, under_many}
use Rattle.lc_term.specs.Truth.{is_ground, are_ground}
use Rattle.lc_term.specs.Lists.{Every}
use Rattle.lc_term.specs.Said.{term_at}
use Rattle.lc_term.specs.View.{term_of}
use Rattle.lc_term.specs.declared.term.Term as T
use Rattle.lc_term.specs.declared.term.ColExpr.{ColExpr}
use Rattle.lc_term.proofs.Closed.{Passes, every_term_passes, every_formula_passes}
use Rattle.lc_term.proofs.Under.{under_many-bounds}
use Rattle.lc_action.specs.Telling.{columns_in, telling, tellable, telling_under}

-- ---- a term without bound variables stays below quantifiers

mutual
  raised_closed : (t : Term) → IsTrue (is_closed t) → replace_term raising t ≡ t
  raised_closed (Number n) h = refl
  raised_closed (Variable k) h = refl
  raised_closed (Bound k) h = absurd (false≢true h)
  raised_closed (Add t u) h = let p = and_parts (is_closed t) (is_closed u) h in ap₂ Add (raised_closed t p.0) (raised_closed u p.1)
  raised_closed (Subtract t u) h = let p = and_parts (is_closed t) (is_closed u) h in ap₂ Subtract (raised_closed t p.0) (raised_closed u p.1)
  raised_closed (Multiply n t) h = ap (Multiply n) (raised_closed t h)
  raised_closed (Read c t) h = let p = and_parts (column_passes no_bounds c) (is_closed t) h in ap₂ Read (raised_closed_column c p.0) (raised_closed t p.1)

  raised_closed_column : (c : Column) → IsTrue (column_passes no_bounds c) → replace_column raising c ≡ c
  raised_closed_column (Base k) h = refl
  raised_closed_column (Store c t v) h =
      let p = and_parts (column_passes no_bounds c && is_closed t) (is_closed v) h in
      let q = and_parts (column_passes no_bounds c) (is_closed t) p.0 in
      λ i. Store (raised_closed_column c q.0 i) (raised_closed t q.1 i) (raised_closed v p.1 i)
  raised_closed_column (Affine a b) h = refl

variable_stays : (n : ℕ) (r : Replacement) (k : ℕ) → IsTrue (is_closed (r.variables k)) → (under_many n r).variables k ≡ r.variables k
variable_stays zero r k h = refl
variable_stays (suc n) r k h = ap (replace_term raising) (variable_stays n r k h) ∙ raised_closed (r.variables k) h

column_stays : (n : ℕ) (r : Replacement) (c : ℕ) → IsTrue (column_passes no_bounds (r.columns c)) → (under_many n r).columns c ≡ r.columns c
column_stays zero r c h = refl
column_stays (suc n) r c h = ap (replace_column raising) (column_stays n r c h) ∙ raised_closed_column (r.columns c) h

module _ (cs : List (ColId × ColExpr)) (ts : List T.Term) where
  pub variable_put : (n k : ℕ) → IsTrue ((tellable cs ts n).variables k) → (telling_under cs ts n).variables k ≡ term_at (map term_of ts) k
  unfolding tellable telling_under
  variable_put zero k h = refl
  variable_put (suc n) k h = variable_stays (suc n) (telling cs ts) k h

  pub column_put : (n c : ℕ) → IsTrue ((tellable cs ts n).columns c) → (telling_under cs ts n).columns c ≡ columns_in cs c
  unfolding tellable telling_under
  column_put zero c h = refl
  column_put (suc n) c h = column_stays (suc n) (telling cs ts) c h

  pub bound_put : (n k : ℕ) → (telling_under cs ts n).bounds k ≡ Bound k
  unfolding telling_under
  bound_put n k = under_many-bounds n (telling cs ts) (λ j. refl) k

-- ---- a formula without quantifiers is tested outside them alone

mutual
  ground_passes : (p : ℕ → Test) → Passes (p 0) → (f : Formula) → IsTrue (is_ground f) → IsTrue (passes p 0 f)
  ground_passes p h (Le t u) g = and_from _ _ (every_term_passes (p 0) h t) (every_term_passes (p 0) h u)
  ground_passes p h (Eq t u) g = and_from _ _ (every_term_passes (p 0) h t) (every_term_passes (p 0) h u)
  ground_passes p h (Not f) g = ground_passes p h f g
  ground_passes p h (And fs) g = ground_parts p h fs g
  ground_passes p h (Or fs) g = ground_parts p h fs g
  ground_passes p h (Implies f k) g = let x = and_parts (is_ground f) (is_ground k) g in and_from _ _ (ground_passes p h f x.0) (ground_passes p h k x.1)
  ground_passes p h (Forall f) g = absurd (false≢true g)
  ground_passes p h (Exists f) g = absurd (false≢true g)

  ground_parts : (p : ℕ → Test) → Passes (p 0) → (fs : Formulas) → IsTrue (are_ground fs) → IsTrue (all_pass p 0 fs)
  ground_parts p h none g = refl
  ground_parts p h (more f fs) g = let x = and_parts (is_ground f) (are_ground fs) g in and_from _ _ (ground_passes p h f x.0) (ground_parts p h fs x.1)

all_outside : (cs : List (ColId × ColExpr)) (ts : List T.Term) → Passes (tellable cs ts 0)
unfolding tellable
all_outside cs ts = record { columns = λ c. refl; variables = λ k. refl; bounds = λ k. refl }

pub term_tellable : (cs : List (ColId × ColExpr)) (ts : List T.Term) (t : Term) → IsTrue (term_passes (tellable cs ts 0) t)
term_tellable cs ts t = every_term_passes (tellable cs ts 0) (all_outside cs ts) t

-- ---- closed terms can be put in anywhere

-- none of these terms has a bound variable
abbrev pub AreClosed : List Term → Type 0
AreClosed ts = (k : ℕ) → IsTrue (is_closed (term_at ts k))

all_closed : (ts : List T.Term) → AreClosed (map term_of ts) → (n : ℕ) → Passes (tellable [] ts n)
unfolding tellable
all_closed ts h zero = all_outside [] ts
all_closed ts h (suc n) = record { columns = λ c. refl; variables = h; bounds = λ k. refl }

pub closed_tellable : (ts : List T.Term) (f : Formula) → AreClosed (map term_of ts) → IsTrue (passes (tellable [] ts) 0 f)
closed_tellable ts f h = every_formula_passes (tellable [] ts) (all_closed ts h) 0 f

listed_closed : (ts : List T.Term) → Every (λ (t : T.Term). IsTrue (is_closed (term_of t))) ts → AreClosed (map term_of ts)
listed_closed [] h k = refl
listed_closed (t ∷ ts) h zero = h.0
listed_closed (t ∷ ts) h (suc k) = listed_closed ts h.1 k

-- an actor and its arguments, after the number of clients
pub acting_closed : (actor : T.Term) (ts : List T.Term) → IsTrue (is_closed (term_of actor)) → Every (λ (t : T.Term). IsTrue (is_closed (term_of t))) ts →
    AreClosed (Variable 0 ∷ term_of actor ∷ map term_of ts)
acting_closed actor ts a h zero = refl
acting_closed actor ts a h (suc zero) = a
acting_closed actor ts a h (suc (suc k)) = listed_closed ts h k

-- ---- outside quantifiers

pub outside_term : (cs : List (ColId × ColExpr)) (ts : List T.Term) (t : Term) → replace_term (telling_under cs ts 0) t ≡ replace_term (telling cs ts) t
unfolding telling_under
outside_term cs ts t = refl

pub outside_formula : (cs : List (ColId × ColExpr)) (ts : List T.Term) (f : Formula) → replace (telling_under cs ts 0) f ≡ replace (telling cs ts) f
unfolding telling_under
outside_formula cs ts f = refl
