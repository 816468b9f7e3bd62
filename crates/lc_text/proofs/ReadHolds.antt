-- What holds of all terms and formulas that are read where no quantifier and no column expression but a name is allowed.
use Rattle.std.proofs.Common.{◌≡◌, ℕ, ◌+◌, Bool, true, false, cond, List, [], Option, Some, None, IfSome}
use Rattle.std.specs.Prelude.{ℤ}
use Rattle.lc_base.specs.NameText.{is_name}
use Rattle.lc_sexp.specs.Trees.{Tree, Trees, atom, list, none, ◌▸◌, item_count}
use Rattle.lc_sexp.specs.Parts.{Fit, fits, misshapen, beyond, integer_fit}
use Rattle.lc_text.specs.Names.{Names}
use Rattle.lc_term.specs.Syntax as T
use Rattle.lc_term.specs.Syntax.{Term, Column, Formula, Formulas}
use Rattle.lc_text.specs.declared.scope.ColumnUse.{ColumnUse}
use Rattle.lc_text.specs.declared.scope.ColumnUse.TheVariants.{Usable, Misplaced, Hidden, Undeclared}
use Rattle.lc_text.specs.declared.scope.Extra.{Extra}
use Rattle.lc_text.specs.declared.scope.Extra.TheVariants.{Quantifiers, BuiltColumns, NumberedVariables}
use Rattle.lc_reading.proofs.Holding.{Holds, holds_unit, mapped_holds, both_holds, ended_holds, if_holds}
use Rattle.lc_reading.specs.Naming.{within}
use Rattle.lc_reading.specs.Readings.{Reading, wrong}
use Rattle.lc_reading.specs.Words.{is_long}
use Rattle.lc_reading.specs.declared.pass.Pass.{Pass}
use Rattle.lc_text.specs.Formulas.{formula_reading, only_reading, both_reading, body_reading, formulas_reading, connective_reading, comparison_of, joined_by, implication_of}
use Rattle.lc_text.specs.Heads.{operation_of, built_of, connective_of, allowed}
use Rattle.lc_text.specs.Terms.{pair, number_reading, number_or, bound_or_free, word_reading, atom_reading, used, built_reading, operation_reading, sum_of, product_of, access_of, term_reading, terms_reading, product_reading, access_reading, column_reading, numbers_reading, store_reading}
use Rattle.lc_text.specs.declared.words.Operation.{Operation}
use Rattle.lc_text.specs.declared.words.Operation.TheVariants as O
use Rattle.lc_text.specs.declared.words.Built.{Built}
use Rattle.lc_text.specs.declared.words.Connective.{Connective}
use Rattle.lc_text.specs.declared.words.Connective.TheVariants as W

-- of a column that may be used
abbrev pub OfUsable : (Column → Type 0) → ColumnUse → Type 0
OfUsable C (Usable c) = C (T.Base c.0)
OfUsable C _ = Unit {0}

-- It holds of what these names stand for, and of all that is built of that
pub record Kept (names : Names) (P : Term → Type 0) (C : Column → Type 0) (F : Formula → Type 0) (G : Formulas → Type 0) : Type 0 where
  pub plain : (extra : Extra) → names.allows extra ≡ false
  pub variables : (w : List ℕ) → IfSome (names.variable w) (λ k. P (T.Variable k))
  pub columns : (w : List ℕ) → OfUsable C (names.column w)
  pub numbers : (z : ℤ) → P (T.Number z)
  pub sums : (t u : Term) → P t → P u → P (T.Add t u)
  pub differences : (t u : Term) → P t → P u → P (T.Subtract t u)
  pub multiples : (z : ℤ) (t : Term) → P t → P (T.Multiply z t)
  pub reads : (c : Column) (t : Term) → C c → P t → P (T.Read c t)
  pub orders : (t u : Term) → P t → P u → F (T.Le t u)
  pub equations : (t u : Term) → P t → P u → F (T.Eq t u)
  pub negations : (f : Formula) → F f → F (T.Not f)
  pub conjunctions : (fs : Formulas) → G fs → F (T.And fs)
  pub disjunctions : (fs : Formulas) → G fs → F (T.Or fs)
  pub implications : (f g : Formula) → F f → F g → F (T.Implies f g)
  pub no_parts : G T.none
  pub more_parts : (f : Formula) (fs : Formulas) → F f → G fs → G (T.more f fs)

-- what is allowed only at some places, and not here
nothing : {X : Type 0} (P : X → Type 0) (pass : Pass) (n : ℕ) (b : Bool) (r : Reading X) → b ≡ false → Holds P (cond b r (wrong pass n))
nothing P pass n true r e = absurd (cc)
nothing P pass n false r e = tt

within_holds : {X : Type 0} (P : X → Type 0) (n : ℕ) (w : List ℕ) (x : X) → P x → Holds P (within n w x)
within_holds P n w x h = if_holds P (is_long w) (wrong _ n) _ tt h

free_holds : (P : Term → Type 0) (n : ℕ) (w : List ℕ) (o : Option ℕ) → IfSome o (λ k. P (T.Variable k)) → Holds P (bound_or_free n w None o)
free_holds P n w None h = tt
free_holds P n w (Some k) h = within_holds P n w (T.Variable k) h

number_holds : (P : Term → Type 0) (n : ℕ) (f : Fit ℤ) (r : Reading Term) → ((z : ℤ) → P (T.Number z)) → Holds P r → Holds P (number_or n f r)
number_holds P n (fits z) r h g = h z
number_holds P n beyond r h g = tt
number_holds P n misshapen r h g = g

atom_holds : (names : Names) (P : Term → Type 0) (C : Column → Type 0) (F : Formula → Type 0) (G : Formulas → Type 0) → Kept names P C F G → (n : ℕ) (w : List ℕ) → Holds P (atom_reading names [] n w)
atom_holds names P C F G all n w =
    number_holds P n (integer_fit (atom w)) (word_reading names [] n w) all.numbers
    (if_holds P (is_name w) _ _ (free_holds P n w (names.variable w) (all.variables w)) (nothing P _ n (names.allows NumberedVariables) _ (all.plain NumberedVariables)))

used_holds : (C : Column → Type 0) (u : ColumnUse) (reader n : ℕ) (w : List ℕ) → OfUsable C u → Holds C (used u reader n w)
used_holds C Misplaced reader n w h = tt
used_holds C Undeclared reader n w h = if_holds C (is_name w) (wrong _ n) (wrong _ n) tt tt
used_holds C Hidden reader n w h = if_holds C (is_name w) (wrong _ reader) (wrong _ n) tt tt
used_holds C (Usable c) reader n w h = if_holds C (is_name w) _ (wrong _ n) (within_holds C n w (T.Base c.0) h) tt

-- no column is built
not_built : (C : Column → Type 0) (n : ℕ) (b : Bool) (o : Option Built) (numbers : Reading (ℤ × ℤ)) (store : Reading ((Column × Term) × Term)) → b ≡ false → Holds C (built_reading n (cond b o None) numbers store)
not_built C n true o numbers store e = absurd (cc)
not_built C n false o numbers store e = tt

column_holds : (names : Names) (P : Term → Type 0) (C : Column → Type 0) (F : Formula → Type 0) (G : Formulas → Type 0) → Kept names P C F G → (reader n : ℕ) (t : Tree) → Holds C (column_reading names [] reader n t)
column_holds names P C F G all reader n (atom w) = used_holds C (names.column w) reader n w (all.columns w)
column_holds names P C F G all reader n (list none) = tt
column_holds names P C F G all reader n (list (list us ▸ ts)) = tt
column_holds names P C F G all reader n (list (atom w ▸ ts)) =
    not_built C n (names.allows BuiltColumns) (built_of w) (numbers_reading n (n + 2) ts) (store_reading names [] n (n + 2) ts) (all.plain BuiltColumns)

operation_holds : (names : Names) (P : Term → Type 0) (C : Column → Type 0) (F : Formula → Type 0) (G : Formulas → Type 0) → Kept names P C F G → (n : ℕ) (o : Option Operation)
    (terms : Reading (Term × Term)) (product : Reading (ℤ × Term)) (access : Reading (Column × Term))
    → Holds (λ p. P p.0 × P p.1) terms → Holds (λ p. P p.1) product → Holds (λ p. C p.0 × P p.1) access → Holds P (operation_reading n o terms product access)
operation_holds names P C F G all n None terms product access h g k = tt
operation_holds names P C F G all n (Some O.Add) terms product access h g k = mapped_holds (λ p. P p.0 × P p.1) P (sum_of O.Add) terms h (λ p u. all.sums p.0 p.1 u.0 u.1)
operation_holds names P C F G all n (Some O.Subtract) terms product access h g k = mapped_holds (λ p. P p.0 × P p.1) P (sum_of O.Subtract) terms h (λ p u. all.differences p.0 p.1 u.0 u.1)
operation_holds names P C F G all n (Some O.Multiply) terms product access h g k = mapped_holds (λ p. P p.1) P product_of product g (λ p u. all.multiples p.0 p.1 u)
operation_holds names P C F G all n (Some O.Read) terms product access h g k = mapped_holds (λ p. C p.0 × P p.1) P access_of access k (λ p u. all.reads p.0 p.1 u.0 u.1)

mutual
  pub term_holds : (names : Names) (P : Term → Type 0) (C : Column → Type 0) (F : Formula → Type 0) (G : Formulas → Type 0) → Kept names P C F G → (n : ℕ) (t : Tree) → Holds P (term_reading names [] n t)
  term_holds names P C F G all n (atom w) = atom_holds names P C F G all n w
  term_holds names P C F G all n (list none) = tt
  term_holds names P C F G all n (list (list us ▸ ts)) = tt
  term_holds names P C F G all n (list (atom w ▸ ts)) =
      operation_holds names P C F G all n (operation_of w) (terms_reading names [] n (n + 2) ts) (product_reading names [] n (n + 2) ts) (access_reading names [] n (n + 2) ts)
      (terms_hold names P C F G all n (n + 2) ts) (product_holds names P C F G all n (n + 2) ts) (access_holds names P C F G all n (n + 2) ts)

  pub terms_hold : (names : Names) (P : Term → Type 0) (C : Column → Type 0) (F : Formula → Type 0) (G : Formulas → Type 0) → Kept names P C F G → (n m : ℕ) (ts : Trees) → Holds (λ p. P p.0 × P p.1) (terms_reading names [] n m ts)
  terms_hold names P C F G all n m none = tt
  terms_hold names P C F G all n m (t ▸ none) = tt
  terms_hold names P C F G all n m (t ▸ u ▸ ts) =
      ended_holds (λ (p : Term × Term). P p.0 × P p.1) _ ts _
      (both_holds P P (λ (p : Term × Term). P p.0 × P p.1) pair _ _ (term_holds names P C F G all m t) (term_holds names P C F G all (m + item_count t) u) (λ x y h g. (h, g)))

  pub product_holds : (names : Names) (P : Term → Type 0) (C : Column → Type 0) (F : Formula → Type 0) (G : Formulas → Type 0) → Kept names P C F G → (n m : ℕ) (ts : Trees) → Holds (λ p. P p.1) (product_reading names [] n m ts)
  product_holds names P C F G all n m none = tt
  product_holds names P C F G all n m (t ▸ none) = tt
  product_holds names P C F G all n m (t ▸ u ▸ ts) =
      ended_holds (λ (p : ℤ × Term). P p.1) _ ts _
      (both_holds (λ (z : ℤ). Unit {0}) P (λ (p : ℤ × Term). P p.1) pair _ _ (holds_unit (number_reading m t)) (term_holds names P C F G all (m + item_count t) u) (λ x y h g. g))

  pub access_holds : (names : Names) (P : Term → Type 0) (C : Column → Type 0) (F : Formula → Type 0) (G : Formulas → Type 0) → Kept names P C F G → (n m : ℕ) (ts : Trees) → Holds (λ p. C p.0 × P p.1) (access_reading names [] n m ts)
  access_holds names P C F G all n m none = tt
  access_holds names P C F G all n m (t ▸ none) = tt
  access_holds names P C F G all n m (t ▸ u ▸ ts) =
      ended_holds (λ (p : Column × Term). C p.0 × P p.1) _ ts _
      (both_holds C P (λ (p : Column × Term). C p.0 × P p.1) pair _ _ (column_holds names P C F G all n m t) (term_holds names P C F G all (m + item_count t) u) (λ x y h g. (h, g)))

connective_holds : (names : Names) (P : Term → Type 0) (C : Column → Type 0) (F : Formula → Type 0) (G : Formulas → Type 0) → Kept names P C F G → (n : ℕ) (q : Bool) → q ≡ false → (o : Option Connective)
    (terms : Reading (Term × Term)) (one : Reading Formula) (any : Reading Formulas) (two : Reading (Formula × Formula)) (body : Reading Formula)
    → Holds (λ p. P p.0 × P p.1) terms → Holds F one → Holds G any → Holds (λ p. F p.0 × F p.1) two → Holds F (connective_reading n (allowed q o) terms one any two body)
connective_holds names P C F G all n q e None terms one any two body h g i k = tt
connective_holds names P C F G all n q e (Some W.Le) terms one any two body h g i k = mapped_holds (λ p. P p.0 × P p.1) F (comparison_of W.Le) terms h (λ p u. all.orders p.0 p.1 u.0 u.1)
connective_holds names P C F G all n q e (Some W.Eq) terms one any two body h g i k = mapped_holds (λ p. P p.0 × P p.1) F (comparison_of W.Eq) terms h (λ p u. all.equations p.0 p.1 u.0 u.1)
connective_holds names P C F G all n q e (Some W.Not) terms one any two body h g i k = mapped_holds F F T.Not one g all.negations
connective_holds names P C F G all n q e (Some W.And) terms one any two body h g i k = mapped_holds G F (joined_by W.And) any i all.conjunctions
connective_holds names P C F G all n q e (Some W.Or) terms one any two body h g i k = mapped_holds G F (joined_by W.Or) any i all.disjunctions
connective_holds names P C F G all n q e (Some W.Implies) terms one any two body h g i k = mapped_holds (λ p. F p.0 × F p.1) F implication_of two k (λ p u. all.implications p.0 p.1 u.0 u.1)
connective_holds names P C F G all n true e (Some W.Forall) terms one any two body h g i k = absurd (cc)
connective_holds names P C F G all n false e (Some W.Forall) terms one any two body h g i k = tt
connective_holds names P C F G all n true e (Some W.Exists) terms one any two body h g i k = absurd (cc)
connective_holds names P C F G all n false e (Some W.Exists) terms one any two body h g i k = tt

mutual
  pub formula_holds : (names : Names) (P : Term → Type 0) (C : Column → Type 0) (F : Formula → Type 0) (G : Formulas → Type 0) → Kept names P C F G → (n : ℕ) (t : Tree) → Holds F (formula_reading names [] n t)
  formula_holds names P C F G all n (atom w) = tt
  formula_holds names P C F G all n (list none) = tt
  formula_holds names P C F G all n (list (list us ▸ ts)) = tt
  formula_holds names P C F G all n (list (atom w ▸ ts)) =
      connective_holds names P C F G all n (names.allows Quantifiers) (all.plain Quantifiers) (connective_of w)
      (terms_reading names [] n (n + 2) ts) (only_reading names [] n (n + 2) ts) (formulas_reading names [] (n + 2) ts) (both_reading names [] n (n + 2) ts) (body_reading names [] n (n + 2) ts)
      (terms_hold names P C F G all n (n + 2) ts) (only_holds names P C F G all n (n + 2) ts) (formulas_hold names P C F G all (n + 2) ts) (both_hold names P C F G all n (n + 2) ts)

  only_holds : (names : Names) (P : Term → Type 0) (C : Column → Type 0) (F : Formula → Type 0) (G : Formulas → Type 0) → Kept names P C F G → (n m : ℕ) (ts : Trees) → Holds F (only_reading names [] n m ts)
  only_holds names P C F G all n m none = tt
  only_holds names P C F G all n m (t ▸ ts) = ended_holds F _ ts _ (formula_holds names P C F G all m t)

  both_hold : (names : Names) (P : Term → Type 0) (C : Column → Type 0) (F : Formula → Type 0) (G : Formulas → Type 0) → Kept names P C F G → (n m : ℕ) (ts : Trees) → Holds (λ p. F p.0 × F p.1) (both_reading names [] n m ts)
  both_hold names P C F G all n m none = tt
  both_hold names P C F G all n m (t ▸ none) = tt
  both_hold names P C F G all n m (t ▸ u ▸ ts) =
      ended_holds (λ (p : Formula × Formula). F p.0 × F p.1) _ ts _
      (both_holds F F (λ (p : Formula × Formula). F p.0 × F p.1) pair _ _ (formula_holds names P C F G all m t) (formula_holds names P C F G all (m + item_count t) u) (λ x y h g. (h, g)))

  pub formulas_hold : (names : Names) (P : Term → Type 0) (C : Column → Type 0) (F : Formula → Type 0) (G : Formulas → Type 0) → Kept names P C F G → (m : ℕ) (ts : Trees) → Holds G (formulas_reading names [] m ts)
  formulas_hold names P C F G all m none = all.no_parts
  formulas_hold names P C F G all m (t ▸ ts) =
      both_holds F G G T.more (formula_reading names [] m t) (formulas_reading names [] (m + item_count t) ts) (formula_holds names P C F G all m t) (formulas_hold names P C F G all (m + item_count t) ts) all.more_parts
