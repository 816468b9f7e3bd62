-- What a walk over a table puts in at a leaf.
use Rattle.std.proofs.Common.{◌≡◌, ℕ, ◌+◌, ◌-◌, ◌<◌, ◌≤◌, List, slice_get, Some, ◌⊎◌, inl, inr, refl, subst, sym, ap, ◌∙◌}
use Rattle.std.specs.Prelude.{◌≢◌}
use Rattle.lc_table.specs.Nodes.{term, column}
use Rattle.lc_table.specs.NodeTables.{Table}
use Rattle.lc_base.specs.declared.ids.ColId.{ColId}
use Rattle.lc_table.specs.declared.node.TermId.{TermId}
use Rattle.lc_table.specs.declared.node.ColExprId.{ColExprId}
use Rattle.lc_put.specs.declared.filling.Filling.{Filling}
use Rattle.lc_put.specs.declared.filling.Filling.TheVariants.{Put, Numbers, Variable, Opening, Shift}
use Rattle.lc_put.specs.declared.put.Put.{Put as PutIn}
use Rattle.lc_put.specs.declared.put_numbers.PutNumbers.{PutNumbers}
use Rattle.lc_put.specs.Filling.{IsFilled}
use Rattle.lc_put.specs.Put.{replacement_of}
use Rattle.lc_put.specs.PutNumbers.{columns_at, terms_in, replacement_at}
use Rattle.lc_term.specs.Replacement.{Replacement, replace_column, under_many}
use Rattle.lc_term.specs.Said.{term_at}
use Rattle.lc_term.specs.Substitution.{putting, opening, shifting, shifted_term}
use Rattle.lc_term.specs.Syntax as S
use Rattle.lc_table.specs.Tables.{parts, term_in, HasTerm}
use Rattle.lc_table.proofs.Later.{term_is}
use Rattle.lc_term.proofs.Under.{under_many-columns, under_many-variables, under_many-bounds, under_many-column, under_many-variable, under_many-putting-same, under_many-putting-other, under_many-opening-here, under_many-opening-inside, under_many-opening-outside, under_many-shifting-inside, under_many-shifting-outside}

-- what a replacement keeps stays below quantifiers
pub column_stays : (r s : Replacement) (d : ℕ) (ts : Table) (k c : ℕ) → r ≡ s → s.columns c ≡ S.Base c → slice_get (parts ts) k ≡ Some (column (S.Base c))
    → slice_get (parts ts) k ≡ Some (column ((under_many d r).columns c))
column_stays r s d ts k c same stays at = at ∙ ap (λ x. Some (column x)) (sym (under_many-columns d r c (ap (λ (x : Replacement). x.columns c) same ∙ stays)))

pub variable_stays : (r s : Replacement) (d : ℕ) (ts : Table) (k v : ℕ) → r ≡ s → s.variables v ≡ S.Variable v → slice_get (parts ts) k ≡ Some (term (S.Variable v))
    → slice_get (parts ts) k ≡ Some (term ((under_many d r).variables v))
variable_stays r s d ts k v same stays at = at ∙ ap (λ x. Some (term x)) (sym (under_many-variables d r v (ap (λ (x : Replacement). x.variables v) same ∙ stays)))

pub bound_stays : (r s : Replacement) (d : ℕ) (ts : Table) (k b : ℕ) → r ≡ s → ((n : ℕ) → s.bounds n ≡ S.Bound n) → slice_get (parts ts) k ≡ Some (term (S.Bound b))
    → slice_get (parts ts) k ≡ Some (term ((under_many d r).bounds b))
bound_stays r s d ts k b same stays at = at ∙ ap (λ x. Some (term x)) (sym (under_many-bounds d r (λ n. ap (λ (x : Replacement). x.bounds n) same ∙ stays n) b))

-- what puts in nothing for columns, for variables, for bound variables
pub column_unput : (put : Filling) (r : Replacement) (d : ℕ) (ts : Table) (k c : ℕ)
    → ((v : ℕ) × (u : TermId) × (put ≡ Variable v u)) ⊎ (((u : TermId) × (put ≡ Opening u)) ⊎ ((a : ℕ) × (n : ℕ) × (put ≡ Shift a n)))
    → IsFilled put ts r → slice_get (parts ts) k ≡ Some (column (S.Base c)) → slice_get (parts ts) k ≡ Some (column ((under_many d r).columns c))
column_unput put r d ts k c (inl is) h at = let filled = subst (λ p. IsFilled p ts r) is.2 h in column_stays r (putting is.0 filled.0) d ts k c filled.2 refl at
column_unput put r d ts k c (inr (inl is)) h at = let filled = subst (λ p. IsFilled p ts r) is.1 h in column_stays r (opening filled.0) d ts k c filled.2 refl at
column_unput put r d ts k c (inr (inr is)) h at = column_stays r (shifting is.0 is.1) d ts k c (subst (λ p. IsFilled p ts r) is.2 h) refl at

pub variable_unput : (put : Filling) (r : Replacement) (d : ℕ) (ts : Table) (k v : ℕ) → ((u : TermId) × (put ≡ Opening u)) ⊎ ((a : ℕ) × (n : ℕ) × (put ≡ Shift a n))
    → IsFilled put ts r → slice_get (parts ts) k ≡ Some (term (S.Variable v)) → slice_get (parts ts) k ≡ Some (term ((under_many d r).variables v))
variable_unput put r d ts k v (inl is) h at = let filled = subst (λ p. IsFilled p ts r) is.1 h in variable_stays r (opening filled.0) d ts k v filled.2 refl at
variable_unput put r d ts k v (inr is) h at = variable_stays r (shifting is.0 is.1) d ts k v (subst (λ p. IsFilled p ts r) is.2 h) refl at

pub bound_unput : (put : Filling) (r : Replacement) (d : ℕ) (ts : Table) (k b : ℕ)
    → ((p : PutIn) × (put ≡ Put p)) ⊎ (((p : PutNumbers) × (put ≡ Numbers p)) ⊎ ((v : ℕ) × (u : TermId) × (put ≡ Variable v u)))
    → IsFilled put ts r → slice_get (parts ts) k ≡ Some (term (S.Bound b)) → slice_get (parts ts) k ≡ Some (term ((under_many d r).bounds b))
bound_unput put r d ts k b (inl is) h at = bound_stays r (replacement_of is.0) d ts k b (subst (λ p. IsFilled p ts r) is.1 h) (λ n. refl) at
bound_unput put r d ts k b (inr (inl is)) h at =
    let filled = subst (λ p. IsFilled p ts r) is.1 h in bound_stays r (replacement_at ts is.0.columns.now is.0.variables.now) d ts k b filled.2 (λ n. refl) at
bound_unput put r d ts k b (inr (inr is)) h at = let filled = subst (λ p. IsFilled p ts r) is.2 h in bound_stays r (putting is.0 filled.0) d ts k b filled.2 (λ n. refl) at

-- what is put in by number, below as many quantifiers
pub numbered_column : (r : Replacement) (old new : Table) (d : ℕ) (ps : List (ColId × ColExprId)) (ks : List TermId) (k c : ℕ) → r ≡ replacement_at old ps ks
    → slice_get (parts new) k ≡ Some (column (replace_column (shifting d 0) (columns_at old ps c))) → slice_get (parts new) k ≡ Some (column ((under_many d r).columns c))
numbered_column r old new d ps ks k c same at =
    at ∙ ap (λ x. Some (column x)) (sym (ap (λ x. (under_many d x).columns c) same ∙ under_many-column d (replacement_at old ps ks) c))

pub numbered_variable : (r : Replacement) (old new : Table) (d : ℕ) (ps : List (ColId × ColExprId)) (ks : List TermId) (k v : ℕ) → r ≡ replacement_at old ps ks
    → slice_get (parts new) k ≡ Some (term (shifted_term d 0 (term_at (terms_in old ks) v))) → slice_get (parts new) k ≡ Some (term ((under_many d r).variables v))
numbered_variable r old new d ps ks k v same at =
    at ∙ ap (λ x. Some (term x)) (sym (ap (λ x. (under_many d x).variables v) same ∙ under_many-variable d (replacement_at old ps ks) v))

-- a term for a free variable
pub putting_here : (r : Replacement) (d : ℕ) (old new : Table) (t k : TermId) (u : S.Term) (v b : ℕ) → r ≡ putting v u → HasTerm old t u → b ≡ v
    → HasTerm new k (shifted_term d 0 (term_in old t)) → slice_get (parts new) k.0 ≡ Some (term ((under_many d r).variables b))
putting_here r d old new t k u v b same is e at =
    at ∙ ap (λ x. Some (term (shifted_term d 0 x))) (term_is old t u is) ∙ ap (λ x. Some (term x)) (sym (ap (λ x. (under_many d x).variables b) same ∙ under_many-putting-same v d b u e))

pub putting_elsewhere : (r : Replacement) (d : ℕ) (ts : Table) (k : ℕ) (u : S.Term) (v b : ℕ) → r ≡ putting v u → b ≢ v
    → slice_get (parts ts) k ≡ Some (term (S.Variable b)) → slice_get (parts ts) k ≡ Some (term ((under_many d r).variables b))
putting_elsewhere r d ts k u v b same e at = at ∙ ap (λ x. Some (term x)) (sym (ap (λ x. (under_many d x).variables b) same ∙ under_many-putting-other v d b u e))

-- a term for the variable of the quantifier around the formula
pub opening_here : (r : Replacement) (d : ℕ) (old new : Table) (t k : TermId) (u : S.Term) (b : ℕ) → r ≡ opening u → HasTerm old t u → b ≡ d
    → HasTerm new k (shifted_term d 0 (term_in old t)) → slice_get (parts new) k.0 ≡ Some (term ((under_many d r).bounds b))
opening_here r d old new t k u b same is e at =
    at ∙ ap (λ x. Some (term (shifted_term d 0 x))) (term_is old t u is)
    ∙ ap (λ x. Some (term x)) (sym (ap (λ x. (under_many d x).bounds b) same ∙ ap (under_many d (opening u)).bounds e ∙ under_many-opening-here u d))

pub opening_inside : (r : Replacement) (d : ℕ) (ts : Table) (k : ℕ) (u : S.Term) (b : ℕ) → r ≡ opening u → b < d
    → slice_get (parts ts) k ≡ Some (term (S.Bound b)) → slice_get (parts ts) k ≡ Some (term ((under_many d r).bounds b))
opening_inside r d ts k u b same e at = at ∙ ap (λ x. Some (term x)) (sym (ap (λ x. (under_many d x).bounds b) same ∙ under_many-opening-inside u d b e))

pub opening_outside : (r : Replacement) (d : ℕ) (ts : Table) (k : ℕ) (u : S.Term) (b : ℕ) → r ≡ opening u → d < b
    → slice_get (parts ts) k ≡ Some (term (S.Bound (b - 1))) → slice_get (parts ts) k ≡ Some (term ((under_many d r).bounds b))
opening_outside r d ts k u b same e at = at ∙ ap (λ x. Some (term x)) (sym (ap (λ x. (under_many d x).bounds b) same ∙ under_many-opening-outside u d b e))

-- bound variables moved
pub shifting_inside : (r : Replacement) (d : ℕ) (ts : Table) (k a c b : ℕ) → r ≡ shifting a c → b < c + d
    → slice_get (parts ts) k ≡ Some (term (S.Bound b)) → slice_get (parts ts) k ≡ Some (term ((under_many d r).bounds b))
shifting_inside r d ts k a c b same e at = at ∙ ap (λ x. Some (term x)) (sym (ap (λ x. (under_many d x).bounds b) same ∙ under_many-shifting-inside a c d b e))

pub shifting_outside : (r : Replacement) (d : ℕ) (ts : Table) (k a c b : ℕ) → r ≡ shifting a c → c + d ≤ b
    → slice_get (parts ts) k ≡ Some (term (S.Bound (b + a))) → slice_get (parts ts) k ≡ Some (term ((under_many d r).bounds b))
shifting_outside r d ts k a c b same e at = at ∙ ap (λ x. Some (term x)) (sym (ap (λ x. (under_many d x).bounds b) same ∙ under_many-shifting-outside a c d b e))
