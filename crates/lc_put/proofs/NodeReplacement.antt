-- What is replaced in a table stays replaced, and a node is replaced with its parts.
use Rattle.std.proofs.Common.{◌≡◌, ℕ, Bool, true, false, List, [], slice_get, Option, Some, None, is_some, cond, refl, sym, ap, ap₂, ◌∙◌, subst}
use Rattle.std.specs.Prelude.{nat_eq}
use Rattle.std.specs.Map.{lookup}
use Rattle.std.proofs.lemmas.Option.{same_Some}
use borrow.Author.Tests.{eqb-true}
use Rattle.lc_lemmas.proofs.Lists.{kept_left}
use Rattle.lc_table.specs.declared.node.TermId.{TermId}
use Rattle.lc_table.specs.declared.node.ColExprId.{ColExprId}
use Rattle.lc_table.specs.declared.node.FormulaId.{FormulaId}
use Rattle.lc_table.specs.declared.node.TermNode.{TermNode}
use Rattle.lc_table.specs.declared.node.FormulaNode.{FormulaNode}
use Rattle.lc_table.specs.Nodes.{Part, term, column, part_of, PartFits, tree_of}
use Rattle.lc_table.specs.NodeTables.{Table}
use Rattle.lc_term.specs.Replacement.{Replacement, replace, replace_term, replace_column}
use Rattle.lc_table.specs.Tables.{parts, formulas, term_in, column_in, formula_in, HasTerm, HasColumn, HasFormula, IsTerm, IsColumn, IsFormula, Keeps}
use Rattle.lc_put.specs.NodeReplacement.{as_part, part_in, replaced_part, AreReplaced}
use Rattle.lc_table.proofs.FormulaNodes.{formula-there, formula_node_eq, node_eq-tree}
use Rattle.lc_table.proofs.TermNodes.{term-there, column-there, part-kept, node_eq, node_eq-part}
use Rattle.lc_term.specs.Syntax as S
use Rattle.lc_table.proofs.Later.{term_later, column_later, formula_later, term_is, column_is, term_still}

pub part_there : (ts : Table) (k : ℕ) → is_some (slice_get (parts ts) k) ≡ true → slice_get (parts ts) k ≡ Some (part_in ts k)
part_there ts k h = by (slice_get (parts ts) k) h
  where
    by : (o : Option Part) → is_some o ≡ true → o ≡ Some (as_part o)
    by (Some p) e = refl
    by None e = cc

part_later : (old new : Table) (k : ℕ) (p : Part) → slice_get (parts old) k ≡ Some p → Keeps old new → slice_get (parts new) k ≡ Some p
part_later old new k p h kept = ap (λ l. slice_get l k) kept.parts_kept.1 ∙ kept_left (parts old) kept.parts_kept.0 k p h

-- a node at a number
pub node_later : (old new : Table) (k : ℕ) (n : TermNode) → slice_get (parts old) k ≡ Some (part_of (parts old) n) → PartFits (parts old) n → Keeps old new
    → slice_get (parts new) k ≡ Some (part_of (parts new) n)
node_later old new k n at fits kept =
    part_later old new k _ at kept ∙ ap Some (sym (ap (λ ps. part_of ps n) kept.parts_kept.1 ∙ part-kept (parts old) kept.parts_kept.0 n fits))

-- a node that is equal
pub same_nodes : (ts : List Part) (k : ℕ) (m n : TermNode) → node_eq m n ≡ true → slice_get ts k ≡ Some (part_of ts n) → slice_get ts k ≡ Some (part_of ts m)
same_nodes ts k m n h at = at ∙ ap Some (sym (node_eq-part ts m n h))

-- a formula that is equal
pub same_formula_node : (ts : Table) (k : FormulaId) (m n : FormulaNode) → formula_node_eq m n ≡ true → IsFormula ts k → formula_in ts k ≡ tree_of (parts ts) (formulas ts) m
    → HasFormula ts k (tree_of (parts ts) (formulas ts) n)
same_formula_node ts k m n h is at = formula-there (formulas ts) k is ∙ ap Some (at ∙ node_eq-tree (parts ts) (formulas ts) m n h)

-- in later tables
pub replaced_later : (r : Replacement) (old new : Table) (es : List (ℕ × ℕ)) → AreReplaced r (parts old) es → Keeps old new → AreReplaced r (parts new) es
replaced_later r old new es h kept k v found =
    let e = h k v found in (e.0, part_later old new k _ e.1 kept, part_later old new v _ e.2 kept)

pub nothing_replaced : (r : Replacement) (ts : Table) (es : List (ℕ × ℕ)) → es ≡ [] → AreReplaced r (parts ts) es
nothing_replaced r ts es e = subst (AreReplaced r (parts ts)) (sym e) (λ k v found. none v found)
  where
    none : {B : Type 0} (v : ℕ) → None ≡ Some v → B
    none v found = cc

-- what is found
pub term_replaced : (r : Replacement) (ts : Table) (es : List (ℕ × ℕ)) (k : TermId) (v : ℕ) → AreReplaced r (parts ts) es → IsTerm ts k → lookup (nat_eq k.0) es ≡ Some v
    → HasTerm ts (record { 0 = v }) (replace_term r (term_in ts k))
term_replaced r ts es k v h is found =
    let e = h k.0 v found in
    e.2 ∙ ap (λ p. Some (replaced_part r p)) (same_Some _ _ (sym e.1 ∙ term-there (parts ts) k is))

pub column_replaced : (r : Replacement) (ts : Table) (es : List (ℕ × ℕ)) (k : ColExprId) (v : ℕ) → AreReplaced r (parts ts) es → IsColumn ts k → lookup (nat_eq k.0) es ≡ Some v
    → HasColumn ts (record { 0 = v }) (replace_column r (column_in ts k))
column_replaced r ts es k v h is found =
    let e = h k.0 v found in
    e.2 ∙ ap (λ p. Some (replaced_part r p)) (same_Some _ _ (sym e.1 ∙ column-there (parts ts) k is))

-- what is made
pub term_at : (r : Replacement) (old new : Table) (k : TermId) (v : ℕ) → IsTerm old k → slice_get (parts new) v ≡ Some (replaced_part r (part_in old k.0))
    → HasTerm new (record { 0 = v }) (replace_term r (term_in old k))
term_at r old new k v is at = at ∙ ap (λ o. Some (replaced_part r (as_part o))) (term-there (parts old) k is)

pub column_at : (r : Replacement) (old new : Table) (k : ColExprId) (v : ℕ) → IsColumn old k → slice_get (parts new) v ≡ Some (replaced_part r (part_in old k.0))
    → HasColumn new (record { 0 = v }) (replace_column r (column_in old k))
column_at r old new k v is at = at ∙ ap (λ o. Some (replaced_part r (as_part o))) (column-there (parts old) k is)

-- one number more
noted : (r : Replacement) (ps : List Part) (es fs : List (ℕ × ℕ)) (k v : ℕ) (p : Part) → AreReplaced r ps es → slice_get ps k ≡ Some p → slice_get ps v ≡ Some (replaced_part r p)
    → ((q : ℕ) → lookup (nat_eq q) fs ≡ cond (nat_eq k q) (Some v) (lookup (nat_eq q) es)) → AreReplaced r ps fs
noted r ps es fs k v p h there here now q w found = by (nat_eq k q) refl
  where
    by : (b : Bool) → nat_eq k q ≡ b → (x : Part) × (slice_get ps q ≡ Some x) × (slice_get ps w ≡ Some (replaced_part r x))
    by true e =
        let same : w ≡ v = same_Some w v (sym found ∙ now q ∙ ap (λ b. cond b (Some v) (lookup (nat_eq q) es)) e) in
        (p, ap (slice_get ps) (sym (eqb-true k q e)) ∙ there, ap (slice_get ps) same ∙ here)
    by false e = h q w (sym (ap (λ b. cond b (Some v) (lookup (nat_eq q) es)) e) ∙ sym (now q) ∙ found)

pub term_noted : (r : Replacement) (old new : Table) (es fs : List (ℕ × ℕ)) (k : TermId) (v : ℕ) → IsTerm old k → Keeps old new → AreReplaced r (parts new) es
    → slice_get (parts new) v ≡ Some (replaced_part r (part_in old k.0)) → ((q : ℕ) → lookup (nat_eq q) fs ≡ cond (nat_eq k.0 q) (Some v) (lookup (nat_eq q) es)) → AreReplaced r (parts new) fs
term_noted r old new es fs k v is kept h at now =
    noted r (parts new) es fs k.0 v (term (term_in old k)) h (term_later old new k _ (term-there (parts old) k is) kept) (term_at r old new k v is at) now

pub column_noted : (r : Replacement) (old new : Table) (es fs : List (ℕ × ℕ)) (k : ColExprId) (v : ℕ) → IsColumn old k → Keeps old new → AreReplaced r (parts new) es
    → slice_get (parts new) v ≡ Some (replaced_part r (part_in old k.0)) → ((q : ℕ) → lookup (nat_eq q) fs ≡ cond (nat_eq k.0 q) (Some v) (lookup (nat_eq q) es)) → AreReplaced r (parts new) fs
column_noted r old new es fs k v is kept h at now =
    noted r (parts new) es fs k.0 v (column (column_in old k)) h (column_later old new k _ (column-there (parts old) k is) kept) (column_at r old new k v is at) now

-- ---- a node, from its parts, which are replaced one after another

pub one_term : (r : Replacement) (t0 t1 : Table) (a l : TermId) → HasTerm t1 l (replace_term r (term_in t0 a)) → term_in t1 l ≡ replace_term r (term_in t0 a)
one_term r t0 t1 a l h = term_is t1 l _ h

-- the second term is replaced in a later table, if what is put in is the same
pub second_term : (r s : Replacement) (t0 t1 t2 : Table) (b m : TermId) → s ≡ r → IsTerm t0 b → Keeps t0 t1 → HasTerm t2 m (replace_term s (term_in t1 b)) → term_in t2 m ≡ replace_term r (term_in t0 b)
second_term r s t0 t1 t2 b m same is kept h = term_is t2 m _ h ∙ ap₂ replace_term same (term_still t0 t1 b is kept)

pub first_term : (r : Replacement) (t0 t1 t2 : Table) (a l : TermId) → Keeps t1 t2 → HasTerm t1 l (replace_term r (term_in t0 a)) → term_in t2 l ≡ replace_term r (term_in t0 a)
first_term r t0 t1 t2 a l kept h = term_is t2 l _ (term_later t1 t2 l _ h kept)

pub first_column : (r : Replacement) (t0 t1 t2 : Table) (a l : ColExprId) → Keeps t1 t2 → HasColumn t1 l (replace_column r (column_in t0 a)) → column_in t2 l ≡ replace_column r (column_in t0 a)
first_column r t0 t1 t2 a l kept h = column_is t2 l _ (column_later t1 t2 l _ h kept)

-- ---- a comparison, from its terms, which are replaced

-- it stays if they stay
stays : (r : Replacement) (f : S.Term → S.Term → S.Formula) (old new : Table) (k : FormulaId) (a b : TermId) → IsFormula old k → IsTerm old a → IsTerm old b → formula_in old k ≡ f (term_in old a) (term_in old b)
    → Keeps old new → HasTerm new a (replace_term r (term_in old a)) → HasTerm new b (replace_term r (term_in old b)) → HasFormula new k (f (replace_term r (term_in old a)) (replace_term r (term_in old b)))
stays r f old new k a b is left right tree kept h g =
    let first = sym (term_still old new a left kept) ∙ term_is new a _ h in
    let second = sym (term_still old new b right kept) ∙ term_is new b _ g in
    formula_later old new k _ (formula-there (formulas old) k is) kept ∙ ap Some (tree ∙ ap₂ f first second)

pub le_stays : (r : Replacement) (old new : Table) (k : FormulaId) (a b : TermId) → IsFormula old k → IsTerm old a → IsTerm old b → formula_in old k ≡ S.Le (term_in old a) (term_in old b)
    → Keeps old new → HasTerm new a (replace_term r (term_in old a)) → HasTerm new b (replace_term r (term_in old b)) → HasFormula new k (replace r (formula_in old k))
le_stays r old new k a b is left right tree kept h g = stays r S.Le old new k a b is left right tree kept h g ∙ ap (λ f. Some (replace r f)) (sym tree)

pub eq_stays : (r : Replacement) (old new : Table) (k : FormulaId) (a b : TermId) → IsFormula old k → IsTerm old a → IsTerm old b → formula_in old k ≡ S.Eq (term_in old a) (term_in old b)
    → Keeps old new → HasTerm new a (replace_term r (term_in old a)) → HasTerm new b (replace_term r (term_in old b)) → HasFormula new k (replace r (formula_in old k))
eq_stays r old new k a b is left right tree kept h g = stays r S.Eq old new k a b is left right tree kept h g ∙ ap (λ f. Some (replace r f)) (sym tree)

-- it is made of what they become
pub le_made : (r : Replacement) (old mid new : Table) (k v : FormulaId) (a b l m : TermId) → formula_in old k ≡ S.Le (term_in old a) (term_in old b)
    → HasTerm mid l (replace_term r (term_in old a)) → HasTerm mid m (replace_term r (term_in old b)) → HasFormula new v (S.Le (term_in mid l) (term_in mid m)) → HasFormula new v (replace r (formula_in old k))
le_made r old mid new k v a b l m tree h g at = at ∙ ap Some (ap₂ S.Le (term_is mid l _ h) (term_is mid m _ g) ∙ ap (replace r) (sym tree))

pub eq_made : (r : Replacement) (old mid new : Table) (k v : FormulaId) (a b l m : TermId) → formula_in old k ≡ S.Eq (term_in old a) (term_in old b)
    → HasTerm mid l (replace_term r (term_in old a)) → HasTerm mid m (replace_term r (term_in old b)) → HasFormula new v (S.Eq (term_in mid l) (term_in mid m)) → HasFormula new v (replace r (formula_in old k))
eq_made r old mid new k v a b l m tree h g at = at ∙ ap Some (ap₂ S.Eq (term_is mid l _ h) (term_is mid m _ g) ∙ ap (replace r) (sym tree))
