-- One node more in a table of terms.
use Rattle.std.proofs.Common.{◌≡◌, ℕ, true, List, [], ◌∷◌, ◌++◌, slice_get, Option, Some, None, refl, sym, ap, ap₂, ◌∙◌, subst, append-nil, is_some, length, ◌+◌, ◌<◌, arith}
use Rattle.indexmap.specs.IndexSet.{insert_key}
use Rattle.lc_lemmas.proofs.Lists.{element_within}
use Rattle.lc_term.specs.Syntax as S
use Rattle.lc_table.specs.declared.node.TermNode.{TermNode}
use Rattle.lc_table.specs.declared.node.FormulaNode.{FormulaNode}
use Rattle.lc_table.specs.declared.node.FormulaNode.TheVariants.{Le, Eq, Not, And, Or, Implies, Forall, Exists}
use Rattle.lc_table.specs.Rows.{grow, trees, Built, AreDistinct, Extends}
use Rattle.lc_table.specs.Nodes.{Part, part_of, PartFits, PartBelow, tree_of, TreeFits, as_formula, PartsBelow}
use Rattle.lc_table.specs.NodeTables.{Table, parts_of, formulas_of, IsPartTable, IsFormulaTable, IsNodeTable}
use Rattle.lc_table.specs.Tables.{parts, formulas, formula_in, IsFormula, Keeps}
use Rattle.lc_table.specs.declared.node.FormulaId.{FormulaId}
use Rattle.std.proofs.lemmas.Option.{slice_get_within}
use Rattle.lc_table.proofs.Rows as rows
use Rattle.lc_table.proofs.TermNodes.{some-there, part_below, node_eq, part-kept, part_fits-kept, node_eq-part, part-node_eq, term-kept, is_term-kept}
use Rattle.lc_table.proofs.FormulaNodes.{formula_node_eq, tree-kept, tree_fits-kept, node_eq-tree, tree-node_eq, formula-there, same_formula, parts_below}

-- what an insert of a term leaves
abbrev pub PartEntered : List TermNode → List TermNode → TermNode → ℕ → Type 0
PartEntered ns ms n k = rows.Entered part_of PartFits part-kept part_fits-kept node_eq node_eq-part part-node_eq ns ms n k

pub part_entered : (ns ms : List TermNode) (n m : TermNode) (k : ℕ) → IsPartTable ns → PartFits (parts_of ns) n → ms ≡ insert_key node_eq ns n
    → slice_get ms k ≡ Some m → node_eq n m ≡ true → PartEntered ns ms n k
part_entered = rows.entered part_of PartFits part-kept part_fits-kept node_eq node_eq-part part-node_eq

-- what an insert of a formula leaves
module _ (ns : List TermNode) (table : IsPartTable ns) where
  abbrev pub FormulaEntered : List FormulaNode → List FormulaNode → FormulaNode → ℕ → Type 0
  FormulaEntered xs ys n k =
      rows.Entered (tree_of (parts_of ns)) (TreeFits (parts_of ns)) (tree-kept (parts_of ns)) (tree_fits-kept (parts_of ns)) formula_node_eq (node_eq-tree (parts_of ns)) (tree-node_eq (parts_of ns) table.distinct) xs ys n k

  pub formula_entered : (xs ys : List FormulaNode) (n m : FormulaNode) (k : ℕ) → IsFormulaTable ns xs → TreeFits (parts_of ns) (formulas_of ns xs) n
      → ys ≡ insert_key formula_node_eq xs n → slice_get ys k ≡ Some m → formula_node_eq n m ≡ true → FormulaEntered xs ys n k
  formula_entered =
      rows.entered (tree_of (parts_of ns)) (TreeFits (parts_of ns)) (tree-kept (parts_of ns)) (tree_fits-kept (parts_of ns)) formula_node_eq (node_eq-tree (parts_of ns)) (tree-node_eq (parts_of ns) table.distinct)

-- formulas over more terms
tree-later : (ps us : List Part) (ts : List S.Formula) (n : FormulaNode) → TreeFits ps ts n → tree_of (ps ++ us) ts n ≡ tree_of ps ts n
tree-later ps us ts (Le a b) f = ap₂ S.Le (term-kept ps us a f.0) (term-kept ps us b f.1)
tree-later ps us ts (Eq a b) f = ap₂ S.Eq (term-kept ps us a f.0) (term-kept ps us b f.1)
tree-later ps us ts (Not g) f = refl
tree-later ps us ts (And gs) f = refl
tree-later ps us ts (Or gs) f = refl
tree-later ps us ts (Implies g h) f = refl
tree-later ps us ts (Forall g) f = refl
tree-later ps us ts (Exists g) f = refl

fits-later : (ps us : List Part) (ts : List S.Formula) (n : FormulaNode) → TreeFits ps ts n → TreeFits (ps ++ us) ts n
fits-later ps us ts (Le a b) f = (is_term-kept ps us a f.0, is_term-kept ps us b f.1)
fits-later ps us ts (Eq a b) f = (is_term-kept ps us a f.0, is_term-kept ps us b f.1)
fits-later ps us ts (Not g) f = f
fits-later ps us ts (And gs) f = f
fits-later ps us ts (Or gs) f = f
fits-later ps us ts (Implies g h) f = f
fits-later ps us ts (Forall g) f = f
fits-later ps us ts (Exists g) f = f

grow-later : (ps us : List Part) (ts : List S.Formula) (xs : List FormulaNode) → Built (tree_of ps) (TreeFits ps) ts xs → grow (tree_of (ps ++ us)) ts xs ≡ grow (tree_of ps) ts xs
grow-later ps us ts [] b = refl
grow-later ps us ts (x ∷ xs) b =
    ap (λ t. grow (tree_of (ps ++ us)) (ts ++ t ∷ []) xs) (tree-later ps us ts x b.0) ∙ grow-later ps us (ts ++ tree_of ps ts x ∷ []) xs b.1

built-later : (ps us : List Part) (ts : List S.Formula) (xs : List FormulaNode) → Built (tree_of ps) (TreeFits ps) ts xs → Built (tree_of (ps ++ us)) (TreeFits (ps ++ us)) ts xs
built-later ps us ts [] b = tt
built-later ps us ts (x ∷ xs) b =
    (fits-later ps us ts x b.0, subst (λ t. Built (tree_of (ps ++ us)) (TreeFits (ps ++ us)) (ts ++ t ∷ []) xs) (sym (tree-later ps us ts x b.0)) (built-later ps us (ts ++ tree_of ps ts x ∷ []) xs b.1))

pub formulas-later : (ns ms : List TermNode) (xs : List FormulaNode) → IsFormulaTable ns xs → Extends (parts_of ns) (parts_of ms) → formulas_of ms xs ≡ formulas_of ns xs
formulas-later ns ms xs ok e = ap (λ ps. trees (tree_of ps) xs) e.1 ∙ grow-later (parts_of ns) e.0 [] xs ok.built

pub table-later : (ns ms : List TermNode) (xs : List FormulaNode) → IsFormulaTable ns xs → Extends (parts_of ns) (parts_of ms) → IsFormulaTable ms xs
table-later ns ms xs ok e = record {
  built = subst (λ ps. Built (tree_of ps) (TreeFits ps) [] xs) (sym e.1) (built-later (parts_of ns) e.0 [] xs ok.built);
  distinct = subst AreDistinct (sym (formulas-later ns ms xs ok e)) ok.distinct;
}

-- what an insert leaves of the whole table
pub record PartAdded (old new : Table) (n : TermNode) (k : ℕ) : Type 0 where
  pub table : IsNodeTable new.terms new.formulas
  pub here : slice_get (parts new) k ≡ Some (part_of (parts old) n)
  pub kept : Keeps old new

pub part_added : (now : Table) (ns ms : List TermNode) (xs : List FormulaNode) (n m : TermNode) (k : ℕ) → record { terms = ns; formulas = xs } ≡ now → IsNodeTable ns xs
    → PartFits (parts now) n → ms ≡ insert_key node_eq ns n → slice_get ms k ≡ Some m → node_eq n m ≡ true → PartAdded now (record { terms = ms; formulas = xs }) n k
part_added now ns ms xs n m k view ok fits keys at is =
    let e = part_entered ns ms n m k ok.0 (subst (λ t. PartFits (parts t) n) (sym view) fits) keys at is in
    subst (λ t. PartAdded t (record { terms = ms; formulas = xs }) n k) view (record {
      table = (e.table, table-later ns ms xs ok.1 e.kept);
      here = e.here;
      kept = record { parts_kept = e.kept; formulas_kept = ([], formulas-later ns ms xs ok.1 e.kept ∙ sym (append-nil (formulas_of ns xs))) };
    })

pub record FormulaAdded (old new : Table) (n : FormulaNode) (k : ℕ) : Type 0 where
  pub table : IsNodeTable new.terms new.formulas
  pub here : slice_get (formulas new) k ≡ Some (tree_of (parts old) (formulas old) n)
  pub kept : Keeps old new

pub formula_added : (now : Table) (ns : List TermNode) (xs ys : List FormulaNode) (n m : FormulaNode) (k : ℕ) → record { terms = ns; formulas = xs } ≡ now → IsNodeTable ns xs
    → TreeFits (parts now) (formulas now) n → ys ≡ insert_key formula_node_eq xs n → slice_get ys k ≡ Some m → formula_node_eq n m ≡ true → FormulaAdded now (record { terms = ns; formulas = ys }) n k
formula_added now ns xs ys n m k view ok fits keys at is =
    let e = formula_entered ns ok.0 xs ys n m k ok.1 (subst (λ t. TreeFits (parts t) (formulas t) n) (sym view) fits) keys at is in
    subst (λ t. FormulaAdded t (record { terms = ns; formulas = ys }) n k) view (record {
      table = (ok.0, e.table);
      here = e.here;
      kept = record { parts_kept = ([], sym (append-nil (parts_of ns))); formulas_kept = e.kept };
    })

-- the node of a formula
abbrev pub NodeAt : Table → ℕ → Option FormulaNode → Type 0
NodeAt now k (Some n) = (as_formula (slice_get (formulas now) k) ≡ tree_of (parts now) (formulas now) n) × TreeFits (parts now) (formulas now) n × PartsBelow k n
NodeAt now k None = ⊥

none_some : (n : FormulaNode) → None ≡ Some n → ⊥
none_some n e = cc

pub formula_node_at : (now : Table) (ns : List TermNode) (xs : List FormulaNode) (k : ℕ) → record { terms = ns; formulas = xs } ≡ now → IsNodeTable ns xs
    → is_some (slice_get (formulas now) k) ≡ true → NodeAt now k (slice_get xs k)
formula_node_at now ns xs k view ok there = subst (λ t. is_some (slice_get (formulas t) k) ≡ true → NodeAt t k (slice_get xs k)) view (by (slice_get xs k) refl) there
  where
    by : (o : Option FormulaNode) → slice_get xs k ≡ o → is_some (slice_get (formulas_of ns xs) k) ≡ true → NodeAt (record { terms = ns; formulas = xs }) k o
    by (Some n) e h =
        let s = rows.stands-at (tree_of (parts_of ns)) (TreeFits (parts_of ns)) (tree-kept (parts_of ns)) (tree_fits-kept (parts_of ns)) xs k n ok.1.built e in
        let b = rows.before (tree_of (parts_of ns)) (TreeFits (parts_of ns)) (tree-kept (parts_of ns)) (tree_fits-kept (parts_of ns)) [] xs k n ok.1.built e in
        let len : length b.0 ≡ k = let z = b.1 in omega arith in
        (ap as_formula s.0, s.1, parts_below (parts_of ns) b.0 k n len b.2)
    by None e h =
        let there = formula-there (formulas_of ns xs) (record { 0 = k }) h in
        let lt : k < length xs = omega (arith, slice_get_within (formulas_of ns xs) k _ there, rows.length-trees (tree_of (parts_of ns)) (TreeFits (parts_of ns)) (tree-kept (parts_of ns)) (tree_fits-kept (parts_of ns)) xs) in
        let at = element_within xs k lt in
        absurd (none_some at.0 (sym e ∙ at.1))

pub same_number : (now : Table) (ns : List TermNode) (xs : List FormulaNode) (a b : FormulaId) → record { terms = ns; formulas = xs } ≡ now → IsNodeTable ns xs
    → IsFormula now a → IsFormula now b → formula_in now a ≡ formula_in now b → a ≡ b
same_number now ns xs a b view ok = subst (λ t. IsFormula t a → IsFormula t b → formula_in t a ≡ formula_in t b → a ≡ b) view (same_formula (formulas_of ns xs) a b ok.1.distinct)

-- the node of a term or a column expression
abbrev pub PartAt : Table → ℕ → Option TermNode → Type 0
PartAt now k (Some n) = (slice_get (parts now) k ≡ Some (part_of (parts now) n)) × PartFits (parts now) n × PartBelow k n
PartAt now k None = ⊥

no_term_node : (n : TermNode) → None ≡ Some n → ⊥
no_term_node n e = cc

pub part_node_at : (now : Table) (ns : List TermNode) (xs : List FormulaNode) (k : ℕ) → record { terms = ns; formulas = xs } ≡ now → IsNodeTable ns xs
    → is_some (slice_get (parts now) k) ≡ true → PartAt now k (slice_get ns k)
part_node_at now ns xs k view ok there = subst (λ t. is_some (slice_get (parts t) k) ≡ true → PartAt t k (slice_get ns k)) view (by (slice_get ns k) refl) there
  where
    by : (o : Option TermNode) → slice_get ns k ≡ o → is_some (slice_get (parts_of ns) k) ≡ true → PartAt (record { terms = ns; formulas = xs }) k o
    by (Some n) e h =
        let s = rows.stands-at part_of PartFits part-kept part_fits-kept ns k n ok.0.built e in
        let b = rows.before part_of PartFits part-kept part_fits-kept [] ns k n ok.0.built e in
        let len : length b.0 ≡ k = let z = b.1 in omega arith in
        (s.0, s.1, part_below b.0 k n len b.2)
    by None e h =
        let there = some-there (slice_get (parts_of ns) k) h in
        let lt : k < length ns = omega (arith, slice_get_within (parts_of ns) k _ there.1, rows.length-trees part_of PartFits part-kept part_fits-kept ns) in
        let at = element_within ns k lt in
        absurd (no_term_node at.0 (sym e ∙ at.1))

-- how many entries there are
pub entry_count : (now : Table) (ns : List TermNode) (xs : List FormulaNode) → record { terms = ns; formulas = xs } ≡ now
    → length ns + length xs ≡ length (parts now) + length (formulas now)
entry_count now ns xs view = subst (λ t. length ns + length xs ≡ length (parts t) + length (formulas t)) view
    (sym (ap₂ (λ a b. a + b) (rows.length-trees part_of PartFits part-kept part_fits-kept ns)
    (rows.length-trees (tree_of (parts_of ns)) (TreeFits (parts_of ns)) (tree-kept (parts_of ns)) (tree_fits-kept (parts_of ns)) xs)))
