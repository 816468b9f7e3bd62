-- What is at a number where a node is found.
use Rattle.std.proofs.Common.{◌≡◌, ℕ, true, List, slice_get, Option, Some, None, ap, ◌∙◌, subst}
use Rattle.std.specs.Prelude.{IfSome}
use Rattle.lc_table.specs.declared.node.TermNode.{TermNode}
use Rattle.lc_table.specs.declared.node.FormulaNode.{FormulaNode}
use Rattle.lc_table.specs.Nodes.{part_of, PartFits, tree_of, TreeFits}
use Rattle.lc_table.specs.NodeTables.{Table, parts_of, IsNodeTable}
use Rattle.lc_table.specs.Tables.{parts, formulas}
use Rattle.lc_table.proofs.Rows as rows
use Rattle.lc_table.proofs.TermNodes.{part-kept, part_fits-kept}
use Rattle.lc_table.proofs.FormulaNodes.{tree-kept, tree_fits-kept, formula_node_eq, node_eq-tree}

-- a part, if its node is found
pub part_found : (now : Table) (ns : List TermNode) (xs : List FormulaNode) (k : ℕ) (o : Option TermNode) → record { terms = ns; formulas = xs } ≡ now → IsNodeTable ns xs
    → slice_get ns k ≡ o → IfSome o (λ n. slice_get (parts now) k ≡ Some (part_of (parts now) n))
part_found now ns xs k o view ok = subst (λ t. slice_get ns k ≡ o → IfSome o (λ n. slice_get (parts t) k ≡ Some (part_of (parts t) n))) view (by o)
  where
    by : (o : Option TermNode) → slice_get ns k ≡ o → IfSome o (λ n. slice_get (parts_of ns) k ≡ Some (part_of (parts_of ns) n))
    by (Some n) e = (rows.stands-at part_of PartFits part-kept part_fits-kept ns k n ok.0.built e).0
    by None e = tt

-- a formula, if its node is found
pub formula_found : (now : Table) (ns : List TermNode) (xs : List FormulaNode) (k : ℕ) (n : FormulaNode) → record { terms = ns; formulas = xs } ≡ now → IsNodeTable ns xs
    → slice_get xs k ≡ Some n → slice_get (formulas now) k ≡ Some (tree_of (parts now) (formulas now) n)
formula_found now ns xs k n view ok at = subst (λ t. slice_get (formulas t) k ≡ Some (tree_of (parts t) (formulas t) n)) view
    (rows.stands-at (tree_of (parts_of ns)) (TreeFits (parts_of ns)) (tree-kept (parts_of ns)) (tree_fits-kept (parts_of ns)) xs k n ok.1.built at).0

-- a formula of an equal node
pub equal_found : (ts : Table) (k : ℕ) (m n : FormulaNode) → formula_node_eq m n ≡ true → slice_get (formulas ts) k ≡ Some (tree_of (parts ts) (formulas ts) m)
    → slice_get (formulas ts) k ≡ Some (tree_of (parts ts) (formulas ts) n)
equal_found ts k m n h at = at ∙ ap Some (node_eq-tree (parts ts) (formulas ts) m n h)
