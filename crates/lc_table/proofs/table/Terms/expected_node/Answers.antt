use Rattle.std.proofs.Common.{rules, ◌≡◌, true}
use Rattle.lc_table.proofs.FormulaNodes.{formula_node_eq}
use Rattle.lc_table.proofs.Found.{equal_found}
use Rattle.lc_table.proofs.table.Terms.expected_node.Goals as goal

pub returns-then-eq : goal.returns-then-eq
returns-then-eq c =
    let same : formula_node_eq c.in_ok-number.expected.now c.args.node.now ≡ true = search rules in
    equal_found c.args.self.now c.in_ok-number.number.0 c.in_ok-number.expected.now c.args.node.now same c.in_ok-number.ensures
