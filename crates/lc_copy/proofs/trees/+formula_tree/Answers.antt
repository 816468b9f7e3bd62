use Rattle.std.proofs.Common.{rules, arith, ◌<◌, length}
use Rattle.lc_table.specs.Nodes.{AllBelow}
use Rattle.lc_table.specs.Tables.{AreFormulas}
use Rattle.lc_table.proofs.Listed.{beyond-le, get-beyond, are_formulas-get}
use Rattle.lc_copy.proofs.trees.+formula_tree.Goals as goal

pub formula_tree-formula_trees-requires : goal.formula_tree-formula_trees-requires
formula_tree-formula_trees-requires t c =
    let below : AllBelow c.args.formula.0 c.deref.result.now = search rules in
    let fits : AreFormulas c.args.table.now c.deref.result.now = search rules in
    let least = beyond-le c.args.formula.0 c.deref.result.now below in
    (omega arith, fits)

pub formula_tree-formula_trees-requires-in-Or : goal.formula_tree-formula_trees-requires-in-Or
formula_tree-formula_trees-requires-in-Or t c =
    let below : AllBelow c.args.formula.0 c.deref-in-Or.result.now = search rules in
    let fits : AreFormulas c.args.table.now c.deref-in-Or.result.now = search rules in
    let least = beyond-le c.args.formula.0 c.deref-in-Or.result.now below in
    (omega arith, fits)

pub formula_trees-boxed_formula-requires : goal.formula_trees-boxed_formula-requires
formula_trees-boxed_formula-requires t c =
    let lt : c.loop-formula.formula-index < length c.args.formulas.now = search rules in
    let below = get-beyond c.args.formulas.now c.loop-formula.formula-index (record { 0 = 0 }) lt in
    (omega arith, are_formulas-get c.args.table.now c.args.formulas.now c.loop-formula.formula-index (record { 0 = 0 }) c.requires lt)
