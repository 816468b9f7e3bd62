use Rattle.std.proofs.Common.{arith, ap, ◌∙◌}
use Rattle.lc_term.specs.Chains.{is_store}
use Rattle.lc_table.specs.Tables.{column_in}
use Rattle.lc_table.proofs.Chained.{last_store}
use Rattle.lc_copy.proofs.trees.+term_tree.Goals as goal

pub column_tree-with_store_tree-requires : goal.column_tree-with_store_tree-requires
column_tree-with_store_tree-requires t c =
    let ts = c.args.table.now in
    let last = last_store ts c.args.column.0 (column_in ts c.args.column) c.stores.chain.stores.items c.pop.new.self.items c.in-Some.store c.in-Some.ensures.items c.stores.invariant.0 in
    let within = last.1.within in
    (omega arith, (last.1.column, (ap is_store last.1.tree ∙ last.1.store, c.stores.invariant.1 ∙ last.2)))

pub column_tree-stores-preserved : goal.column_tree-stores-preserved
column_tree-stores-preserved t c =
    let ts = c.args.table.now in
    let last = last_store ts c.args.column.0 (column_in ts c.args.column) c.stores.chain.stores.items c.pop.new.self.items c.in-Some.store c.in-Some.ensures.items c.stores.invariant.0 in
    (last.0, c.in_ok-tree.ensures ∙ last.1.tree)
