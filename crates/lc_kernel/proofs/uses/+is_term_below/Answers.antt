use Rattle.std.proofs.Common.{rules, arith, ◌≡◌, true, false, ap, sym, ◌∙◌}
use Rattle.lc_term.specs.Chains.{is_store}
use Rattle.lc_table.specs.Tables.{column_in}
use Rattle.lc_table.proofs.Chained.{last_store}
use Rattle.lc_kernel.specs.Below.{column_below}
use Rattle.lc_kernel.proofs.Stores.{not_below}
use Rattle.lc_kernel.proofs.uses.+is_term_below.Goals as goal

pub is_column_below-stores-init : goal.is_column_below-stores-init
is_column_below-stores-init t c = (c.requires.known, c.in_ok-stores.ensures.stores, c.in_ok-stores.ensures.below c.args.in_use.count c.requires.known)

pub is_column_below-is_store_below-requires : goal.is_column_below-is_store_below-requires
is_column_below-is_store_below-requires t c =
    let ts = c.args.in_use.terms.now in
    let i = c.stores.invariant in
    let last = last_store ts c.args.column.0 (column_in ts c.args.column) c.stores.stores.items c.pop.new.self.items c.in-Some.store c.in-Some.ensures.items i.1 in
    let within = last.1.within in
    (omega arith, (last.1.column, (ap is_store last.1.tree ∙ last.1.store, (ap (column_below c.args.in_use.count) (sym last.2) ∙ i.2, i.0))))

pub is_column_below-stores-preserved : goal.is_column_below-stores-preserved
is_column_below-stores-preserved t c =
    let ts = c.args.in_use.terms.now in
    let i = c.stores.invariant in
    let last = last_store ts c.args.column.0 (column_in ts c.args.column) c.stores.stores.items c.pop.new.self.items c.in-Some.store c.in-Some.ensures.items i.1 in
    let yes : column_below c.args.in_use.count (column_in ts c.in-Some.store) ≡ true = search rules in
    (c.in_ok-is_below.ensures.known, last.0, ap (column_below c.args.in_use.count) (sym last.1.tree) ∙ yes)

pub is_column_below-returns-then-not-is_below-clause-below : goal.is_column_below-returns-then-not-is_below-clause-below
is_column_below-returns-then-not-is_below-clause-below t c =
    let ts = c.args.in_use.terms.now in
    let i = c.stores.invariant in
    let last = last_store ts c.args.column.0 (column_in ts c.args.column) c.stores.stores.items c.pop.new.self.items c.in-Some.store c.in-Some.ensures.items i.1 in
    let above : column_below c.args.in_use.count (column_in ts c.in-Some.store) ≡ false = search rules in
    sym (not_below c.args.in_use.count ts c.args.column.0 (column_in ts c.args.column) c.pop.new.self.items last.0 (ap (column_below c.args.in_use.count) (sym last.1.tree) ∙ above))
