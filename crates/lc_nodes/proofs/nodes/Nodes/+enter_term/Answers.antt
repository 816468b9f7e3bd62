use Rattle.std.proofs.Common.{arith}
use Rattle.lc_term.proofs.Chained.{store_inside, rest_inside}
use Rattle.lc_nodes.proofs.nodes.Nodes.+enter_term.Goals as goal

pub enter_column-enter_term-requires : goal.enter_column-enter_term-requires
enter_column-enter_term-requires t c =
    let inside = store_inside c.args.column.now c.stores.chain.stores.items c.pop.new.self.items c.in-Some.store c.in-Some.ensures.items c.stores.invariant in
    let less = inside.0 in
    (omega arith, tt)

pub enter_column-enter_term-requires-in-Some : goal.enter_column-enter_term-requires-in-Some
enter_column-enter_term-requires-in-Some t c =
    let inside = store_inside c.args.column.now c.stores.chain.stores.items c.pop.new.self.items c.in-Some.store c.in-Some.ensures.items c.stores.invariant in
    let less = inside.1 in
    (omega arith, tt)

pub enter_column-stores-preserved : goal.enter_column-stores-preserved
enter_column-stores-preserved t c =
    rest_inside c.args.column.now c.stores.chain.stores.items c.pop.new.self.items c.in-Some.store c.in-Some.ensures.items c.stores.invariant
