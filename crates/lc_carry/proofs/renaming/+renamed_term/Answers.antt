use Rattle.std.proofs.Common.{arith}
use Rattle.lc_carry.proofs.Chains.{replaced_base, replaced_round}
use Rattle.lc_carry.specs.Renaming.{column_for, renaming}
use Rattle.lc_term.proofs.Chained.{store_inside, rest_inside}
use Rattle.lc_term.specs.View.{term_of, column_of}
use Rattle.lc_carry.proofs.renaming.+renamed_term.Goals as goal

pub renamed_column-stores-init : goal.renamed_column-stores-init
renamed_column-stores-init t c = (
  c.in_ok-chain.ensures.inside,
  replaced_base (renaming (column_for c.args.columns.now)) (column_of c.args.column.now) (column_of c.in_ok-chain.chain.base.now) (column_of c.renamed_base-renamed.result)
      c.in_ok-chain.chain.stores.items c.in_ok-chain.ensures.same c.renamed_base-renamed.ensures,
)

pub renamed_column-renamed_term-requires : goal.renamed_column-renamed_term-requires
renamed_column-renamed_term-requires t c =
    let inside = store_inside c.args.column.now c.stores.chain.stores.items c.pop.new.self.items c.in-Some.store c.in-Some.ensures.items c.stores.invariant.0 in
    let less = inside.0 in
    (omega arith, tt)

pub renamed_column-renamed_term-requires-in-Some : goal.renamed_column-renamed_term-requires-in-Some
renamed_column-renamed_term-requires-in-Some t c =
    let inside = store_inside c.args.column.now c.stores.chain.stores.items c.pop.new.self.items c.in-Some.store c.in-Some.ensures.items c.stores.invariant.0 in
    let less = inside.1 in
    (omega arith, tt)

pub renamed_column-stores-preserved : goal.renamed_column-stores-preserved
renamed_column-stores-preserved t c =
    let whole = c.args.column.now in (
      rest_inside whole c.stores.chain.stores.items c.pop.new.self.items c.in-Some.store c.in-Some.ensures.items c.stores.invariant.0,
      replaced_round (renaming (column_for c.args.columns.now)) (column_of whole) (column_of c.stores.renamed) (column_of c.in_ok-renamed.renamed) (term_of c.in_ok-index.index) (term_of c.in_ok-value.value)
          c.stores.chain.stores.items c.pop.new.self.items c.in-Some.store c.in-Some.ensures.items c.in_ok-index.ensures c.in_ok-value.ensures c.in_ok-renamed.ensures c.stores.invariant.1,
    )
