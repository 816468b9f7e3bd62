use Rattle.std.proofs.Common.{arith, sym, subst, ap}
use Rattle.lc_term.specs.View.{column_of}
use Rattle.lc_term.proofs.Chained.{StandsIn, put_round, store_inside, rest_inside}
use Rattle.lc_table.specs.Nodes.{is_column}
use Rattle.lc_table.specs.Tables.{column_in, term_in}
use Rattle.lc_table.proofs.Later.{column_is, term_is, term_later, kept_on, column_still, is_column_still}
use Rattle.lc_table.proofs.table.Terms.+enter_term.Goals as goal

pub enter_column-stores-init : goal.enter_column-stores-init
enter_column-stores-init t c =
    let now = c.enter_base.new.self in (
      c.in_ok-entered.ensures.kept,
      ap is_column c.in_ok-entered.ensures.id,
      c.in_ok-chain.ensures.inside,
      subst (λ d. StandsIn (column_of c.args.column.now) d c.in_ok-chain.chain.stores.items) (sym (column_is now _ _ c.in_ok-entered.ensures.id)) c.in_ok-chain.ensures.same,
    )

pub enter_column-enter_term-requires : goal.enter_column-enter_term-requires
enter_column-enter_term-requires t c =
    let inside = store_inside c.args.column.now c.stores.chain.stores.items c.pop.new.self.items c.in-Some.store c.in-Some.ensures.items c.stores.invariant.2 in
    let less = inside.0 in
    (omega arith, tt)

pub enter_column-enter_term-requires-in-Some : goal.enter_column-enter_term-requires-in-Some
enter_column-enter_term-requires-in-Some t c =
    let inside = store_inside c.args.column.now c.stores.chain.stores.items c.pop.new.self.items c.in-Some.store c.in-Some.ensures.items c.stores.invariant.2 in
    let less = inside.1 in
    (omega arith, tt)

pub enter_column-store-requires-clause-column : goal.enter_column-store-requires-clause-column
enter_column-store-requires-clause-column t c =
    is_column_still c.stores.self c.enter_term-in-Some.new.self c.stores.entered c.stores.invariant.1 (kept_on _ _ _ c.in_ok-index.ensures.kept c.in_ok-value.ensures.kept)

pub enter_column-stores-preserved : goal.enter_column-stores-preserved
enter_column-stores-preserved t c =
    let i = c.stores.invariant in
    let now = c.stores.self in
    let t1 = c.enter_term.new.self in
    let t2 = c.enter_term-in-Some.new.self in
    let t3 = c.store.new.self in
    let whole = column_of c.args.column.now in
    let ks = c.pop.new.self.items in
    let k12 = kept_on now t1 t2 c.in_ok-index.ensures.kept c.in_ok-value.ensures.kept in
    let column = column_still now t2 c.stores.entered i.1 k12 in
    let index = term_is t2 _ _ (term_later t1 t2 _ _ c.in_ok-index.ensures.id c.in_ok-value.ensures.kept) in
    let value = term_is t2 _ _ c.in_ok-value.ensures.id in
    let more = put_round whole (column_in t2 c.stores.entered) (term_in t2 c.in_ok-index.index) (term_in t2 c.in_ok-value.value) c.stores.chain.stores.items ks c.in-Some.store c.in-Some.ensures.items index value
    (subst (λ d. StandsIn whole d c.stores.chain.stores.items) (sym column) i.3) in (
      kept_on c.args.self.now now t3 i.0 (kept_on now t2 t3 k12 c.in_ok-entered-2.ensures.kept),
      ap is_column c.in_ok-entered-2.ensures.id,
      rest_inside c.args.column.now c.stores.chain.stores.items ks c.in-Some.store c.in-Some.ensures.items i.2,
      subst (λ d. StandsIn whole d ks) (sym (column_is t3 _ _ c.in_ok-entered-2.ensures.id)) more,
    )
