use Rattle.std.proofs.Common.{arith, sym, subst}
use Rattle.lc_term.specs.View.{term_of, column_of}
use Rattle.lc_term.proofs.Chained.{ReplacedIn, replaced_none, replaced_round, store_inside, rest_inside}
use Rattle.lc_action.specs.Telling.{tellable, telling_under}
use Rattle.lc_action.proofs.telling.+said_term.Goals as goal

pub said_column-stores-init : goal.said_column-stores-init
said_column-stores-init t c =
    let p = tellable c.args.before.columns.now c.args.before.variables.now in
    let r = telling_under c.args.before.columns.now c.args.before.variables.now in (
      c.in_ok-chain.ensures.inside,
      λ n passes. replaced_none (p n) (r n) (column_of c.args.column.now) (column_of c.in_ok-chain.chain.base.now) (column_of c.in_ok-said.said) c.in_ok-chain.chain.stores.items c.in_ok-chain.ensures.same
          (c.in_ok-said.ensures n) passes,
    )

pub said_column-said_term-requires : goal.said_column-said_term-requires
said_column-said_term-requires t c =
    let inside = store_inside c.args.column.now c.stores.chain.stores.items c.pop.new.self.items c.in-Some.store c.in-Some.ensures.items c.stores.invariant.0 in
    let less = inside.0 in
    (omega arith, tt)

pub said_column-said_term-requires-in-Some : goal.said_column-said_term-requires-in-Some
said_column-said_term-requires-in-Some t c =
    let inside = store_inside c.args.column.now c.stores.chain.stores.items c.pop.new.self.items c.in-Some.store c.in-Some.ensures.items c.stores.invariant.0 in
    let less = inside.1 in
    (omega arith, tt)

pub said_column-stores-preserved : goal.said_column-stores-preserved
said_column-stores-preserved t c =
    let p = tellable c.args.before.columns.now c.args.before.variables.now in
    let r = telling_under c.args.before.columns.now c.args.before.variables.now in
    let whole = c.args.column.now in
    let ss = c.pop.new.self.items in (
      rest_inside whole c.stores.chain.stores.items ss c.in-Some.store c.in-Some.ensures.items c.stores.invariant.0,
      λ n passes.
          let more = replaced_round (p n) (r n) (column_of whole) (column_of c.stores.said) (term_of c.in_ok-index.index) (term_of c.in_ok-value.value) c.stores.chain.stores.items ss c.in-Some.store
          c.in-Some.ensures.items (c.in_ok-index.ensures n) (c.in_ok-value.ensures n) (c.stores.invariant.1 n passes) in
          subst (λ d. ReplacedIn (p n) (r n) (column_of whole) d ss) (sym c.in_ok-said-2.ensures) more,
    )
