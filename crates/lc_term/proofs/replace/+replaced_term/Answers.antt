use Rattle.std.proofs.Common.{arith, sym, subst}
use Rattle.lc_term.specs.Replacement.{under_many}
use Rattle.lc_term.specs.View.{term_of, column_of}
use Rattle.lc_term.proofs.Chained.{ReplacedIn, replaced_none, replaced_round, store_inside, rest_inside}
use Rattle.lc_term.proofs.replace.+replaced_term.Goals as goal

pub replaced_column-stores-init : goal.replaced_column-stores-init
replaced_column-stores-init g t c = (
  c.in_ok-chain.ensures.inside,
  λ n counted passes. replaced_none (g.R.Replacing.fits c.args.put.now n) (under_many n (g.R.Replacing.replacement c.args.put.now)) (column_of c.args.column.now)
      (column_of c.in_ok-chain.chain.base.now) (column_of c.in_ok-replaced.replaced) c.in_ok-chain.chain.stores.items c.in_ok-chain.ensures.same
      (c.in_ok-replaced.ensures n counted) passes,
)

pub replaced_column-stores-preserved : goal.replaced_column-stores-preserved
replaced_column-stores-preserved g t c =
    let whole = c.args.column.now in (
      rest_inside whole c.stores.chain.stores.items c.pop.new.self.items c.in-Some.store c.in-Some.ensures.items c.stores.invariant.0,
      λ n counted passes.
          let p = g.R.Replacing.fits c.args.put.now n in
          let r = under_many n (g.R.Replacing.replacement c.args.put.now) in
          let more = replaced_round p r (column_of whole) (column_of c.stores.replaced) (term_of c.in_ok-index.index) (term_of c.in_ok-value.value) c.stores.chain.stores.items c.pop.new.self.items c.in-Some.store
          c.in-Some.ensures.items (c.in_ok-index.ensures n counted) (c.in_ok-value.ensures n counted) (c.stores.invariant.1 n counted passes) in
          subst (λ d. ReplacedIn p r (column_of whole) d c.pop.new.self.items) (sym c.in_ok-replaced-2.ensures) more,
    )

pub replaced_column-replaced_term-requires : goal.replaced_column-replaced_term-requires
replaced_column-replaced_term-requires g t c =
    let inside = store_inside c.args.column.now c.stores.chain.stores.items c.pop.new.self.items c.in-Some.store c.in-Some.ensures.items c.stores.invariant.0 in
    let less = inside.0 in
    λ κs lives. (omega arith, lives)

pub replaced_column-replaced_term-requires-in-Some : goal.replaced_column-replaced_term-requires-in-Some
replaced_column-replaced_term-requires-in-Some g t c =
    let inside = store_inside c.args.column.now c.stores.chain.stores.items c.pop.new.self.items c.in-Some.store c.in-Some.ensures.items c.stores.invariant.0 in
    let less = inside.1 in
    λ κs lives. (omega arith, lives)
