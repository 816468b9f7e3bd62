use Rattle.std.proofs.Common.{sym, subst}
use Rattle.lc_term.specs.View.{term_of, column_of}
use Rattle.lc_term.proofs.Chained.{StandsIn, put_round, rest_inside}
use Rattle.lc_term.proofs.term.+copy_term.Goals as goal

pub ColExpr::try_clone-stores-preserved : goal.ColExpr::try_clone-stores-preserved
ColExpr::try_clone-stores-preserved t c =
    let whole = c.args.self.now in
    let more = put_round (column_of whole) (column_of c.stores.copy) (term_of c.in_ok-index.index) (term_of c.in_ok-value.value) c.stores.chain.stores.items c.pop.new.self.items c.in-Some.store
    c.in-Some.ensures.items c.in_ok-index.ensures c.in_ok-value.ensures c.stores.invariant.1 in (
      rest_inside whole c.stores.chain.stores.items c.pop.new.self.items c.in-Some.store c.in-Some.ensures.items c.stores.invariant.0,
      subst (λ d. StandsIn (column_of whole) d c.pop.new.self.items) (sym c.in_ok-copy.ensures) more,
    )
