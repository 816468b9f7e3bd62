use Rattle.std.proofs.Common.{◌≡◌, [], ◌∷◌, ◌++◌, rules}
use Rattle.lc_term.specs.State.{state_of, column_count}
use Rattle.lc_acting.proofs.Evaluated.{numbers_more, numbers_none}
use Rattle.lc_acting.proofs.evaluating.numbers_of.Goals as goal

pub returns-in-None : goal.returns-in-None
returns-in-None c =
    numbers_none (column_count c.args.state.now) (state_of c.args.state.now) c.args.env.now.values.items c.args.terms.now c.loop-term.term-index c.term-item.result c.loop-term-test.true c.term-item.is c.in-None.ensures

pub loop-term-preserved : goal.loop-term-preserved
loop-term-preserved c =
    let items : c.push.new.self.items ≡ c.loop-term.numbers.items ++ c.in-Some.number ∷ [] = search rules in
    numbers_more (column_count c.args.state.now) (state_of c.args.state.now) c.args.env.now.values.items c.args.terms.now c.loop-term.term-index c.term-item.result c.in-Some.number c.loop-term.numbers.items
    c.push.new.self.items c.loop-term-test.true c.term-item.is (c.in-Some.ensures.0) (c.in-Some.ensures.1) items c.loop-term.invariant
