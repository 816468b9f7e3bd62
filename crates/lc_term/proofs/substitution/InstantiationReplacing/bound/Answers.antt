use Rattle.std.proofs.Common.{arith, rules, ◌≡◌, ◌<◌, Less, Equal, Greater}
use Rattle.std.proofs.lemmas.Cmp.{ranked}
use Rattle.std.proofs.lemmas.Result.{IfOk-weaker}
use Rattle.lc_term.specs.View.{term_of}
use Rattle.lc_term.proofs.Under.{opening_counted_inside, opening_counted_here, opening_counted_outside}
use Rattle.lc_term.proofs.substitution.InstantiationReplacing.bound.Goals as goal

pub returns-in-Less : goal.returns-in-Less
returns-in-Less c = λ n counted fits.
    let below : c.from.result < c.args.depth = ranked c.from.result c.args.depth Less c.in-Less.ensures in
    opening_counted_inside c.args.number c.args.depth n (term_of c.args.self.now.term.now) (search rules) counted (omega arith)

pub returns-in-Equal : goal.returns-in-Equal
returns-in-Equal c = IfOk-weaker c.raised.result _ _ (λ put h n counted fits.
    let same : c.from.result ≡ c.args.depth = ranked c.from.result c.args.depth Equal c.in-Equal.ensures in
    opening_counted_here c.args.number c.args.depth n (term_of c.args.self.now.term.now) (term_of put) (search rules) counted (omega arith) (h n counted) fits)
    c.raised.ensures

pub returns-in-Greater : goal.returns-in-Greater
returns-in-Greater c = λ n counted fits.
    let above : c.args.depth < c.from.result = ranked c.from.result c.args.depth Greater c.in-Greater.ensures in
    opening_counted_outside c.args.number c.args.depth n (term_of c.args.self.now.term.now) (search rules) counted (omega arith)
