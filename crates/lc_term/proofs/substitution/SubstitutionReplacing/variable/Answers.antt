use Rattle.std.proofs.Common.{sym, arith}
use Rattle.std.specs.Prelude.{◌≢◌}
use Rattle.std.proofs.lemmas.Result.{IfOk-weaker}
use Rattle.lc_term.specs.View.{term_of}
use Rattle.lc_term.proofs.Under.{putting_counted, under_many-putting-other}
use Rattle.lc_term.proofs.substitution.SubstitutionReplacing.variable.Goals as goal

pub returns-then-number-self : goal.returns-then-number-self
returns-then-number-self c = IfOk-weaker c.raised.result _ _ (λ put h n counted fits.
    putting_counted c.args.self.now.variable c.args.number n (term_of c.args.self.now.term.now) (term_of put) (h n counted) (omega arith) fits) c.raised.ensures

pub returns-else-number-self : goal.returns-else-number-self
returns-else-number-self c = λ n counted fits.
    let other : c.args.number ≢ c.args.self.now.variable = omega arith in
    sym (under_many-putting-other c.args.self.now.variable n c.args.number (term_of c.args.self.now.term.now) other)
