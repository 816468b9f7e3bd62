use Rattle.std.proofs.Common.{◌∙◌, refl}
use Rattle.std.proofs.lemmas.Result.{IfOk-weaker}
use Rattle.lc_term.specs.View.{term_of}
use Rattle.lc_term.proofs.Under.{shifted_counted}
use Rattle.lc_term.proofs.shifting.raised.Goals as goal

pub returns : goal.returns
returns c = IfOk-weaker c.replaced_term.result _ _ (λ moved h n counted fits.
    let alike = shifted_counted c.args.depth n counted (term_of c.args.term.now) fits in
    h 0 refl alike.0 ∙ alike.1) c.replaced_term.ensures
