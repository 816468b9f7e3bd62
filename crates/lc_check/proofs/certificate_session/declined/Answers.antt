use Rattle.std.proofs.Common.{Err, refl, subst}
use Rattle.lc_outline.specs.DevelopmentView.{development_view}
use Rattle.lc_check.specs.VerdictView.{IsCountOn}
use Rattle.lc_check.proofs.certificate_session.declined.Goals as goal

pub returns-in-Refused-clause-exactly : goal.returns-in-Refused-clause-exactly
returns-in-Refused-clause-exactly c = λ cert h. (refl, subst (λ f. IsCountOn (development_view c.args.development) cert (Err f)) c.in-Refused.is h)
