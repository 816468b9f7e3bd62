use Rattle.std.proofs.Common.{sym, subst}
use Rattle.lc_outline.specs.Development.{Development}
use Rattle.lc_outline.specs.DevelopmentView.{development_view}
use Rattle.lc_sound.specs.Linearizable.{IsLinearizableObject}
use Rattle.lc_check.specs.VerdictView.{IsCountOn}
use Rattle.lc_check.proofs.certificate_session.finished.Goals as goal

pub proven-requires : goal.proven-requires
proven-requires c =
    let (cert, counts) = c.requires in
    (cert, subst (IsCountOn (development_view c.args.development) cert) c.in-Ok.is counts)

pub returns-in-Ok-clause-exactly : goal.returns-in-Ok-clause-exactly
returns-in-Ok-clause-exactly c = λ cert counts. (c.proven.ensures.shown, (subst (IsCountOn (development_view c.args.development) cert) c.in-Ok.is counts).1)

pub returns-in-Ok-clause-linearizable : goal.returns-in-Ok-clause-linearizable
returns-in-Ok-clause-linearizable c =
    subst (λ (D : Development). IsLinearizableObject D.specification D.object) (sym c.proven.ensures.shown) c.proven.ensures.linearizable

pub returns-in-Err-clause-exactly : goal.returns-in-Err-clause-exactly
returns-in-Err-clause-exactly c = λ cert counts. c.declined.ensures.exactly cert (subst (IsCountOn (development_view c.args.development) cert) c.in-Err.is counts)
