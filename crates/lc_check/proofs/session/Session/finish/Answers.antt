use Rattle.std.proofs.Common.{sym, subst}
use Rattle.lc_outline.specs.Development.{Development}
use Rattle.lc_sound.specs.Linearizable.{IsLinearizableObject}
use Rattle.lc_check.proofs.Answered.{on_development, said_too}
use Rattle.lc_check.specs.Sessions.{IsFed, IsStateFed}
use Rattle.lc_check.specs.Stages.{IsFedOn}
use Rattle.lc_check.specs.declared.session.State.TheVariants.{UnderWay}
use Rattle.lc_check.proofs.session.Session.finish.Goals as goal

pub returns-in-UnderWay-clause-exactly : goal.returns-in-UnderWay-clause-exactly
returns-in-UnderWay-clause-exactly c = λ dev cert h.
    let under : IsStateFed dev cert (UnderWay c.in-UnderWay.session) = subst (IsStateFed dev cert) c.in-UnderWay.is h in
    on_development dev cert under.0 c.finish.result under.1 (c.finish.ensures.exactly under.0 cert (subst (IsFedOn under.0 cert) (sym c.in-UnderWay.session-is) under.2))

pub returns-in-UnderWay-clause-linearizable : goal.returns-in-UnderWay-clause-linearizable
returns-in-UnderWay-clause-linearizable c =
    said_too (λ dev cert. IsFed dev cert c.args.self) (λ (D : Development). IsLinearizableObject D.specification D.object) c.finish.result
    (λ dev cert h. (
    let under : IsStateFed dev cert (UnderWay c.in-UnderWay.session) = subst (IsStateFed dev cert) c.in-UnderWay.is h in
    on_development dev cert under.0 c.finish.result under.1 (c.finish.ensures.exactly under.0 cert (subst (IsFedOn under.0 cert) (sym c.in-UnderWay.session-is) under.2))
    ))
    c.finish.ensures.linearizable
