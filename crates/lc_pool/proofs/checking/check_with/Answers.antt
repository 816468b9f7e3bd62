use Rattle.lc_outline.specs.Development.{Development}
use Rattle.lc_outline.specs.DevelopmentView.{development_view}
use Rattle.lc_sound.specs.Linearizable.{IsLinearizableObject}
use Rattle.lc_check.proofs.Answered.{on_development}
use Rattle.lc_pool.proofs.Verdicts.{said_too}
use Rattle.lc_pool.proofs.checking.check_with.Goals as goal

pub returns-in-Ok-clause-exactly : goal.returns-in-Ok-clause-exactly
returns-in-Ok-clause-exactly g c =
    on_development c.args.dev.now c.args.cert.now (development_view c.in-Ok.development) c.check_certificate_with.result c.in-Ok.ensures c.check_certificate_with.ensures.exactly

pub returns-in-Ok-clause-linearizable : goal.returns-in-Ok-clause-linearizable
returns-in-Ok-clause-linearizable g c =
    let exactly = on_development c.args.dev.now c.args.cert.now (development_view c.in-Ok.development) c.check_certificate_with.result c.in-Ok.ensures c.check_certificate_with.ensures.exactly in
    said_too (λ (D : Development). IsLinearizableObject D.specification D.object) c.args.dev.now c.args.cert.now c.check_certificate_with.result exactly c.check_certificate_with.ensures.linearizable
