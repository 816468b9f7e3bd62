use Rattle.std.proofs.Common.{[]}
use Rattle.lc_outline.specs.Development.{Development}
use Rattle.lc_sound.specs.Linearizable.{IsLinearizableObject}
use Rattle.lc_check.proofs.Answered.{said_of}
use Rattle.lc_check.specs.Sessions.{IsFed}
use Rattle.lc_check.proofs.checking.check.Goals as goal

pub returns-clause-exactly : goal.returns-clause-exactly
returns-clause-exactly c = c.finish.ensures.exactly c.args.dev.now c.args.cert.now (c.in_ok-feed.ensures.fed c.args.dev.now [] c.in_ok-session.ensures.start)

pub returns-clause-linearizable : goal.returns-clause-linearizable
returns-clause-linearizable c =
    said_of (λ dev cert. IsFed dev cert c.feed.new.self) (λ (D : Development). IsLinearizableObject D.specification D.object) c.args.dev.now c.args.cert.now c.finish.result
    (c.in_ok-feed.ensures.fed c.args.dev.now [] c.in_ok-session.ensures.start) c.finish.ensures.linearizable
