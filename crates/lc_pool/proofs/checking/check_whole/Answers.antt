use Rattle.std.proofs.Common.{[]}
use Rattle.lc_outline.specs.DevelopmentView.{development_view}
use Rattle.lc_pool.proofs.checking.check_whole.Goals as goal

pub returns-clause-exactly : goal.returns-clause-exactly
returns-clause-exactly g c =
    let D = development_view c.args.development in
    c.finish.ensures.exactly D c.args.cert.now (c.in_ok-feed_by.ensures.fed D [] c.in_ok-session.ensures.start)
