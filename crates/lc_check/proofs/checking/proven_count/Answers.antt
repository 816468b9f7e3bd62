use Rattle.std.proofs.Common.{[]}
use Rattle.lc_check.proofs.checking.proven_count.Goals as goal

pub feed_all-requires : goal.feed_all-requires
feed_all-requires c = ([], record { taken = []; read = c.in_ok-reader.ensures.start; none = c.in_ok-reader.ensures.none; progress = c.in_ok-progress.ensures })

pub counted-requires : goal.counted-requires
counted-requires c =
    (c.args.cert.now, c.in_ok-feed_all.ensures [] (record { taken = []; read = c.in_ok-reader.ensures.start; none = c.in_ok-reader.ensures.none; progress = c.in_ok-progress.ensures }))

pub returns : goal.returns
returns c =
    c.counted.ensures c.args.cert.now
    (c.in_ok-feed_all.ensures [] (record { taken = []; read = c.in_ok-reader.ensures.start; none = c.in_ok-reader.ensures.none; progress = c.in_ok-progress.ensures }))
