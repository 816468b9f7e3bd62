use Rattle.std.proofs.Common.{◌<◌, length, arith}
use Rattle.lincheck.specs.Reading.{most_bytes}
use Rattle.lincheck.proofs.Taken.{consumed_is_taken}
use Rattle.lincheck.proofs.reading.feed_file.Goals as goal

pub returns-in-Ok-feed_to_limit-clause-fed : goal.returns-in-Ok-feed_to_limit-clause-fed
returns-in-Ok-feed_to_limit-clause-fed g c =
    let read = c.in-Ok-feed_to_limit.ensures.fed in (
      read.0,
      read.2,
      consumed_is_taken (g.F.Files.bytes_at c.args.files.now c.args.path.now) _ _ read.0 most_bytes c.in-Ok.ensures.reads read.1.0 read.1.1
          (λ h. let less : length read.0 < most_bytes = omega (arith, h) in read.1.2 less),
    )
