use Rattle.std.proofs.Common.{[]}
use Rattle.lincheck.proofs.reading.feed_forms.Goals as goal

pub returns-clause-fed : goal.returns-clause-fed
returns-clause-fed g c =
    let fed = c.in_ok-feed_file.ensures.fed in
    (fed.0, fed.1 tt [] c.new-reader.ensures.start, fed.2)
