use Rattle.lc_draw.proofs.Written.{point_plain}
use Rattle.lc_draw.proofs.svg.write_point.Goals as goal

pub returns-clause-plain : goal.returns-clause-plain
returns-clause-plain c = point_plain c.args.across c.args.top c.ranges.across.fits c.ranges.top.fits
