use Rattle.lc_draw.proofs.Written.{mark_line_formed}
use Rattle.lc_draw.proofs.svg.write_mark_line.Goals as goal

pub returns-clause-formed : goal.returns-clause-formed
returns-clause-formed c = mark_line_formed c.args.across c.args.top c.ranges.across.fits c.ranges.top.fits
