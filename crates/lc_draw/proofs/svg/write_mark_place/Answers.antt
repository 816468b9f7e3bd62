use Rattle.lc_draw.proofs.Written.{mark_place_formed}
use Rattle.lc_draw.proofs.svg.write_mark_place.Goals as goal

pub returns-clause-formed : goal.returns-clause-formed
returns-clause-formed c = mark_place_formed c.args.place c.args.across c.args.over c.ranges.place.fits c.ranges.across.fits c.ranges.over.fits
