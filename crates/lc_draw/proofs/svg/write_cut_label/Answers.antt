use Rattle.lc_draw.proofs.Written.{cut_label_formed}
use Rattle.lc_draw.proofs.svg.write_cut_label.Goals as goal

pub returns-clause-formed : goal.returns-clause-formed
returns-clause-formed c = cut_label_formed c.args.number c.args.across c.args.over c.ranges.number.fits c.ranges.across.fits c.ranges.over.fits
