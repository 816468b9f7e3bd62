use Rattle.lc_draw.proofs.Written.{bar_label_formed}
use Rattle.lc_draw.proofs.svg.write_bar_label.Goals as goal

pub returns-clause-formed : goal.returns-clause-formed
returns-clause-formed c = bar_label_formed c.args.from c.args.under c.args.text.now c.ranges.from.fits c.ranges.under.fits c.requires.plain
