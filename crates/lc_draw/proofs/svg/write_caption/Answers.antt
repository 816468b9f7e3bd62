use Rattle.lc_draw.proofs.Written.{caption_formed}
use Rattle.lc_draw.proofs.svg.write_caption.Goals as goal

pub returns-clause-formed : goal.returns-clause-formed
returns-clause-formed c = caption_formed c.args.above c.args.text.now c.ranges.above.fits c.requires.plain
