use Rattle.lc_draw.proofs.Written.{style_formed}
use Rattle.lc_draw.proofs.svg.write_style.Goals as goal

pub returns-clause-formed : goal.returns-clause-formed
returns-clause-formed c = style_formed c.args.style.now c.requires.plain
