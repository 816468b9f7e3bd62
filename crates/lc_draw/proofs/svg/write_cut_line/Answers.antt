use Rattle.std.proofs.Common.{◌∙◌, append_assoc, append-nil}
use Rattle.lc_draw.proofs.Written.{cut_line_formed}
use Rattle.lc_draw.proofs.svg.write_cut_line.Goals as goal

pub returns-clause-formed : goal.returns-clause-formed
returns-clause-formed c = cut_line_formed c.args.across c.args.top c.args.until c.ranges.across.fits c.ranges.top.fits c.ranges.until.fits

pub returns-clause-text : goal.returns-clause-text
returns-clause-text c = c.in_ok-write.ensures.bytes ∙ simp (append_assoc, append-nil)
