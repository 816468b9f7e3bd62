use Rattle.std.proofs.Common.{◌∙◌, append_assoc, append-nil}
use Rattle.lc_draw.proofs.svg.begin_sheet.Goals as goal

pub returns : goal.returns
returns c = c.in_ok-write.ensures.bytes ∙ simp (append_assoc, append-nil)
