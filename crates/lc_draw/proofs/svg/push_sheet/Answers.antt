use Rattle.std.proofs.Common.{◌++◌, ◌∙◌, ap, string_bytes}
use Rattle.lc_draw.proofs.Written.{sheet_formed, sheet_text}
use Rattle.lc_draw.proofs.svg.push_sheet.Goals as goal

pub returns-clause-formed : goal.returns-clause-formed
returns-clause-formed c = sheet_formed c.args.width c.args.height c.ranges.width.fits c.ranges.height.fits

pub returns-clause-text : goal.returns-clause-text
returns-clause-text c = c.in_ok-write.ensures.bytes ∙ ap (λ l. string_bytes c.args.out.now ++ l) (sheet_text c.args.width c.args.height)
