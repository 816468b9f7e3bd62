use Rattle.std.proofs.Common.{◌+◌, ◌∙◌, ap, arith, take}
use Rattle.lc_draw.proofs.Stretching.{same-take}
use Rattle.lc_draw.proofs.stretches.end_of.Goals as goal

pub returns : goal.returns
returns c = ap (λ k. take k c.args.events.now) c.saturating_add.ensures ∙ same-take c.args.events.now (c.args.at + c.args.width) 18446744073709551615 (omega arith)
