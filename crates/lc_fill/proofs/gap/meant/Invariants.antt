use Rattle.std.proofs.Common.{◌≡◌, drop}
use Rattle.lc_fill.specs.Gaps.{meant}
use Rattle.lc_fill.proofs.gap.meant.Given as goal

abbrev pub invariant-loop-gap : goal.invariant-loop-gap
invariant-loop-gap l = meant (drop l.gap-index l.gaps) l.left ≡ meant l.gaps l.fn.item
