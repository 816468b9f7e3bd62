use Rattle.std.proofs.Common.{◌≡◌, take}
use Rattle.std.specs.Prelude.{sum}
use Rattle.lc_outline_text.specs.Views.{capped}
use Rattle.lc_outline_text.proofs.conditions.capped_total.Given as goal

-- the sum so far
abbrev pub invariant-loop-count : goal.invariant-loop-count
invariant-loop-count l = l.total ≡ capped (sum (take l.count-index l.counts))
