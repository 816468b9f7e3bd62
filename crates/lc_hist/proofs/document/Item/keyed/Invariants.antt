use Rattle.std.proofs.Common.{length}
use Rattle.lc_hist.proofs.JsonParts.{Left}
use Rattle.lc_hist.proofs.document.Item.keyed.Given as goal

-- what the value says, by what is left of it
abbrev pub invariant-members : goal.invariant-members
invariant-members l = Left l.members l.events l.order l.self

abbrev pub decreases-members : goal.decreases-members
decreases-members l = length l.members
