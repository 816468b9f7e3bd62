use Rattle.std.proofs.Common.{◌≡◌, ◌-◌, length, drop}
use Rattle.lc_hist.specs.JsonCursor.{tokens_at}
use Rattle.lc_hist.specs.declared.cursor.Place.{Place}
use Rattle.lc_hist.proofs.cursor.spaces_end.Given as goal

abbrev pub invariant-spaces : goal.invariant-spaces
invariant-spaces l = (p : Place) → tokens_at p (drop l.end l.text) ≡ tokens_at p (drop l.from l.text)

abbrev pub decreases-spaces : goal.decreases-spaces
decreases-spaces l = length l.text - l.end
