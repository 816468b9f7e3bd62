use Rattle.std.proofs.Common.{◌≡◌, ℕ, ◌+◌, ◌-◌, length, Some, slice_get}
use Rattle.lc_cond_text.specs.declared.texts.Place.{Place}
use Rattle.lc_cond_text.proofs.texts.make_room.Given as goal

-- what has a place had it before
abbrev pub invariant-loop-places : goal.invariant-loop-places
invariant-loop-places l = (k : ℕ) (p : Place) → slice_get l.places.items k ≡ Some (Some p) → slice_get l.fn.places.items k ≡ Some (Some p)

abbrev pub decreases-loop-places : goal.decreases-loop-places
decreases-loop-places l = l.number + 1 - length l.places.items
