use Rattle.std.proofs.Common.{◌≡◌, ◌++◌, map, drop}
use Rattle.lc_draw.specs.Counting.{numbered_places}
use Rattle.lc_draw.specs.declared.places.Mark.{Mark}
use Rattle.lc_draw.proofs.places.marks_of.Given as goal

-- the places so far, with those behind, are all
abbrev pub invariant-loop-place : goal.invariant-loop-place
invariant-loop-place l = map (λ (m : Mark). m.place) l.marks.items ++ numbered_places l.place (drop l.place l.bar_of_entry) ≡ numbered_places 0 l.bar_of_entry
