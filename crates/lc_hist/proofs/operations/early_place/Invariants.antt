use Rattle.std.proofs.Common.{◌≡◌, ◌+◌, drop}
use Rattle.std.specs.Prelude.{option_map}
use Rattle.lc_seq.specs.SpecView.{operations_of}
use Rattle.lc_hist.specs.JsonValues.{place_of}
use Rattle.lc_hist.proofs.operations.early_place.Given as goal

-- the first place of the name, if it is among the operations that are left
abbrev pub invariant-loop-place : goal.invariant-loop-place
invariant-loop-place l = place_of (operations_of l.all) l.name ≡ option_map (λ k. l.place + k) (place_of (operations_of (drop l.place l.all)) l.name)
