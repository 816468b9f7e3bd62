use Rattle.std.proofs.Common.{◌≡◌, ◌+◌, ℕ, List, bytes_eq, drop}
use Rattle.std.specs.Prelude.{option_map}
use Rattle.std.specs.Map.{lookup}
use Rattle.std.specs.Option.{option_or}
use Rattle.lc_seq.specs.SpecView.{operations_of}
use Rattle.lc_hist.specs.JsonValues.{place_of}
use Rattle.lc_hist.proofs.operations.Operations.new.Given as goal

-- a name is at the place that is noted, else among the operations that are left
abbrev pub invariant-loop-place : goal.invariant-loop-place
invariant-loop-place l =
    (name : List ℕ) → option_or (lookup (λ key. bytes_eq name key.now) l.places.entries) (option_map (λ k. l.place + k) (place_of (operations_of (drop l.place l.all)) name)) ≡ place_of (operations_of l.all) name
