use Rattle.std.proofs.Common.{◌≡◌, ◌+◌, ℕ, drop}
use Rattle.std.specs.Prelude.{◌==◌, option_map}
use Rattle.std.specs.Map.{lookup}
use Rattle.std.specs.Option.{option_or}
use Rattle.lc_cert.specs.EntryView.{entries_of}
use Rattle.lc_find.specs.FirstProofs.{place_at}
use Rattle.lc_find.proofs.first_proofs.FirstProofs.new.Given as goal

-- a number is at the place that is noted, else among the entries that are left
abbrev pub invariant-loop-place : goal.invariant-loop-place
invariant-loop-place l =
    (n : ℕ) → option_or (lookup (λ key. n == key) l.places.entries) (option_map (λ k. l.place + k) (place_at (entries_of (drop l.place l.entries)) n)) ≡ place_at (entries_of l.entries) n
