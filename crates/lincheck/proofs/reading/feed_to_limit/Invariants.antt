use Rattle.std.proofs.Common.{◌≡◌, ℕ, List, length}
use Rattle.lincheck.proofs.Fed.{IsFedSoFar}
use Rattle.lincheck.proofs.reading.feed_to_limit.Given as goal

abbrev pub invariant-loop-turn : goal.invariant-loop-turn
invariant-loop-turn g l =
    (length l.piece ≡ 16384) × IsFedSoFar g.S.Sink.WasFed l.fn.sink l.sink (g.R.Read.remaining l.fn.reader) (g.R.Read.remaining l.reader) l.left
    × ((other : List ℕ) → g.F.Files.bytes_at l.files other ≡ g.F.Files.bytes_at l.fn.files other)
    × ((other : List ℕ) → g.F.Files.CannotOpen l.fn.files other → g.F.Files.CannotOpen l.files other)
