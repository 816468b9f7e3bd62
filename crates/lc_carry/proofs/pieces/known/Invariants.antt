use Rattle.std.proofs.Common.{◌≡◌, ℕ, List, Some, map, take}
use Rattle.std.specs.Borrow.{Bor}
use Rattle.lc_carry.specs.Pieces.{key_of, kept_in}
use Rattle.lc_carry.proofs.pieces.known.Given as goal

-- the numbers of the pieces so far
abbrev pub invariant-loop-piece : goal.invariant-loop-piece
invariant-loop-piece l = key_of (kept_in l.kept.keys) (map (λ (piece : Bor (List ℕ)). piece.now) (take l.piece-index l.piece-items)) ≡ Some l.key.items
