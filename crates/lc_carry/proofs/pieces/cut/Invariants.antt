use Rattle.std.proofs.Common.{◌≡◌, ◌≤◌, ◌++◌, ℕ, List, map, drop}
use Rattle.std.specs.Borrow.{Bor}
use Rattle.std.specs.List.{slice_range}
use Rattle.lc_carry.specs.Pieces.{pieces_behind, pieces}
use Rattle.lc_carry.proofs.pieces.cut.Given as goal

-- what is cut so far, and the pieces of what is left, are all
abbrev pub invariant-loop-place : goal.invariant-loop-place
invariant-loop-place l = record {
  all : map (λ (piece : Bor (List ℕ)). piece.now) l.cut.items ++ pieces_behind l.depth (slice_range l.text l.start l.place) (drop l.place l.text) ≡ pieces l.text;
  start : l.start ≤ l.place;
  depth : l.depth ≤ l.place;
}
