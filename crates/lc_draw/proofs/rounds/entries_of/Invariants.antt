use Rattle.std.proofs.Common.{◌≡◌, ℕ, take}
use Rattle.lc_history.specs.History.{count, is_of}
use Rattle.lc_history.specs.View.{entries_view}
use Rattle.lc_draw.specs.Counting.{turns_of}
use Rattle.lc_draw.proofs.rounds.entries_of.Given as goal

-- the entries so far are counted
abbrev pub invariant-loop-done : goal.invariant-loop-done
invariant-loop-done l = (c : ℕ) → turns_of l.turns.entries c ≡ count (is_of c) (entries_view (take l.done-index l.order))
