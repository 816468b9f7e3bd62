use Rattle.std.proofs.Common.{◌≡◌, ℕ, ◌++◌, [], take, drop}
use Rattle.lc_history.specs.History.{count, is_of}
use Rattle.lc_history.specs.View.{entries_view}
use Rattle.lc_draw.specs.Counting.{is_between, numbers_for, turns_of}
use Rattle.lc_draw.proofs.calls.numbers_of.Given as goal

-- the numbers so far, with those of the entries behind, are all
abbrev pub invariant-loop-done : goal.invariant-loop-done
invariant-loop-done l =
    let before = entries_view (take l.done-index l.order) in
    let test = is_between l.stretch.begun.entries l.stretch.returned.entries in
    ((c : ℕ) → turns_of l.seen.entries c ≡ count (is_of c) before)
    × (l.numbers.items ++ numbers_for test l.calls.numbers.entries before (entries_view (drop l.done-index l.order)) ≡ numbers_for test l.calls.numbers.entries [] (entries_view l.order))
