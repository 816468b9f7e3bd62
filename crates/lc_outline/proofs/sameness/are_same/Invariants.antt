use Rattle.std.proofs.Common.{◌≡◌, ◌↔◌, drop, map}
use Rattle.lc_outline.proofs.sameness.are_same.Given as goal

-- the lists are the same exactly if what is left of them is
abbrev pub invariant-loop-item : goal.invariant-loop-item
invariant-loop-item g l = (map g.T.Same.shown l.fn.left ≡ map g.T.Same.shown l.fn.right) ↔ (map g.T.Same.shown (drop l.item-index l.left) ≡ map g.T.Same.shown l.rest)
