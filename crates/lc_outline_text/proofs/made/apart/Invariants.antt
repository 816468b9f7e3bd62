use Rattle.std.proofs.Common.{◌≡◌, ◌++◌, map}
use Rattle.lc_object.specs.View.{point_of}
use Rattle.lc_outline.specs.PartsView.{outline_of}
use Rattle.lc_outline_text.specs.Views.{outlined_of}
use Rattle.lc_outline_text.proofs.made.apart.Given as goal

-- the points and the outlines so far
abbrev pub invariant-loop-point : goal.invariant-loop-point
invariant-loop-point l = record {
  points : map point_of l.code.items ≡ map (λ p. p.0) (map outlined_of l.yielded);
  outlines : map outline_of l.outlines.items ≡ map outline_of l.fn.outlines.items ++ map (λ p. p.1) (map outlined_of l.yielded);
}
