use Rattle.std.proofs.Common.{◌≡◌, ◌++◌, ℕ, List, true, string_bytes}
use Rattle.std.specs.List.{flat_map}
use Rattle.lc_draw.specs.Elements.{are_plain}
use Rattle.lc_draw.specs.Shapes.{point_text}
use Rattle.lc_draw.proofs.svg.push_points.Given as goal

-- the points so far are written
abbrev pub invariant-loop-mark : goal.invariant-loop-mark
invariant-loop-mark l =
    (ps : List (ℕ × ℕ)) × (string_bytes l.out ≡ string_bytes l.fn.out ++ flat_map point_text ps) × (are_plain (flat_map point_text ps) ≡ true)
