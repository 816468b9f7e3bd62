use Rattle.std.proofs.Common.{List, string_bytes}
use Rattle.std.specs.List.{flat_map}
use Rattle.lc_draw.specs.Elements.{HasWritten}
use Rattle.lc_draw.specs.Shapes.{Lane, lane_elements}
use Rattle.lc_draw.proofs.svg.push_lanes.Given as goal

-- the lanes so far are written
abbrev pub invariant-loop-lane : goal.invariant-loop-lane
invariant-loop-lane l = (ls : List Lane) × HasWritten (flat_map lane_elements ls) (string_bytes l.fn.out) (string_bytes l.out)
