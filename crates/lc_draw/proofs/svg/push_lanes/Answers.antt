use Rattle.std.proofs.Common.{◌++◌, ◌∷◌, [], string_bytes}
use Rattle.lc_draw.specs.Shapes.{lane_elements}
use Rattle.lc_draw.proofs.Written.{none_written, one_written}
use Rattle.lc_draw.proofs.svg.push_lanes.Goals as goal

pub loop-lane-init : goal.loop-lane-init
loop-lane-init c = ([], none_written (string_bytes c.args.out.now))

pub loop-lane-preserved : goal.loop-lane-preserved
loop-lane-preserved c =
    let old = c.loop-lane.invariant in
    let lane = c.in_ok-push_lane.ensures in
    (old.0 ++ lane.0 ∷ [], one_written lane_elements old.0 lane.0 (string_bytes c.args.out.now) (string_bytes c.loop-lane.out) (string_bytes c.push_lane.new.out) old.1 lane.1)
