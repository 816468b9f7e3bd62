use Rattle.std.proofs.Common.{string_bytes}
use Rattle.lc_draw.specs.Shapes.{Lane, lane_line, lane_name}
use Rattle.lc_draw.proofs.Written.{written_two}
use Rattle.lc_draw.proofs.svg.push_lane.Goals as goal

pub returns : goal.returns
returns c =
    let l : Lane = record { client = c.args.client; under = c.saturating_add.result; middle = c.middle_of-middle.result; until = c.args.sheet.until } in (
      l,
      written_two (lane_name l.client l.under) (lane_line l.middle l.until) (string_bytes c.args.out.now) (string_bytes c.write_lane_name.new.out) (string_bytes c.write_lane_line.new.out)
          c.in_ok-write_lane_name.ensures.text c.in_ok-write_lane_name.ensures.formed c.in_ok-write_lane_line.ensures.text c.in_ok-write_lane_line.ensures.formed,
    )
