use Rattle.std.proofs.Common.{string_bytes}
use Rattle.lc_draw.proofs.Written.{order_written}
use Rattle.lc_draw.proofs.svg.push_order.Goals as goal

pub returns : goal.returns
returns c =
    let points = c.in_ok-push_points.ensures in (
      points.0,
      order_written points.0 (string_bytes c.args.out.now) (string_bytes c.push_str.new.self) (string_bytes c.push_points.new.out) (string_bytes c.push_str-2.new.self) c.in_ok-push_str.ensures.bytes points.1 points.2
          c.in_ok-push_str-2.ensures.bytes,
    )
