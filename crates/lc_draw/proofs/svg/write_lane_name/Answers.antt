use Rattle.std.proofs.Common.{arith}
use Rattle.lc_draw.proofs.Written.{lane_name_formed}
use Rattle.lc_draw.proofs.svg.write_lane_name.Goals as goal

pub returns-clause-formed : goal.returns-clause-formed
returns-clause-formed c = lane_name_formed c.args.client c.args.under (omega (arith, c.ranges.client.fits)) c.ranges.under.fits
