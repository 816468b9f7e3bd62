use Rattle.std.proofs.Common.{ap}
use Rattle.lc_reading.specs.Readings.{mapped}
use Rattle.lc_rider_text.specs.Updates.{the_update}
use Rattle.lc_rider_text.proofs.update.read_update.Goals as goal

pub returns : goal.returns
returns g c = ap (mapped the_update) c.in_ok-column.ensures
