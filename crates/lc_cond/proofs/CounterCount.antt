-- How many conditions the counter has.
use Rattle.std.proofs.Common.{refl}
use Rattle.lc_cond.specs.CounterCount.{CounterIsCounted}

pub is_counted : CounterIsCounted
is_counted = (refl, refl)
