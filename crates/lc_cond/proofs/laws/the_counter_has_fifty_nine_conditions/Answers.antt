use Rattle.lc_cond.proofs.CounterCount.{is_counted}
use Rattle.lc_cond.proofs.laws.the_counter_has_fifty_nine_conditions.Goals as goal

pub returns : goal.returns
returns c = is_counted
