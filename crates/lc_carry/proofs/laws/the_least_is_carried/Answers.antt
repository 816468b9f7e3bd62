use Rattle.lc_carry.proofs.Chosen.{all_least, all_else}
use Rattle.lc_carry.proofs.laws.the_least_is_carried.Goals as goal

pub returns-clause-least : goal.returns-clause-least
returns-clause-least c = all_least

pub returns-clause-nothing_else : goal.returns-clause-nothing_else
returns-clause-nothing_else c = all_else
