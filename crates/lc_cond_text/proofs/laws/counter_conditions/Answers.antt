use Rattle.lc_cond_text.proofs.Printed.{counter_is_printed, helpers_are_named, notes_observe}
use Rattle.lc_cond_text.proofs.laws.counter_conditions.Goals as goal

pub returns-clause-lines : goal.returns-clause-lines
returns-clause-lines c = counter_is_printed

pub returns-clause-named : goal.returns-clause-named
returns-clause-named c = helpers_are_named

pub returns-clause-observing : goal.returns-clause-observing
returns-clause-observing c = notes_observe
