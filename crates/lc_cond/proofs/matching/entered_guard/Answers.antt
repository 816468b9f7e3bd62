use Rattle.lc_cond.proofs.matching.entered_guard.Goals as goal

pub replace-requires-clause-done : goal.replace-requires-clause-done
replace-requires-clause-done c = c.nothing_replaced-done.ensures _ _
