use Rattle.lc_text_tests.proofs.term_text_tests.replaced_text.Goals as goal

pub replace-requires-clause-done : goal.replace-requires-clause-done
replace-requires-clause-done c = c.nothing_replaced.ensures _ _
