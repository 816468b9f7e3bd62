use Rattle.lc_text_tests.proofs.term_text_tests.is_replaced_once.Goals as goal

pub replace_term-requires-clause-done : goal.replace_term-requires-clause-done
replace_term-requires-clause-done c = c.nothing_replaced-done.ensures _ _
