use Rattle.lc_table.specs.Tables.{IsTerm}
use Rattle.lc_text_tests.proofs.term_text_tests.doubled.Given as goal

abbrev pub invariant-loop : goal.invariant-loop
invariant-loop l = IsTerm l.terms l.sum
