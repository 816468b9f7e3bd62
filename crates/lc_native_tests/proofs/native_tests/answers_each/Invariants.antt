use Rattle.lc_native_tests.proofs.native_tests.answers_each.Given as goal

abbrev pub invariant-loop-asked : goal.invariant-loop-asked
invariant-loop-asked g l = g.S.SeqObject.HasState l.object l.state
