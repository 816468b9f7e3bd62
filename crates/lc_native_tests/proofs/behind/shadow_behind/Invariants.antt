use Rattle.lc_native_tests.proofs.behind.shadow_behind.Given as goal

abbrev pub invariant-loop-made : goal.invariant-loop-made
invariant-loop-made g l = record {
  state : g.A.SeqObject.HasState l.object l.state;
  shadow : g.B.Shadows.HasShadow l.state;
}
