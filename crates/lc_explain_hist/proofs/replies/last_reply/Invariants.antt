use Rattle.lc_explain_hist.proofs.replies.last_reply.Given as goal

abbrev pub invariant-loop-done : goal.invariant-loop-done
invariant-loop-done g l = g.S.SeqObject.HasState l.object l.state
