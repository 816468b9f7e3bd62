use Rattle.lc_running_claims.proofs.traces.tracing.Goals as goal

pub returns : goal.returns
returns c = c.trace.ensures
