use Rattle.lc_outline.specs.DevelopmentView.{development_view}
use Rattle.lc_run.specs.Ordering.{calls_in}
use Rattle.lc_trace.specs.Replays.{IsReady, world_of}
use Rattle.lc_trace.proofs.Tracing.{Leads}
use Rattle.lc_trace.proofs.telling.trace.Given as goal

-- what is told from here on is the rest of the trace
abbrev pub invariant-loop-label : goal.invariant-loop-label
invariant-loop-label l = record {
  ready : IsReady (development_view l.development) l.replay;
  leads : Leads (development_view l.development) l.clients l.labels (world_of l.replay) (calls_in l.calls.items) l.label-index l.text.items;
}
