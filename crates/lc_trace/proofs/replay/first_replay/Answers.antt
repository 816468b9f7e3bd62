use Rattle.std.proofs.Common.{sym, ◌∙◌}
use Rattle.lc_machine.proofs.Worlds.{idle_placed}
use Rattle.lc_outline.specs.DevelopmentView.{development_view}
use Rattle.lc_trace.proofs.replay.first_replay.Goals as goal

pub returns-clause-ready : goal.returns-clause-ready
returns-clause-ready c = record {
  saved = c.in_ok-columns.ensures.state ∙ sym (c.new-draft.ensures.saved ∙ c.in_ok-start.ensures.state);
  same = c.in_ok-columns.ensures.columns ∙ sym (c.new-draft.ensures.columns ∙ c.in_ok-start.ensures.columns);
  count = c.new-draft.ensures.columns ∙ c.in_ok-start.ensures.columns;
  placed = idle_placed (development_view c.args.development.now).object c.in_ok-clients.clients.items c.args.clients c.in_ok-clients.ensures;
}
