use Rattle.std.proofs.Common.{ap, sym, subst, ◌∙◌}
use Rattle.lc_history.specs.WellFormed.{IsWellFormed}
use Rattle.lc_outline.specs.DevelopmentView.{development_view}
use Rattle.lc_outline.specs.Resolved.{is_resolved}
use Rattle.lc_run.specs.LabelView.{labels_of}
use Rattle.lc_run.proofs.Turns.{held-well-formed, held-clients, held-small}
use Rattle.lc_run.proofs.recording.record_of.Goals as goal

pub of_well_formed-history-requires : goal.of_well_formed-history-requires
of_well_formed-history-requires c =
    subst IsWellFormed (sym c.in_ok-history_events.ensures)
    (held-well-formed (development_view c.args.development.now) c.args.clients (labels_of c.args.labels.now) (c.requires.run.0) c.requires.few ∣ c.requires.run.1 ∣₁)

pub order_of-requires-clause-clients : goal.order_of-requires-clause-clients
order_of-requires-clause-clients c = held-clients (development_view c.args.development.now) c.args.clients (labels_of c.args.labels.now) (c.requires.run.0) ∣ c.requires.run.1 ∣₁

pub order_of-requires-clause-small : goal.order_of-requires-clause-small
order_of-requires-clause-small c =
    held-small (development_view c.args.development.now) c.args.clients (labels_of c.args.labels.now) (c.requires.run.0) c.requires.few c.orders_linearize.ensures
    (c.developments_are_resolved.ensures (development_view c.args.development.now) (ap is_resolved (sym c.parts.ensures.shown) ∙ c.parts.ensures.resolved)) ∣ c.requires.run.1 ∣₁
